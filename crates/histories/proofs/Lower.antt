-- The schedule is a legal history with the rule's hits, and its sizes are the occupancies.
--
-- One induction over the touches. A hit of x puts x into each gap since its last touch. Those gaps have room, since their sizes are
-- the occupancies that the rule has tested; x stood in none of them; and no earlier verdict of the history changes.
use Rattle.std.proofs.Common.{◌≡◌, ℕ, Bool, true, false, eqb, List, [], ◌∷◌, map, length, sum, sym, refl, ap, arith}
use Rattle.std.proofs.lemmas.Bool.Decides.{nat_tests}
use Rattle.std.proofs.lemmas.Bool.{false≢true}
use Rattle.histories.specs.Rule.{trues, held, fits, raise, occupancies, verdicts, hits}
use Rattle.histories.specs.Histories.{latest, LegalTurn, Legal, turn_hits, earned}
use Rattle.histories.specs.Schedule.{put, schedule, Attains, Attained}

eqb_turn : (x y : ℕ) → eqb x y ≡ false → eqb y x ≡ false
eqb_turn x y e = grind (arith, nat_tests)

-- x stands in no gap since its last touch
abbrev pub Absent : ℕ → List ℕ → List (List ℕ) → Type 0
Absent x [] cs = Unit {0}
Absent x (t ∷ ts) [] = Unit {0}
Absent x (t ∷ ts) (c ∷ cs) = (held x c ≡ false) × (eqb x t ≡ false → Absent x ts cs)

absent_latest : (W x : ℕ) (ts : List ℕ) (cs : List (List ℕ)) → Legal W ts cs → Absent x ts cs → held x (latest cs) ≡ false
absent_latest W x [] [] l a = refl
absent_latest W x [] (c ∷ cs) l a = absurd l
absent_latest W x (t ∷ ts) [] l a = refl
absent_latest W x (t ∷ ts) (c ∷ cs) l a = a.0

-- what a hit of x leaves as it was for another line y
absent_put : (x y : ℕ) (ts : List ℕ) (cs : List (List ℕ)) → eqb y x ≡ false → Absent y ts cs → Absent y ts (put x ts cs)
unfolding put
absent_put x y [] cs e a = tt
absent_put x y (t ∷ ts) [] e a = tt
absent_put x y (t ∷ ts) (c ∷ cs) e a = grind (arith, nat_tests, absent_put x y ts cs)

pub latest_put : (x y : ℕ) (ts : List ℕ) (cs : List (List ℕ)) → eqb y x ≡ false → held y (latest (put x ts cs)) ≡ held y (latest cs)
unfolding put
latest_put x y [] cs e = refl
latest_put x y (t ∷ ts) [] e = refl
latest_put x y (t ∷ ts) (c ∷ cs) e = rw e

latest_more : (x y : ℕ) (ts : List ℕ) (cs : List (List ℕ)) → held y (latest cs) ≡ true → held y (latest (put x ts cs)) ≡ true
unfolding put
latest_more x y [] cs e = e
latest_more x y (t ∷ ts) [] e = e
latest_more x y (t ∷ ts) (c ∷ cs) e = grind arith

-- the sizes rise as the occupancies do
put_length : (x : ℕ) (ts : List ℕ) (cs : List (List ℕ)) → raise x ts (map length cs) ≡ map length (put x ts cs)
unfolding put raise
put_length x [] cs = refl
put_length x (t ∷ ts) [] = refl
put_length x (t ∷ ts) (c ∷ cs) = grind (arith, put_length x ts cs)

-- the history after a hit of x has put it in
record Added (W x : ℕ) (ts : List ℕ) (cs : List (List ℕ)) : Type 0 where
  legal : Legal W ts (put x ts cs)
  there : held x (latest (put x ts cs)) ≡ true
  same : turn_hits ts (put x ts cs) ≡ turn_hits ts cs

added : (W x : ℕ) (ts : List ℕ) (cs : List (List ℕ)) → Legal W ts cs → Absent x ts cs → fits W x ts (map length cs) ≡ true → Added W x ts cs
unfolding put fits turn_hits
added W x [] cs l a f = absurd (false≢true f)
added W x (t ∷ ts) [] l a f = absurd l
added W x (t ∷ ts) (c ∷ cs) l a f =
    let rec : eqb x t ≡ false → Added W x ts cs = λ n. added W x ts cs l.1 (a.1 n) (grind (arith, n)) in
    let legal : eqb x t ≡ false → Legal W ts (put x ts cs) = λ n. (rec n).legal in
    let there : eqb x t ≡ false → held x (latest (put x ts cs)) ≡ true = λ n. (rec n).there in
    let same : eqb x t ≡ false → turn_hits ts (put x ts cs) ≡ turn_hits ts cs = λ n. (rec n).same in
    let kept = l.0.kept in
    record {
      legal = (record { distinct = (a.0, l.0.distinct); small = grind (arith, nat_tests); kept = λ y e. grind (arith, nat_tests, kept y, there, latest_more x y ts cs) }, grind (arith, legal));
      there = grind (arith, nat_tests);
      same = grind (arith, nat_tests, same, latest_put x t ts cs);
    }

-- what the induction carries
pub record Sound (W : ℕ) (ts : List ℕ) : Type 0 where
  pub legal : Legal W ts (schedule W ts)
  pub absent : (x : ℕ) → Absent x ts (schedule W ts)
  pub turns : turn_hits ts (schedule W ts) ≡ verdicts W ts
  pub sizes : occupancies W ts ≡ map length (schedule W ts)

pub sound : (W : ℕ) (ts : List ℕ) → Sound W ts
unfolding schedule turn_hits verdicts occupancies
sound W [] = record { legal = tt; absent = λ x. tt; turns = refl; sizes = refl }
sound W (t ∷ ts) = go (fits W t ts (occupancies W ts)) refl (sound W ts)
  where
    s : List (List ℕ)
    s = schedule W ts

    none : (d : List ℕ) → LegalTurn W t [] d
    none d = record { distinct = tt; small = omega arith; kept = λ y e. absurd (false≢true e) }

    go : (b : Bool) → fits W t ts (occupancies W ts) ≡ b → Sound W ts → Sound W (t ∷ ts)
    go true e k =
        let m = added W t ts s k.legal (k.absent t) (rw (← k.sizes) e) in
        record { legal = rw e (none (latest (put t ts s)), m.legal); absent = λ x. rw e (refl, λ n. absent_put t x ts s n (k.absent x)); turns = rw (e, m.there, m.same, k.turns); sizes = rw (e, k.sizes, put_length) }
    go false e k =
        record { legal = rw e (none (latest s), k.legal); absent = λ x. rw e (refl, λ n. k.absent x); turns = rw (e, absent_latest W t ts s k.legal (k.absent t), k.turns); sizes = rw (e, k.sizes) }

-- what else a history attains that has the rule's verdicts and sizes
pub attains : (W : ℕ) (ts : List ℕ) (cs : List (List ℕ)) → Legal W ts cs → turn_hits ts cs ≡ verdicts W ts → map length cs ≡ occupancies W ts → Attains W ts cs
unfolding earned hits
attains W ts cs l v s = record { legal = l; turns = v; count = ap trues v; sizes = s; filled = ap sum s }

pub attained : Attained
attained W ts = let k = sound W ts in attains W ts (schedule W ts) k.legal k.turns (sym k.sizes)
