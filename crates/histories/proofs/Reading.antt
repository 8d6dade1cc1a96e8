-- The rows, read forward as a loader does, hold what the schedule holds.
--
-- One induction over the touches: a hit of x sets the hold of its last touch and puts x into each gap since. Read forward, that hold
-- puts x in at its last touch, and no row since then takes it out.
use Rattle.std.proofs.Common.{◌≡◌, ℕ, zero, suc, Bool, true, false, cond, not, ◌&&◌, ◌||◌, eqb, List, [], ◌∷◌, map, length, get_or, sym, refl, ap, ◌∙◌, ap₂, arith}
use Rattle.std.proofs.lemmas.Bool.Decides.{nat_tests}
use Rattle.std.proofs.lemmas.Bool.{eq-eqb, or_left, false≢true}
use Rattle.histories.specs.Rule.{held, fits, occupancies, hit, verdicts}
use Rattle.histories.specs.Histories.{latest, Distinct, Legal, turn_hits}
use Rattle.histories.specs.Schedule.{put, schedule, mark, holds, without, resident, rows_with, rows, HeldByRows}
use Rattle.histories.proofs.Counts.{same_length}
use Rattle.histories.proofs.Lower.{latest_put, Sound, sound, attains}

-- ---- one row

-- what is held after a touch of x with this hold, where c was held before
abbrev pub read_row : Bool → ℕ → List ℕ → List ℕ
read_row h x c = cond h (x ∷ without x c) (without x c)

held_without : (x y : ℕ) (c : List ℕ) → held y (without x c) ≡ (not (eqb y x) && held y c)
held_without x y [] = grind arith
held_without x y (z ∷ zs) = grind (arith, nat_tests, held_without x y zs)

pub held_read : (h : Bool) (x y : ℕ) (c : List ℕ) → held y (read_row h x c) ≡ cond (eqb y x) h (held y c)
held_read true x y c = let k = held_without x y c in grind (arith, nat_tests)
held_read false x y c = let k = held_without x y c in grind (arith, nat_tests)

distinct_without : (x : ℕ) (c : List ℕ) → Distinct c → Distinct (without x c)
distinct_without x [] d = tt
distinct_without x (z ∷ zs) d = grind (arith, nat_tests, distinct_without x zs, held_without x z zs)

distinct_read : (h : Bool) (x : ℕ) (c : List ℕ) → Distinct c → Distinct (read_row h x c)
distinct_read true x c d = (let m = held_without x x c in grind (arith, nat_tests), distinct_without x c d)
distinct_read false x c d = distinct_without x c d

-- ---- histories that hold the same

-- the same lines after each turn, in whatever order
abbrev Same : List (List ℕ) → List (List ℕ) → Type 0
Same [] [] = Unit {0}
Same [] (d ∷ ds) = ⊥
Same (c ∷ cs) [] = ⊥
Same (c ∷ cs) (d ∷ ds) = ((y : ℕ) → held y c ≡ held y d) × Same cs ds

same_at : (cs ds : List (List ℕ)) → Same cs ds → (i y : ℕ) → held y (get_or cs i []) ≡ held y (get_or ds i [])
same_at [] [] s i y = refl
same_at [] (d ∷ ds) s i y = absurd s
same_at (c ∷ cs) [] s i y = absurd s
same_at (c ∷ cs) (d ∷ ds) s zero y = s.0 y
same_at (c ∷ cs) (d ∷ ds) s (suc i) y = same_at cs ds s.1 i y

distinct_latest : (W : ℕ) (ts : List ℕ) (cs : List (List ℕ)) → Legal W ts cs → Distinct (latest cs)
distinct_latest W [] [] l = tt
distinct_latest W [] (c ∷ cs) l = absurd l
distinct_latest W (t ∷ ts) [] l = absurd l
distinct_latest W (t ∷ ts) (c ∷ cs) l = l.0.distinct

same_latest : (cs ds : List (List ℕ)) → Same cs ds → (y : ℕ) → held y (latest cs) ≡ held y (latest ds)
same_latest [] [] s y = refl
same_latest [] (d ∷ ds) s y = absurd s
same_latest (c ∷ cs) [] s y = absurd s
same_latest (c ∷ cs) (d ∷ ds) s y = s.0 y

same_turns : (ts : List ℕ) (cs ds : List (List ℕ)) → Same cs ds → turn_hits ts cs ≡ turn_hits ts ds
unfolding turn_hits
same_turns [] cs ds s = refl
same_turns (t ∷ ts) [] [] s = refl
same_turns (t ∷ ts) [] (d ∷ ds) s = absurd s
same_turns (t ∷ ts) (c ∷ cs) [] s = absurd s
same_turns (t ∷ ts) (c ∷ cs) (d ∷ ds) s = grind (arith, same_latest cs ds s.1 t, same_turns ts cs ds s.1)

same_sizes : (W : ℕ) (ts : List ℕ) (cs ds : List (List ℕ)) → Legal W ts cs → Legal W ts ds → Same cs ds → map length cs ≡ map length ds
same_sizes W ts [] [] k l s = refl
same_sizes W ts [] (d ∷ ds) k l s = absurd s
same_sizes W ts (c ∷ cs) [] k l s = absurd s
same_sizes W [] (c ∷ cs) (d ∷ ds) k l s = absurd k
same_sizes W (t ∷ ts) (c ∷ cs) (d ∷ ds) k l s = ap₂ ◌∷◌ (same_length c d k.0.distinct l.0.distinct s.0) (same_sizes W ts cs ds k.1 l.1 s.1)

-- ---- the rows of a schedule

abbrev read : ℕ → List ℕ → List Bool → List (List ℕ)
read W ts hs = resident (rows_with W ts hs)

-- a line that was touched is held after it has been put in
latest_there : (W x : ℕ) (ts : List ℕ) (cs : List (List ℕ)) → Legal W ts cs → held x ts ≡ true → held x (latest (put x ts cs)) ≡ true
unfolding put
latest_there W x [] cs l e = absurd (false≢true e)
latest_there W x (t ∷ ts) [] l e = absurd l
latest_there W x (t ∷ ts) (c ∷ cs) l e = or_left (eqb x x) (held x c) (eq-eqb x x refl)

-- a hold that is set puts its line in until now
marked : (W x : ℕ) (ts : List ℕ) (hs : List Bool) (cs : List (List ℕ)) → Legal W ts cs → held x ts ≡ true → Same (read W ts hs) cs → Same (read W ts (mark x ts hs)) (put x ts cs)
unfolding put mark resident rows_with
marked W x [] hs cs l e s = absurd (false≢true e)
marked W x (t ∷ ts) hs [] l e s = absurd l
marked W x (t ∷ ts) [] (c ∷ cs) l e s = absurd s
marked W x (t ∷ ts) (h ∷ hs) (c ∷ cs) l e s = go (eqb x t) refl e (marked W x ts hs cs l.1)
  where
    go : (b : Bool) → eqb x t ≡ b → (b || held x ts) ≡ true → (held x ts ≡ true → Same (read W ts hs) cs → Same (read W ts (mark x ts hs)) (put x ts cs))
        → Same (resident (rows_with W (t ∷ ts) (cond b (true ∷ hs) (h ∷ mark x ts hs)))) ((x ∷ c) ∷ cond b cs (put x ts cs))
    go true k f rec = (one, s.1)
      where
        one : (y : ℕ) → held y (read_row true t (latest (read W ts hs))) ≡ held y (x ∷ c)
        one y = let m = held_read true t y (latest (read W ts hs)) in let n = held_read h t y (latest (read W ts hs)) in let o = s.0 y in grind (arith, nat_tests)
    go false k f rec = (one, r)
      where
        r : Same (read W ts (mark x ts hs)) (put x ts cs)
        r = rec f s.1

        one : (y : ℕ) → held y (read_row h t (latest (read W ts (mark x ts hs)))) ≡ held y (x ∷ c)
        one y =
            let old = held_read h t y (latest (read W ts hs)) in
            let new = held_read h t y (latest (read W ts (mark x ts hs))) in
            let was = s.0 y in
            grind (arith, nat_tests, same_latest (read W ts (mark x ts hs)) (put x ts cs) r y, same_latest (read W ts hs) cs s.1 y, latest_there W x ts cs l.1 f, latest_put x y ts cs)

latest_schedule : (W : ℕ) (ts : List ℕ) → latest (schedule W ts) ≡ []
unfolding schedule
latest_schedule W [] = refl
latest_schedule W (t ∷ ts) = refl

fits_held : (W x : ℕ) (ts os : List ℕ) → fits W x ts os ≡ true → held x ts ≡ true
unfolding fits
fits_held W x [] os f = f
fits_held W x (t ∷ ts) [] f = absurd (false≢true f)
fits_held W x (t ∷ ts) (o ∷ os) f = grind (arith, fits_held W x ts os)

-- the holds that the rule gives, read forward, and the schedule
same : (W : ℕ) (ts : List ℕ) → Same (read W ts (holds W ts)) (schedule W ts)
unfolding schedule holds resident rows_with
same W [] = tt
same W (t ∷ ts) = go (hit W t ts) refl (same W ts)
  where
    s : List (List ℕ)
    s = schedule W ts

    -- nothing but t was held before, and t is taken out
    emptied : (cs ds : List (List ℕ)) → Same cs ds → ((y : ℕ) → eqb y t ≡ false → held y (latest ds) ≡ false) → (y : ℕ) → held y (read_row false t (latest cs)) ≡ false
    emptied cs ds k n y = grind (arith, nat_tests, held_read false t y (latest cs), same_latest cs ds k y, n y)

    go : (b : Bool) → hit W t ts ≡ b → Same (read W ts (holds W ts)) s
        → Same (read W (t ∷ ts) (false ∷ cond b (mark t ts (holds W ts)) (holds W ts))) ([] ∷ cond b (put t ts s) s)
    go true e k =
        let m = marked W t ts (holds W ts) s (sound W ts).legal (fits_held W t ts (occupancies W ts) e) k in
        (emptied (read W ts (mark t ts (holds W ts))) (put t ts s) m (λ y n. latest_put t y ts s n ∙ ap (held y) (latest_schedule W ts)), m)
    go false e k = (emptied (read W ts (holds W ts)) s k (λ y n. ap (held y) (latest_schedule W ts)), k)

-- rows that hold what a legal history holds are a legal history
legal_read : (W : ℕ) (ts : List ℕ) (hs : List Bool) (cs : List (List ℕ)) → Legal W ts cs → Same (read W ts hs) cs → Legal W ts (read W ts hs)
unfolding resident rows_with
legal_read W [] hs cs l s = tt
legal_read W (t ∷ ts) hs [] l s = absurd l
legal_read W (t ∷ ts) [] (c ∷ cs) l s = absurd s
legal_read W (t ∷ ts) (h ∷ hs) (c ∷ cs) l s =
    let L = latest (read W ts hs) in
    let older = legal_read W ts hs cs l.1 s.1 in
    let apart = distinct_read h t L (distinct_latest W ts (read W ts hs) older) in
    let size = same_length (read_row h t L) c apart l.0.distinct s.0 in
    let small = l.0.small in
    (record { distinct = apart; small = omega arith; kept = λ y e. grind (arith, nat_tests, held_read h t y L) }, older)

length_mark : (x : ℕ) (ts : List ℕ) (hs : List Bool) → length (mark x ts hs) ≡ length hs
unfolding mark
length_mark x [] hs = refl
length_mark x (t ∷ ts) [] = refl
length_mark x (t ∷ ts) (h ∷ hs) = grind (arith, length_mark x ts hs)

pub length_holds : (W : ℕ) (ts : List ℕ) → length (holds W ts) ≡ length ts
unfolding holds
length_holds W [] = refl
length_holds W (t ∷ ts) = grind (arith, length_mark t ts (holds W ts), length_holds W ts)

lines : (W : ℕ) (ts : List ℕ) (hs : List Bool) → length hs ≡ length ts → map (λ r. r.line) (rows_with W ts hs) ≡ ts
unfolding rows_with
lines W [] hs e = refl
lines W (t ∷ ts) [] e = absurd (omega arith)
lines W (t ∷ ts) (h ∷ hs) e = ap (λ l. t ∷ l) (lines W ts hs (omega arith))

told : (W : ℕ) (ts : List ℕ) (hs : List Bool) → length hs ≡ length ts → map (λ r. r.verdict) (rows_with W ts hs) ≡ verdicts W ts
unfolding rows_with verdicts
told W [] hs e = refl
told W (t ∷ ts) [] e = absurd (omega arith)
told W (t ∷ ts) (h ∷ hs) e = ap (λ l. hit W t ts ∷ l) (told W ts hs (omega arith))

pub held_by_rows : HeldByRows
unfolding rows
held_by_rows W ts = record {
  lines = lines W ts (holds W ts) (length_holds W ts);
  told = told W ts (holds W ts) (length_holds W ts);
  attains = attains W ts (read W ts (holds W ts)) legal (same_turns ts _ _ s ∙ k.turns) (same_sizes W ts _ _ legal k.legal s ∙ sym k.sizes);
  same = same_at _ _ s;
}
  where
    k : Sound W ts
    k = sound W ts

    s : Same (read W ts (holds W ts)) (schedule W ts)
    s = same W ts

    legal : Legal W ts (read W ts (holds W ts))
    legal = legal_read W ts (holds W ts) (schedule W ts) k.legal s
