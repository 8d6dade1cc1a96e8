-- The schedule by index: a line is held exactly between a touch and its next, where that next one is a hit.
use Rattle.std.proofs.Common.{◌≡◌, ℕ, ◌<◌, ◌≤◌, Bool, true, false, cond, ◌||◌, eqb, leb, ◌⊎◌, ◌↔◌, List, [], ◌∷◌, ◌++◌, length, get_or, drop, sym, refl, ap, ◌∙◌, subst, inl, inr, arith, length-append}
use Rattle.std.proofs.lemmas.Bool.{leb-true, both_ways, false≢true}
use Rattle.std.proofs.lemmas.Bool.Decides.{nat_tests}
use Rattle.histories.specs.Rule.{held, occupancies, hit, LastTouch}
use Rattle.histories.specs.Histories.{Legal}
use Rattle.histories.specs.Schedule.{put, schedule, Kept, KeptForHits}
use Rattle.histories.proofs.Lower.{sound}
use Rattle.histories.proofs.Index.{at, Where, where_is, last_newest, last_older, last_touch}

length_put : (x : ℕ) (ts : List ℕ) (cs : List (List ℕ)) → length (put x ts cs) ≡ length cs
unfolding put
length_put x [] cs = refl
length_put x (t ∷ ts) [] = refl
length_put x (t ∷ ts) (c ∷ cs) = grind (arith, length_put x ts cs)

length_legal : (W : ℕ) (ts : List ℕ) (cs : List (List ℕ)) → Legal W ts cs → length cs ≡ length ts
length_legal W [] [] l = refl
length_legal W [] (c ∷ cs) l = absurd l
length_legal W (t ∷ ts) [] l = absurd l
length_legal W (t ∷ ts) (c ∷ cs) l = grind (arith, length_legal W ts cs)

length_schedule : (W : ℕ) (ts : List ℕ) → length (schedule W ts) ≡ length ts
length_schedule W ts = length_legal W ts (schedule W ts) (sound W ts).legal

-- a line that is put in is held from its last touch on
put_at : (x : ℕ) (ts : List ℕ) (cs : List (List ℕ)) → length cs ≡ length ts → (p : ℕ) → LastTouch ts x p → (i : ℕ) → i < length cs → at [] (put x ts cs) i ≡ cond (leb p i) (x ∷ at [] cs i) (at [] cs i)
unfolding put
put_at x [] cs e p l i h = absurd (omega (arith, l.past))
put_at x (t ∷ ts) [] e p l i h = absurd (omega arith)
put_at x (t ∷ ts) (c ∷ cs) e p l i h =
    let past = l.past in
    let rec = put_at x ts cs (omega arith) p in
    let same = length_put x ts cs in
    grind (arith, nat_tests, last_newest x t ts p, last_older x t ts p, rec, where_is [] c cs i, where_is [] (x ∷ c) cs i, where_is [] (x ∷ c) (put x ts cs) i)

-- a line has one last touch
last_one : (ts : List ℕ) (x p q : ℕ) → LastTouch ts x p → LastTouch ts x q → p ≡ q
last_one ts x p q l m = let here = l.here in let there = m.here in grind (arith, l.since q, m.since p, l.past, m.past)

-- ---- one more touch

later : (W t : ℕ) (ts : List ℕ) (i y : ℕ) → Kept W ts i y → Kept W (t ∷ ts) i y
later W t ts i y k = record { newer = t ∷ k.newer; older = k.older; split = ap (λ l. t ∷ l) k.split; taken = k.taken; until = k.until; p = k.p; last = k.last; since = k.since }

inside : (W : ℕ) (ts : List ℕ) (i y : ℕ) → Kept W ts i y → i < length ts
inside W ts i y k = omega (arith, ap length k.split, length-append k.newer (y ∷ k.older), k.until)

-- t is kept until now, for it is a hit
abbrev UntilNow : ℕ → ℕ → List ℕ → ℕ → Type 0
UntilNow W t ts i = (hit W t ts ≡ true) × (i < length ts) × ((p : ℕ) × LastTouch ts t p × (p ≤ i))

latest_kept : (W t : ℕ) (ts : List ℕ) (i : ℕ) → UntilNow W t ts i → Kept W (t ∷ ts) i t
latest_kept W t ts i u = record { newer = []; older = ts; split = refl; taken = u.0; until = u.1; p = u.2.0; last = u.2.1; since = u.2.2 }

-- a line is kept until now or until an earlier touch
which : (W t : ℕ) (ts : List ℕ) (i y : ℕ) → Kept W (t ∷ ts) i y → ((y ≡ t) × UntilNow W t ts i) ⊎ Kept W ts i y
which W t ts i y k = go k.newer k.older k.split k.taken k.until k.last
  where
    go : (newer older : List ℕ) → t ∷ ts ≡ newer ++ y ∷ older → hit W y older ≡ true → i < length older → LastTouch older y k.p → ((y ≡ t) × UntilNow W t ts i) ⊎ Kept W ts i y
    go [] older e a b l =
        let here : y ≡ t = sym (ap (λ s. get_or s 0 0) e) in
        let rest : older ≡ ts = sym (ap (drop 1) e) in
        inl (here, (subst (λ s. hit W t s ≡ true) rest (subst (λ x. hit W x older ≡ true) here a), subst (λ s. i < length s) rest b, (k.p, subst (λ s. LastTouch s t k.p) rest (subst (λ x. LastTouch older x k.p) here l), k.since)))
    go (n ∷ newer) older e a b l = inr (record { newer = newer; older = older; split = ap (drop 1) e; taken = a; until = b; p = k.p; last = l; since = k.since })

-- what is held after an older turn i, once t has been touched
abbrev new : ℕ → ℕ → List ℕ → Bool → List (List ℕ)
new W t ts b = cond b (put t ts (schedule W ts)) (schedule W ts)

length_new : (W t : ℕ) (ts : List ℕ) (b : Bool) → length (new W t ts b) ≡ length ts
length_new W t ts true = length_put t ts (schedule W ts) ∙ length_schedule W ts
length_new W t ts false = length_schedule W ts

new_at : (W t : ℕ) (ts : List ℕ) (i y : ℕ) → i < length ts → (b : Bool) → hit W t ts ≡ b → (held y (at [] (new W t ts b) i) ≡ true) ↔ (((y ≡ t) × UntilNow W t ts i) ⊎ (held y (at [] (schedule W ts) i) ≡ true))
new_at W t ts i y h false e = (λ k. inr k, back)
  where
    back : ((y ≡ t) × UntilNow W t ts i) ⊎ (held y (at [] (schedule W ts) i) ≡ true) → held y (at [] (schedule W ts) i) ≡ true
    back (inl k) = absurd (both_ways (hit W t ts) e k.1.0)
    back (inr k) = k
new_at W t ts i y h true e =
    let (p, l) = last_touch W t ts (occupancies W ts) e in
    let is = put_at t ts (schedule W ts) (length_schedule W ts) p l i (omega (arith, length_schedule W ts)) in
    let one : (q : ℕ) → LastTouch ts t q → q ≡ p = λ q m. last_one ts t q p m l in
    let old = held y (at [] (schedule W ts) i) in
    let so : held y (at [] (put t ts (schedule W ts)) i) ≡ cond (leb p i) (eqb y t || old) old = rw is (grind arith) in
    let until : leb p i ≡ true → UntilNow W t ts i = λ k. (e, h, (p, l, leb-true p i k)) in
    (λ q. grind (arith, nat_tests, so, until), λ q. grind (arith, nat_tests, so, one))

pub kept_for_hits : KeptForHits
unfolding schedule
kept_for_hits W [] i y h = absurd (omega arith)
kept_for_hits W (t ∷ ts) i y h = go (where_is [] [] (new W t ts (hit W t ts)) i (omega (arith, length_new W t ts (hit W t ts)))) (kept_for_hits W ts i y)
  where
    go : Where [] [] (new W t ts (hit W t ts)) i → (i < length ts → (held y (at [] (schedule W ts) i) ≡ true) ↔ Kept W ts i y) → (held y (at [] ([] ∷ new W t ts (hit W t ts)) i) ≡ true) ↔ Kept W (t ∷ ts) i y
    go (inl k) rec =
        let n = length_new W t ts (hit W t ts) in
        (λ q. absurd (false≢true (sym (ap (held y) k.1) ∙ q)), λ q. grind (arith, which W t ts i y q, inside W ts i y))
    go (inr k) rec =
        let low : i < length ts = omega (arith, k.0, length_new W t ts (hit W t ts)) in
        let n = new_at W t ts i y low (hit W t ts) refl in
        let now : y ≡ t → UntilNow W t ts i → Kept W (t ∷ ts) i y = λ e u. subst (Kept W (t ∷ ts) i) (sym e) (latest_kept W t ts i u) in (
          λ q. let m = n.0 (sym (ap (held y) k.1) ∙ q) in grind (arith, now, later W t ts i y, rec low),
          λ q. ap (held y) k.1 ∙ n.1 (grind (arith, which W t ts i y q, rec low)),
        )
