-- One more at each place of a part. Assumes nothing.
use Rattle.std.proofs.Common.{◌≡◌, ℕ, zero, suc, ◌+◌, ◌-◌, ◌<◌, ◌≤◌, min, List, [], ◌∷◌, ◌++◌, length, sym, refl, ap, ◌∙◌, ap₂, ⊎_elim, arith}
use Rattle.std.proofs.lemmas.List.{nil_from_length}
use Rattle.std.proofs.lemmas.Bool.{cases_lt}
use Rattle.summaries.specs.Algebra.{Within, Small}
use Rattle.summaries.specs.Stretches.{lift, bump}

pub bump_nil : (a b : ℕ) (xs : List ℕ) → length xs ≡ 0 → bump a b xs ≡ xs
bump_nil a b xs e = let n = nil_from_length xs e in ap (bump a b) n ∙ sym n

pub bump_none : (a b : ℕ) (xs : List ℕ) → b ≤ a → bump a b xs ≡ xs
bump_none a b [] h = refl
bump_none a zero (x ∷ xs) h = refl
bump_none zero (suc b) (x ∷ xs) h = let z : ⊥ = omega arith in absurd z
bump_none (suc a) (suc b) (x ∷ xs) h = ap (◌∷◌ x) (bump_none a b xs (omega arith))

pub bump_all : (b : ℕ) (xs : List ℕ) → length xs ≤ b → bump 0 b xs ≡ lift 1 xs
bump_all b [] h = refl
bump_all zero (x ∷ xs) h = let z : ⊥ = omega arith in absurd z
bump_all (suc b) (x ∷ xs) h = ap (◌∷◌ (x + 1)) (bump_all b xs (omega arith))

pub length_bump : (a b : ℕ) (xs : List ℕ) → length (bump a b xs) ≡ length xs
length_bump a b [] = refl
length_bump a zero (x ∷ xs) = refl
length_bump zero (suc b) (x ∷ xs) = ap suc (length_bump zero b xs)
length_bump (suc a) (suc b) (x ∷ xs) = ap suc (length_bump a b xs)

pub bump_append : (a b : ℕ) (xs ys : List ℕ) → bump a b (xs ++ ys) ≡ bump a b xs ++ bump (a - length xs) (b - length xs) ys
bump_append a b [] ys = let e : a ≡ a - 0 = omega arith in let f : b ≡ b - 0 = omega arith in ap₂ (λ i j. bump i j ys) e f
bump_append a zero (x ∷ xs) ys = ap (λ r. x ∷ (xs ++ r)) (sym (bump_none (a - suc (length xs)) (0 - suc (length xs)) ys (omega arith)))
bump_append zero (suc b) (x ∷ xs) ys =
    let e : 0 - length xs ≡ 0 - suc (length xs) = omega arith in
    let f : b - length xs ≡ suc b - suc (length xs) = omega arith in
    ap (◌∷◌ (x + 1)) (bump_append zero b xs ys ∙ ap₂ (λ i j. bump 0 b xs ++ bump i j ys) e f)
bump_append (suc a) (suc b) (x ∷ xs) ys =
    let e : a - length xs ≡ suc a - suc (length xs) = omega arith in
    let f : b - length xs ≡ suc b - suc (length xs) = omega arith in
    ap (◌∷◌ x) (bump_append a b xs ys ∙ ap₂ (λ i j. bump a b xs ++ bump i j ys) e f)

bump_lift : (p a b : ℕ) (xs : List ℕ) → bump a b (lift p xs) ≡ lift p (bump a b xs)
bump_lift p a b [] = refl
bump_lift p a zero (x ∷ xs) = refl
bump_lift p zero (suc b) (x ∷ xs) = ap₂ ◌∷◌ (omega arith) (bump_lift p zero b xs)
bump_lift p (suc a) (suc b) (x ∷ xs) = ap (◌∷◌ (x + p)) (bump_lift p a b xs)

pub bump_clip : (a b c : ℕ) (xs : List ℕ) → length xs ≤ c → bump a b xs ≡ bump a (min b c) xs
bump_clip a b c [] h = refl
bump_clip a b zero (x ∷ xs) h = let z : ⊥ = omega arith in absurd z
bump_clip a zero (suc c) (x ∷ xs) h = let e : 0 ≡ min 0 (suc c) = omega arith in ap (λ i. bump a i (x ∷ xs)) e
bump_clip zero (suc b) (suc c) (x ∷ xs) h =
    let e : suc (min b c) ≡ min (suc b) (suc c) = omega arith in
    ap (◌∷◌ (x + 1)) (bump_clip zero b c xs (omega arith)) ∙ ap (λ i. bump zero i (x ∷ xs)) e
bump_clip (suc a) (suc b) (suc c) (x ∷ xs) h =
    let e : suc (min b c) ≡ min (suc b) (suc c) = omega arith in
    ap (◌∷◌ x) (bump_clip a b c xs (omega arith)) ∙ ap (λ i. bump (suc a) i (x ∷ xs)) e

-- the right half's part, counted from the right half's start
shifted : (n c a b : ℕ) (gr : List ℕ) → length gr ≡ n - c → bump (a - min n c) (b - min n c) gr ≡ bump (a - c) (b - c) gr
shifted n c a b gr e =
    ⊎_elim
    (λ h. let none : length gr ≡ 0 = omega arith in bump_nil (a - min n c) (b - min n c) gr none ∙ sym (bump_nil (a - c) (b - c) gr none))
    (λ h. let m : min n c ≡ c = omega arith in ap (λ i. bump (a - i) (b - i) gr) m)
    (cases_lt n c)

pub split_bump : (n c a b p : ℕ) (gl gr : List ℕ) → length gl ≡ min n c → length gr ≡ n - c
    → bump a b (lift p (gl ++ gr)) ≡ lift p (bump a (min b c) gl ++ bump (a - c) (b - c) gr)
split_bump n c a b p gl gr e f =
    bump_lift p a b (gl ++ gr) ∙ ap (lift p) (bump_append a b gl gr
    ∙ ap₂ ◌++◌ (bump_clip a b c gl (omega arith)) (ap (λ i. bump (a - i) (b - i) gr) e ∙ shifted n c a b gr f))

within_bump : (m a b : ℕ) (xs : List ℕ) → Within m (bump a b xs) → Within m xs
within_bump m a b [] h = tt
within_bump m a zero (x ∷ xs) h = h
within_bump m zero (suc b) (x ∷ xs) h = (omega (arith, h.0), within_bump m zero b xs h.1)
within_bump m (suc a) (suc b) (x ∷ xs) h = (h.0, within_bump m a b xs h.1)

pub small_bump : (a b : ℕ) (xs : List ℕ) → Small (bump a b xs) → Small xs
small_bump a b xs s = record { few = omega (arith, s.few, length_bump a b xs); low = within_bump 16 a b xs s.low }

pub lift_lift : (p q : ℕ) (xs : List ℕ) → lift q (lift p xs) ≡ lift (p + q) xs
lift_lift p q [] = refl
lift_lift p q (x ∷ xs) = ap₂ ◌∷◌ (omega arith) (lift_lift p q xs)

-- what was added to each of some numbers is below their bound
pub added_low : (m p : ℕ) (xs : List ℕ) → 0 < length xs → Within m (lift p xs) → p ≤ m
added_low m p [] h w = omega arith
added_low m p (x ∷ xs) h w = omega (arith, w.0)
