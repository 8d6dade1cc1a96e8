-- Lists of lines: without a line, the first of them, and how far into a list a line stands.
use Rattle.std.proofs.Common.{◌≡◌, ℕ, zero, suc, ◌<◌, ◌≤◌, true, false, cond, not, ◌&&◌, eqb, ltb, List, [], ◌∷◌, length, take, sym, refl, ap, ◌∙◌, ⊎_elim, arith}
use Rattle.std.proofs.lemmas.Bool.{cases_Bool}
use Rattle.std.proofs.lemmas.List.{length-take, take_all}
use Rattle.std.proofs.lemmas.Bool.Decides.{nat_tests}
use Rattle.histories.specs.Rule.{held}
use Rattle.replacement.proofs.Distinct.{distinct}
use Rattle.replacement.specs.Lru.{since, others, recent}

pub has_take : (n y : ℕ) (l : List ℕ) → held y l ≡ false → held y (take n l) ≡ false
has_take zero y l h = refl
has_take (suc n) y [] h = refl
has_take (suc n) y (z ∷ zs) h = grind (arith, nat_tests, has_take n y zs)

pub has_others : (x y : ℕ) (l : List ℕ) → held y (others x l) ≡ (held y l && not (eqb x y))
has_others x y [] = refl
has_others x y (z ∷ zs) = grind (arith, nat_tests, has_others x y zs)

pub distinct_others : (x : ℕ) (l : List ℕ) → distinct l ≡ true → distinct (others x l) ≡ true
distinct_others x [] h = refl
distinct_others x (y ∷ ys) h = grind (arith, nat_tests, distinct_others x ys, has_others x y ys)

pub others_none : (x : ℕ) (l : List ℕ) → held x l ≡ false → others x l ≡ l
others_none x [] h = refl
others_none x (y ∷ ys) h = grind (arith, nat_tests, others_none x ys)

pub length_others : (x : ℕ) (l : List ℕ) → distinct l ≡ true → held x l ≡ true → suc (length (others x l)) ≡ length l
length_others x [] d h = grind (arith, nat_tests)
length_others x (y ∷ ys) d h = grind (arith, nat_tests, others_none x ys, length_others x ys)

pub since_within : (y : ℕ) (l : List ℕ) → held y l ≡ true → since y l < length l
since_within y [] h = grind (arith, nat_tests)
since_within y (z ∷ zs) h = grind (arith, nat_tests, since_within y zs)

pub since_others : (x y : ℕ) (l : List ℕ) → distinct l ≡ true → held x l ≡ true → eqb x y ≡ false
    → suc (since y (others x l)) ≡ cond (ltb (since y l) (since x l)) (suc (since y l)) (since y l)
since_others x y [] d h ne = grind (arith, nat_tests)
since_others x y (z ∷ zs) d h ne = grind (arith, nat_tests, others_none x zs, since_others x y zs)

-- a list without its last line
pub others_last : (n z : ℕ) (l : List ℕ) → distinct l ≡ true → length l ≡ suc n → since z l ≡ n → take n l ≡ others z l
others_last n z [] d e p = grind (arith, nat_tests)
others_last zero z (y ∷ []) d e p = grind (arith, nat_tests)
others_last zero z (y ∷ y' ∷ ys) d e p = grind (arith, nat_tests)
others_last (suc n) z (y ∷ ys) d e p = grind (arith, nat_tests, others_last n z ys)

pub length_le : (k l : List ℕ) → distinct k ≡ true → ((y : ℕ) → held y k ≡ true → held y l ≡ true) → distinct l ≡ true → length k ≤ length l
length_le [] l d h u = omega arith
length_le (x ∷ xs) l d h u =
    let hx : held x l ≡ true = h x (grind (arith, nat_tests)) in
    let dx : distinct xs ≡ true = grind (arith, nat_tests) in
    let rec = length_le xs (others x l) dx (λ y hy. let hl : held y l ≡ true = h y (grind (arith, nat_tests)) in grind (arith, nat_tests, has_others x y l)) (distinct_others x l u) in
    let e = length_others x l u hx in
    omega arith

pub length_same : (k l : List ℕ) → distinct k ≡ true → distinct l ≡ true → ((y : ℕ) → held y k ≡ held y l) → length k ≡ length l
length_same k l d u h =
    let a = length_le k l d (λ y t. sym (h y) ∙ t) u in
    let b = length_le l k u (λ y t. h y ∙ t) d in
    omega arith

pub distinct_recent : (ts : List ℕ) → distinct (recent ts) ≡ true
distinct_recent [] = refl
distinct_recent (t ∷ ts) = grind (arith, nat_tests, distinct_others t (recent ts), has_others t t (recent ts), distinct_recent ts)

-- the first of the recent ones, after one touch more
pub take_others : (n t : ℕ) (r : List ℕ) → distinct r ≡ true → take n (others t (take (suc n) r)) ≡ take n (others t r)
take_others zero t r d = refl
take_others (suc n) t [] d = refl
take_others (suc n) t (y ∷ ys) d =
    ⊎_elim
    (λ (e : eqb y t ≡ true).
    let out : held t ys ≡ false = grind (arith, nat_tests) in
    let a : others t (take (suc n) ys) ≡ take (suc n) ys = others_none t _ (has_take (suc n) t ys out) in
    let b : others t ys ≡ ys = others_none t ys out in
    let c : take (suc n) (take (suc n) ys) ≡ take (suc n) ys = take_all (suc n) (take (suc n) ys) (let f = length-take (suc n) ys in omega arith) in
    rw (e, a, b, c))
    (λ (e : eqb y t ≡ false). rw e (ap (λ k. y ∷ k) (take_others n t ys (grind (arith, nat_tests)))))
    (cases_Bool (eqb y t))
