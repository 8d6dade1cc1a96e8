-- Raises in a plain row, and rows that are cut or grow at their end.
use Rattle.std.proofs.Common.{◌≡◌, ℕ, zero, suc, ◌+◌, ◌-◌, ◌<◌, ◌≤◌, min, List, [], ◌∷◌, ◌++◌, length, get_or, take, drop, set, sym, refl, ap, ap₂, ◌∙◌, inl, ⊎_elim, arith, length-drop, length-take}
use Rattle.std.specs.List.{between}
use borrow.Rule.Slice.PartMut.{put_mid}
use Rattle.std.proofs.lemmas.List.{get_or-drop, get_or-take, take-take, take_all}
use Rattle.std.proofs.lemmas.Bool.{cases_lt}
use Rattle.summaries.specs.Algebra.{Within}
use Rattle.summaries.specs.Stretches.{bump}
use Rattle.summaries.proofs.Rows.{between_none}
use Rattle.summaries.proofs.Bumps.{bump_all, bump_none}

pub bump_take : (m a b : ℕ) (xs : List ℕ) → take m (bump a b xs) ≡ bump a b (take m xs)
bump_take zero a b xs = refl
bump_take (suc m) a b [] = refl
bump_take (suc m) a zero (x ∷ xs) = refl
bump_take (suc m) zero (suc b) (x ∷ xs) = ap (◌∷◌ (x + 1)) (bump_take m zero b xs)
bump_take (suc m) (suc a) (suc b) (x ∷ xs) = ap (◌∷◌ x) (bump_take m a b xs)

get_or_bump : (i : ℕ) (xs : List ℕ) → get_or (bump 0 i xs) i 0 ≡ get_or xs i 0
get_or_bump i [] = refl
get_or_bump zero (x ∷ xs) = refl
get_or_bump (suc i) (x ∷ xs) = get_or_bump i xs

-- one place more
pub bump_more : (i : ℕ) (xs : List ℕ) → i < length xs → set (bump 0 i xs) i (get_or (bump 0 i xs) i 0 + 1) ≡ bump 0 (i + 1) xs
bump_more i [] lt = let z : ⊥ = omega arith in absurd z
bump_more zero (x ∷ xs) lt = ap (◌∷◌ (x + 1)) (sym (bump_none 0 0 xs (omega arith)))
bump_more (suc i) (x ∷ xs) lt =
    let e : suc (i + 1) ≡ suc i + 1 = omega arith in
    ap (◌∷◌ (x + 1)) (bump_more i xs (omega arith)) ∙ ap (λ j. bump 0 j (x ∷ xs)) e

-- what is raised was below the bound
raised_low : (m a b i : ℕ) (xs : List ℕ) → a ≤ i → i < b → i < length xs → Within m (bump a b (take b xs)) → get_or xs i 0 + 1 ≤ m
raised_low m a b i [] h lt within w = let z : ⊥ = omega arith in absurd z
raised_low m a zero i (x ∷ xs) h lt within w = let z : ⊥ = omega arith in absurd z
raised_low m (suc a) (suc b) zero (x ∷ xs) h lt within w = let z : ⊥ = omega arith in absurd z
raised_low m zero (suc b) zero (x ∷ xs) h lt within w = w.0
raised_low m zero (suc b) (suc i) (x ∷ xs) h lt within w = raised_low m zero b i xs (omega arith) (omega arith) (omega arith) w.1
raised_low m (suc a) (suc b) (suc i) (x ∷ xs) h lt within w = raised_low m a b i xs (omega arith) (omega arith) (omega arith) w.1

-- the loop over the stretch from s on: the place that a turn raises is low enough, and what stands there is put back
pub turn_low : (m a b s i : ℕ) (xs ys : List ℕ) → s ≡ min a b → ys ≡ bump 0 i (between s b xs) → i < length (between s b xs) → b ≤ length xs → Within m (bump a b (take b xs)) → get_or ys i 0 + 1 ≤ m
turn_low m a b s i xs ys s_is is lt long within =
    let inside : i < b - s = omega (arith, simp length-take at lt) in
    let here : get_or ys i 0 ≡ get_or xs (s + i) 0 =
    ap (λ zs. get_or zs i 0) is ∙ get_or_bump i (between s b xs) ∙ get_or-take (b - s) (drop s xs) i 0 inside ∙ get_or-drop s xs i 0 in
    let low = raised_low m a b (s + i) xs (omega arith) (omega arith) (omega arith) within in
    omega (arith, here, low)

raised_front : (b : ℕ) (xs : List ℕ) → bump 0 b (take b xs) ++ drop b xs ≡ bump 0 b xs
raised_front zero xs = sym (bump_none 0 0 xs (omega arith))
raised_front (suc b) [] = refl
raised_front (suc b) (x ∷ xs) = ap (◌∷◌ (x + 1)) (raised_front b xs)

raised_part : (a k : ℕ) (xs : List ℕ) → take a xs ++ (bump 0 k (take k (drop a xs)) ++ drop k (drop a xs)) ≡ bump a (a + k) xs
raised_part zero k xs = raised_front k xs ∙ ap (λ j. bump 0 j xs) (omega arith)
raised_part (suc a) zero [] = refl
raised_part (suc a) (suc k) [] = refl
raised_part (suc a) k (x ∷ xs) = let e : suc (a + k) ≡ suc a + k = omega arith in ap (◌∷◌ x) (raised_part a k xs) ∙ ap (λ j. bump (suc a) j (x ∷ xs)) e

pub put_raised : (a b s i : ℕ) (xs ys : List ℕ) → s ≡ min a b → b ≤ length xs → ys ≡ bump 0 i (between s b xs) → length (between s b xs) ≤ i → put_mid s (b - s) xs ys ≡ bump a b xs
put_raised a b s i xs ys s_is long is past =
    let k = b - s in
    let p = between s b xs in
    let p_long : length p ≡ k = simp (length-take, length-drop) (omega arith) in
    let all : bump 0 i p ≡ bump 0 k p = bump_all i p past ∙ sym (bump_all k p (omega arith)) in
    ap (λ zs. take s xs ++ (zs ++ drop k (drop s xs))) (is ∙ all) ∙ raised_part s k xs
    ∙ ⊎_elim
    (λ lt. let e : s ≡ a = omega arith in let f : s + k ≡ b = omega arith in ap₂ (λ i j. bump i j xs) e f)
    (λ le. bump_none s (s + k) xs (omega arith) ∙ sym (bump_none a b xs le))
    (cases_lt a b)

module _ {X : Type 0} where
  cut_take : (n a m : ℕ) (xs : List X) → a + n ≤ m → take n (drop a (take m xs)) ≡ take n (drop a xs)
  cut_take n zero m xs h = take-take n m xs (omega arith)
  cut_take n (suc a) zero xs h = let z : ⊥ = omega arith in absurd z
  cut_take n (suc a) (suc m) [] h = refl
  cut_take n (suc a) (suc m) (x ∷ xs) h = cut_take n a m xs (omega arith)

  -- a stretch of a front that it ends in
  pub between_take : (a b m : ℕ) (xs : List X) → b ≤ m → between a b (take m xs) ≡ between a b xs
  between_take a b m xs h =
      ⊎_elim
      (λ lt. cut_take (b - a) a m xs (omega arith))
      (λ le. between_none a b (take m xs) (inl le) ∙ sym (between_none a b xs (inl le)))
      (cases_lt a b)

  -- nothing stands past the end
  pub between_clip : (a b c : ℕ) (xs : List X) → length xs ≤ c → between a b xs ≡ between a (min b c) xs
  between_clip a b c xs h =
      ⊎_elim
      (λ lt. let e : b ≡ min b c = omega arith in ap (λ j. between a j xs) e)
      (λ le. let past : c ≤ b = le in take_all (b - a) (drop a xs) (simp length-drop (omega arith)) ∙ sym (take_all (min b c - a) (drop a xs) (simp length-drop (omega arith))))
      (cases_lt b c)
