-- Rows of occupancies, in parts. Assumes nothing.
use Rattle.std.proofs.Common.{◌≡◌, ℕ, zero, suc, ◌+◌, ◌-◌, ◌≤◌, ◌⊎◌, List, [], ◌∷◌, ◌++◌, length, take, drop, sym, refl, ap, ◌∙◌, ap₂, arith, length-append, length-drop, length-take}
use Rattle.std.proofs.lemmas.List.{drop-map, length-map, nil_from_length, take-map, take_all}
use Rattle.std.specs.List.{between}
use Rattle.summaries.specs.Algebra.{Within, Small}
use Rattle.summaries.specs.Stretches.{lift}

module _ {X : Type 0} where
  pub take_append : (n : ℕ) (xs ys : List X) → take n (xs ++ ys) ≡ take n xs ++ take (n - length xs) ys
  take_append zero [] ys = refl
  take_append (suc n) [] ys = let e : suc n ≡ suc n - 0 = omega arith in ap (λ m. take m ys) e
  take_append zero (x ∷ xs) ys = let e : 0 - length (x ∷ xs) ≡ 0 = omega arith in ap (λ m. take m ys) (sym e)
  take_append (suc n) (x ∷ xs) ys = ap (◌∷◌ x) (take_append n xs ys ∙ ap (λ m. take n xs ++ take m ys) (omega arith))

  pub drop_append : (n : ℕ) (xs ys : List X) → drop n (xs ++ ys) ≡ drop n xs ++ drop (n - length xs) ys
  drop_append zero [] ys = refl
  drop_append (suc n) [] ys = let e : suc n ≡ suc n - 0 = omega arith in ap (λ m. drop m ys) e
  drop_append zero (x ∷ xs) ys = let e : 0 - length (x ∷ xs) ≡ 0 = omega arith in ap (λ m. (x ∷ xs) ++ drop m ys) (sym e)
  drop_append (suc n) (x ∷ xs) ys = drop_append n xs ys ∙ ap (λ m. drop n xs ++ drop m ys) (omega arith)

  pub between_append : (a b : ℕ) (xs ys : List X) → between a b (xs ++ ys) ≡ between a b xs ++ between (a - length xs) (b - length xs) ys
  between_append a b xs ys =
      ap (take (b - a)) (drop_append a xs ys)
      ∙ take_append (b - a) (drop a xs) (drop (a - length xs) ys)
      ∙ ap (λ m. between a b xs ++ take m (drop (a - length xs) ys)) (simp length-drop (omega arith))

  pub between_nil : (a b : ℕ) (xs : List X) → length xs ≡ 0 → between a b xs ≡ []
  between_nil a b xs e = nil_from_length (between a b xs) (simp (length-take, length-drop) (omega arith))

  pub between_none : (a b : ℕ) (xs : List X) → (b ≤ a) ⊎ (length xs ≤ a) → between a b xs ≡ []
  between_none a b xs h = nil_from_length (between a b xs) (simp (length-take, length-drop) (omega arith))

  pub between_all : (a b : ℕ) (xs : List X) → a ≡ 0 → length xs ≤ b → between a b xs ≡ xs
  between_all a b xs e h =
      let f : b - a ≡ b = omega arith in
      ap₂ (λ m i. take m (drop i xs)) f e ∙ take_all b xs h

pub lift_zero : (xs : List ℕ) → lift 0 xs ≡ xs
lift_zero [] = refl
lift_zero (x ∷ xs) = ap₂ ◌∷◌ (omega arith) (lift_zero xs)

pub lift_between : (p a b : ℕ) (xs : List ℕ) → between a b (lift p xs) ≡ lift p (between a b xs)
lift_between p a b xs = ap (take (b - a)) (drop-map (λ g. g + p) a xs) ∙ take-map (λ g. g + p) (b - a) (drop a xs)

-- what is small stays so in parts
within_left : (m : ℕ) (xs ys : List ℕ) → Within m (xs ++ ys) → Within m xs
within_left m [] ys h = tt
within_left m (x ∷ xs) ys h = (h.0, within_left m xs ys h.1)

within_right : (m : ℕ) (xs ys : List ℕ) → Within m (xs ++ ys) → Within m ys
within_right m [] ys h = h
within_right m (x ∷ xs) ys h = within_right m xs ys h.1

within_lift : (m p : ℕ) (xs : List ℕ) → Within m (lift p xs) → Within m xs
within_lift m p [] h = tt
within_lift m p (x ∷ xs) h = (omega (arith, h.0), within_lift m p xs h.1)

pub within_take : (m n : ℕ) (xs : List ℕ) → Within m xs → Within m (take n xs)
within_take m zero xs h = tt
within_take m (suc n) [] h = tt
within_take m (suc n) (x ∷ xs) h = (h.0, within_take m n xs h.1)

within_drop : (m n : ℕ) (xs : List ℕ) → Within m xs → Within m (drop n xs)
within_drop m zero xs h = h
within_drop m (suc n) [] h = tt
within_drop m (suc n) (x ∷ xs) h = within_drop m n xs h.1

pub small_left : (xs ys : List ℕ) → Small (xs ++ ys) → Small xs
small_left xs ys s = record { few = omega (arith, s.few, length-append xs ys); low = within_left 16 xs ys s.low }

pub small_right : (xs ys : List ℕ) → Small (xs ++ ys) → Small ys
small_right xs ys s = record { few = omega (arith, s.few, length-append xs ys); low = within_right 16 xs ys s.low }

pub small_lift : (p : ℕ) (xs : List ℕ) → Small (lift p xs) → Small xs
small_lift p xs s = record { few = omega (arith, s.few, length-map xs (λ g. g + p)); low = within_lift 16 p xs s.low }

pub small_between : (a b : ℕ) (xs : List ℕ) → Small xs → Small (between a b xs)
small_between a b xs s = record {
  few = simp (length-take, length-drop) (omega (arith, s.few));
  low = within_take 16 (b - a) (drop a xs) (within_drop 16 a xs s.low);
}
