-- Rows of ways: the lines that they hold, and the first way that passes a test.
use Rattle.std.proofs.Common.{subst, position, Some, None, ◌≡◌, ℕ, zero, suc, ◌+◌, ◌-◌, ◌<◌, ◌≤◌, Bool, true, false, cond, ltb, List, [], ◌∷◌, ◌++◌, map, length, get_or, take, drop, set, sym, refl, ap, ◌∙◌, ⊎_elim, le_of_suc-le-suc, not-suc-le-zero, arith}
use Rattle.std.proofs.lemmas.Bool.{lt-ltb, cases_Bool, ltb-true}
use Rattle.std.proofs.lemmas.Bool.Decides.{nat_tests}
use Rattle.std.specs.List.{position_or_len}
use Rattle.std.proofs.lemmas.List.Recursion.{is_position_or_len}
use Rattle.std.proofs.lemmas.List.{drop_all, get_or-drop, get_or-append_right, get_or_default, length-take-le, length-map}
use Rattle.std.proofs.lemmas.List.Edits.{map_over_more}
use Rattle.std.proofs.Math.Seq.{take-append_seam}
use Rattle.replacement.specs.declared.Way.{Way}
use Rattle.histories.specs.Rule.{held}
use Rattle.replacement.specs.Ways.{line_of, no_way, empty_row, lines, first, has_line, vacant, larger, greatest, oldest}

pub length_lines : (m : List Way) → length (lines m) ≤ length m
length_lines [] = omega arith
length_lines (e ∷ es) = grind (arith, length_lines es)

pub lines_none : (w : ℕ) → lines (empty_row w) ≡ []
lines_none zero = refl
lines_none (suc w) = lines_none w

pub has_way : (v : ℕ) (m : List Way) → (get_or m v no_way).held ≡ true → held (line_of (get_or m v no_way)) (lines m) ≡ true
has_way v [] h = grind (arith, nat_tests)
has_way zero (e ∷ es) h = grind (arith, nat_tests)
has_way (suc v) (e ∷ es) h = grind (arith, nat_tests, has_way v es)

-- ---- the first way that passes a test

pub first_passes : (p : Way → Bool) (m : List Way) → first p m < length m → p (get_or m (first p m) no_way) ≡ true
first_passes p [] l = absurd (not-suc-le-zero l)
first_passes p (e ∷ es) l = ⊎_elim (λ (t : p e ≡ true). rw t t) (λ (f : p e ≡ false). let l' : first p es < length es = le_of_suc-le-suc (rw f at l) in rw f (first_passes p es l')) (cases_Bool (p e))

pub first_has : (x : ℕ) (m : List Way) → ltb (first (has_line x) m) (length m) ≡ held x (lines m)
first_has x [] = refl
first_has x (e ∷ es) = grind (arith, nat_tests, first_has x es)

pub has_first : (x v : ℕ) (m : List Way) → v ≡ first (has_line x) m → v < length m → held x (lines m) ≡ true
has_first x v m e l = sym (first_has x m) ∙ lt-ltb _ _ (subst (λ k. k < length m) e l)

pub oldest_within : (m : List Way) → 0 < length m → oldest m < length m
oldest_within [] l = absurd (not-suc-le-zero l)
oldest_within (e ∷ []) l = grind (arith, nat_tests)
oldest_within (e ∷ e' ∷ es) l = grind (arith, nat_tests, oldest_within (e' ∷ es))

-- ---- the program's searches

first_position : (p : Way → Bool) (m : List Way) → first p m ≡ position_or_len p m
first_position p m = is_position_or_len (first p) p refl (λ e es. grind arith) m

cond_Some : (b : Bool) (k v : ℕ) → cond b (Some k) None ≡ Some v → (b ≡ true) × (v ≡ k)
cond_Some true k v e = (refl, cc)
cond_Some false k v e = cc

cond_None : (b : Bool) (k : ℕ) → cond b (Some k) None ≡ None → b ≡ false
cond_None true k e = cc
cond_None false k e = refl

-- for the way that holds a line
pub found_at : (x v : ℕ) (m : List Way) → Some v ≡ position (has_line x) m → (v ≡ first (has_line x) m) × (v < length m)
found_at x v m e =
    let k = first_position (has_line x) m in
    let h = cond_Some _ _ v (sym e) in
    let inside = ltb-true _ _ h.0 in
    (h.1 ∙ sym k, omega (arith, h, inside))

pub found_none : (x : ℕ) (m : List Way) → None ≡ position (has_line x) m → held x (lines m) ≡ false
found_none x m e = sym (first_has x m) ∙ ap (λ k. ltb k (length m)) (first_position (has_line x) m) ∙ cond_None _ _ (sym e)

-- for the first way that passes a test p, come to way i
abbrev pub Seeking : (Way → Bool) → List Way → ℕ → Type 0
Seeking p m i = first p m ≡ i + first p (drop i m)

-- for an empty way, and meanwhile for the greatest age, of which way v, of age a, is the first so far
abbrev old_end : ℕ → ℕ → ℕ → List Way → ℕ
old_end i v a [] = v
old_end i v a (e ∷ es) = old_end (i + 1) (cond (ltb a e.age) i v) (cond (ltb a e.age) e.age a) es

abbrev age_end : ℕ → List Way → ℕ
age_end a [] = a
age_end a (e ∷ es) = age_end (cond (ltb a e.age) e.age a) es

age_greatest : (a : ℕ) (es : List Way) → age_end a es ≡ larger a (greatest es)
age_greatest a [] = grind (arith, nat_tests)
age_greatest a (e ∷ es) = grind (arith, nat_tests, age_greatest a es, age_greatest e.age es)

old_oldest : (i v a : ℕ) (es : List Way) → old_end i v a es ≡ cond (ltb a (greatest es)) (i + oldest es) v
old_oldest i v a [] = grind (arith, nat_tests)
old_oldest i v a (e ∷ es) = grind (arith, nat_tests, old_oldest (i + 1) i e.age es, old_oldest (i + 1) v a es)

oldest_zero : (m : List Way) → greatest m ≡ 0 → oldest m ≡ 0
oldest_zero [] h = refl
oldest_zero (e ∷ es) h = grind (arith, nat_tests)

pub record Choosing (m : List Way) (i v a : ℕ) : Type 0 where
  pub gap : Seeking vacant m i
  pub old : old_end i v a (drop i m) ≡ oldest m
  pub age : age_end a (drop i m) ≡ greatest m

pub choose_none : (m : List Way) → Choosing m 0 0 0
choose_none m = record { gap = omega arith; old = old_oldest 0 0 0 m ∙ grind (arith, nat_tests, oldest_zero m); age = age_greatest 0 m ∙ grind (arith, nat_tests) }

pub choose_all : (m : List Way) (i v a : ℕ) → 0 < length m → length m ≤ i → i ≤ length m → Choosing m i v a
    → (first vacant m ≡ length m) × (v ≡ oldest m) × (a ≡ greatest m) × (v < length m)
choose_all m i v a some past within s =
    let z : drop i m ≡ [] = drop_all i m past in
    let old : v ≡ oldest m = sym (ap (old_end i v a) z) ∙ s.old in
    let below = oldest_within m some in
    (s.gap ∙ ap (λ k. i + first vacant k) z ∙ omega (arith, past, within), old, sym (ap (age_end a) z) ∙ s.age, omega (arith, old, below))

pub take_set : {X : Type 0} (n k : ℕ) (xs : List X) (x : X) → take n (set xs k x) ≡ set (take n xs) k x
take_set zero k xs x = refl
take_set (suc n) k [] x = refl
take_set (suc n) zero (y ∷ ys) x = refl
take_set (suc n) (suc k) (y ∷ ys) x = ap (λ r. y ∷ r) (take_set n k ys x)

age_below : (m : List Way) (i : ℕ) → (get_or m i no_way).age ≤ greatest m
age_below [] i = omega arith
age_below (e ∷ es) zero = grind (arith, nat_tests)
age_below (e ∷ es) (suc i) = grind (arith, nat_tests, age_below es i)

-- ---- the program's pass over the ways, come to way i: f of each

module _ (f : Way → Way) (was ws : List Way) (i : ℕ) (l : i < length was) (s : ws ≡ map f (take i was) ++ drop i was) where
  -- the way that it has come to is as it was
  pass_here : (d : Way) → get_or ws i d ≡ get_or was i d
  pass_here d =
      let front : length (map f (take i was)) ≡ i = length-map (take i was) f ∙ length-take-le i was (omega arith) in
      let z : i + (i - i) ≡ i = omega arith in
      ap (λ k. get_or k i d) s ∙ get_or-append_right (map f (take i was)) (drop i was) i i d front (omega arith) ∙ get_or-drop i was (i - i) d ∙ ap (λ k. get_or was k d) z

  pub pass_more : set ws i (f (get_or ws i no_way)) ≡ map f (take (i + 1) was) ++ drop (i + 1) was
  pass_more =
      let e = get_or ws i no_way in
      map_over_more f was ws i e l s (pass_here no_way ∙ get_or_default was i no_way e l ∙ sym (pass_here e))

  pub pass_low : (get_or ws i no_way).age ≤ greatest was
  pass_low = let b = age_below was i in rw (pass_here no_way) b

-- a pass over the first w ways of a row
pub pass_front : (f : Way → Way) (w : ℕ) (s t rest : List Way) → length (take w s) ≡ w → t ≡ map f (take w s) → take w (t ++ rest) ≡ map f (take w s)
pass_front f w s t rest full e = let long : length t ≡ w = ap length e ∙ length-map (take w s) f ∙ full in ap (λ k. take k (t ++ rest)) (sym long) ∙ take-append_seam t rest ∙ e
