-- Static re-reference interval prediction: the rises at once, and what the rule keeps of a row.
use Rattle.std.proofs.Common.{◌≡◌, ℕ, zero, suc, ◌+◌, ◌-◌, ◌<◌, ◌≤◌, true, false, cond, eqb, ◌⊎◌, List, [], ◌∷◌, map, length, get_or, take, set, sym, refl, ap, ◌∙◌, subst, inr, not-suc-le-zero, arith}
use Rattle.std.proofs.lemmas.Bool.{cond_both, cond-true, cond-false, lt-ltb, le-ltb, and_parts, eqb-true, eqb-false}
use Rattle.std.proofs.lemmas.Bool.Decides.{nat_tests}
use Rattle.std.proofs.lemmas.List.{length-set, length-map, length-replicate, length-take, get_or-take}
use Rattle.replacement.specs.declared.Way.{Way}
use Rattle.histories.specs.Rule.{held}
use Rattle.replacement.proofs.Distinct.{distinct, distinct_says}
use Rattle.replacement.specs.Ways.{line_of, way, no_way, empty_row, lines, first, some, has_line, vacant, of_age, greatest, oldest}
use Rattle.replacement.specs.Srrip.{risen, ripened, placed, renewed, filled, evicted, touched, row, AgesLow, Ripens, EvictsOldest}
use Rattle.replacement.specs.Sets.{RowLaws}
use Rattle.replacement.proofs.Ways.{length_lines, lines_none, has_first, first_passes, take_set}

-- ---- the rises at once

risen_none : (m : List Way) → map (risen 0) m ≡ m
risen_none [] = refl
risen_none (e ∷ es) = ap (λ k. k ∷ map (risen 0) es) (let z : e.age + 0 ≡ e.age = omega arith in ap (λ a. way (line_of e) a e.held) z) ∙ ap (λ k. e ∷ k) (risen_none es)

risen_more : (a b : ℕ) (m : List Way) → map (risen b) (map (risen a) m) ≡ map (risen (a + b)) m
risen_more a b [] = refl
risen_more a b (e ∷ es) =
    ap (λ k. k ∷ map (risen b) (map (risen a) es)) (let z : e.age + a + b ≡ e.age + (a + b) = omega arith in ap (λ n. way (line_of e) n e.held) z)
    ∙ ap (λ k. risen (a + b) e ∷ k) (risen_more a b es)

greatest_risen : (d : ℕ) (m : List Way) → 0 < length m → greatest (map (risen d) m) ≡ greatest m + d
greatest_risen d [] p = absurd (not-suc-le-zero p)
greatest_risen d (e ∷ []) p = grind (arith, nat_tests)
greatest_risen d (e ∷ e' ∷ es) p = grind (arith, nat_tests, greatest_risen d (e' ∷ es))

-- some way has age 3 exactly when the greatest age is 3
ripe_greatest : (m : List Way) → greatest m ≤ 3 → some (of_age 3) m ≡ eqb (greatest m) 3
ripe_greatest [] h = refl
ripe_greatest (e ∷ es) h = grind (arith, nat_tests, ripe_greatest es)

first_risen : (d g : ℕ) (m : List Way) → g + d ≡ 3 → first (of_age 3) (map (risen d) m) ≡ first (of_age g) m
first_risen d g [] h = refl
first_risen d g (e ∷ es) h = grind (arith, nat_tests, first_risen d g es)

ripened_is : (n : ℕ) (m : List Way) → 0 < length m → greatest m ≤ 3 → 3 ≤ greatest m + n → ripened n m ≡ map (risen (3 - greatest m)) m
ripened_is zero m p low far =
    let z : 3 - greatest m ≡ 0 = omega arith in
    sym (ap (λ d. map (risen d) m) z ∙ risen_none m)
ripened_is (suc n) m p low far =
    cond_both (some (of_age 3) m) m (ripened n (map (risen 1) m)) (λ k. k ≡ map (risen (3 - greatest m)) m)
    (λ t.
    let g : greatest m ≡ 3 = eqb-true _ _ (sym (ripe_greatest m low) ∙ t) in
    let z : 3 - greatest m ≡ 0 = omega arith in
    sym (ap (λ d. map (risen d) m) z ∙ risen_none m))
    (λ f.
    let ne : greatest m ≡ 3 → ⊥ = eqb-false _ _ (sym (ripe_greatest m low) ∙ f) in
    let up : greatest (map (risen 1) m) ≡ greatest m + 1 = greatest_risen 1 m p in
    let len = length-map m (risen 1) in
    let rec = ripened_is n (map (risen 1) m) (omega arith) (omega arith) (omega arith) in
    let d : 1 + (3 - greatest (map (risen 1) m)) ≡ 3 - greatest m = omega arith in
    rec ∙ risen_more 1 (3 - greatest (map (risen 1) m)) m ∙ ap (λ k. map (risen k) m) d)

pub ripens : Ripens
ripens m p low =
    let g : greatest (map (risen (3 - greatest m)) m) ≡ greatest m + (3 - greatest m) = greatest_risen (3 - greatest m) m p in
    let e = ripened_is 3 m p low (omega arith) in
    let top : greatest (ripened 3 m) ≡ 3 = ap greatest e ∙ omega arith in
    ripe_greatest (ripened 3 m) (omega arith) ∙ ap (λ k. eqb k 3) top

pub evicts_oldest : EvictsOldest
evicts_oldest x m p low =
    let e = ripened_is 3 m p low (omega arith) in
    let d = 3 - greatest m in
    ap (λ r. set r (first (of_age 3) r) (placed x)) e ∙ ap (λ v. set (map (risen d) m) v (placed x)) (first_risen d (greatest m) m (omega arith))

-- ---- what the rule keeps of a row of w ways

abbrev pub Fine : ℕ → List Way → Type 0
Fine w m = (length m ≡ w) × (distinct (lines m) ≡ true) × (greatest m ≤ 3)

lines_risen : (d : ℕ) (m : List Way) → lines (map (risen d) m) ≡ lines m
lines_risen d [] = refl
lines_risen d (e ∷ es) = ap (λ k. cond e.held (line_of e ∷ k) k) (lines_risen d es)

lines_ripened : (n : ℕ) (m : List Way) → lines (ripened n m) ≡ lines m
lines_ripened zero m = refl
lines_ripened (suc n) m = cond_both (some (of_age 3) m) m (ripened n (map (risen 1) m)) (λ k. lines k ≡ lines m) (λ t. refl) (λ f. lines_ripened n (map (risen 1) m) ∙ lines_risen 1 m)

length_ripened : (n : ℕ) (m : List Way) → length (ripened n m) ≡ length m
length_ripened zero m = refl
length_ripened (suc n) m = cond_both (some (of_age 3) m) m (ripened n (map (risen 1) m)) (λ k. length k ≡ length m) (λ t. refl) (λ f. length_ripened n (map (risen 1) m) ∙ length-map m (risen 1))

greatest_set : (v b : ℕ) (m : List Way) (e : Way) → greatest m ≤ b → e.age ≤ b → greatest (set m v e) ≤ b
greatest_set v b [] e h l = h
greatest_set zero b (f ∷ fs) e h l = grind (arith, nat_tests)
greatest_set (suc v) b (f ∷ fs) e h l = grind (arith, nat_tests, greatest_set v b fs e)

-- a line that is not held comes into a way
has_put : (v x a y : ℕ) (m : List Way) → held y (lines (set m v (way x a true))) ≡ true → (y ≡ x) ⊎ (held y (lines m) ≡ true)
has_put v x a y [] h = inr h
has_put zero x a y (e ∷ es) h = grind (arith, nat_tests)
has_put (suc v) x a y (e ∷ es) h = grind (arith, nat_tests, has_put v x a y es)

distinct_put : (v x a : ℕ) (m : List Way) → held x (lines m) ≡ false → distinct (lines m) ≡ true → distinct (lines (set m v (way x a true))) ≡ true
distinct_put v x a [] h d = refl
distinct_put zero x a (e ∷ es) h d = grind (arith, nat_tests)
distinct_put (suc v) x a (e ∷ es) h d = grind (arith, nat_tests, has_put v x a (line_of e) es, distinct_put v x a es)

-- a line that is held stays in its way
lines_renewed : (x : ℕ) (m : List Way) → lines (renewed x m) ≡ lines m
lines_renewed x [] = refl
lines_renewed x (e ∷ es) = grind (arith, nat_tests, lines_renewed x es)

greatest_none : (w : ℕ) → greatest (empty_row w) ≤ 3
greatest_none zero = omega arith
greatest_none (suc w) = grind (arith, nat_tests, greatest_none w)

starts : (w : ℕ) → Fine w (empty_row w)
starts w = (length-replicate w no_way, ap distinct (lines_none w), greatest_none w)

ripened_low : (m : List Way) → greatest m ≤ 3 → greatest (ripened 3 m) ≤ 3
ripened_low [] h = omega arith
ripened_low (e ∷ es) h =
    let m = e ∷ es in
    let p : 0 < length m = omega arith in
    let g = greatest_risen (3 - greatest m) m p in
    let t : greatest (ripened 3 m) ≡ greatest (map (risen (3 - greatest m)) m) = ap greatest (ripened_is 3 m p h (omega arith)) in
    omega arith

stays : (w x : ℕ) (m : List Way) → Fine w m → Fine w (touched x m)
stays w x m g =
    cond_both (held x (lines m)) _ _ (Fine w)
    (λ _. (length-set m _ _ ∙ g.0, ap distinct (lines_renewed x m) ∙ g.1, greatest_set _ 3 m (way x 0 true) g.2 (omega arith)))
    (λ f. cond_both (some vacant m) (filled x m) (evicted x m) (Fine w)
    (λ _. (length-set m _ _ ∙ g.0, distinct_put (first vacant m) x 2 m f g.1, greatest_set _ 3 m (placed x) g.2 (omega arith)))
    (λ _. (
      length-set (ripened 3 m) _ _ ∙ length_ripened 3 m ∙ g.0,
      distinct_put (first (of_age 3) (ripened 3 m)) x 2 (ripened 3 m) (ap (held x) (lines_ripened 3 m) ∙ f) (ap distinct (lines_ripened 3 m) ∙ g.1),
      greatest_set _ 3 (ripened 3 m) (placed x) (ripened_low m g.2) (omega arith),
    )))

fits : (w : ℕ) (m : List Way) → Fine w m → length (lines m) ≤ w
fits w m g = let a = length_lines m in let e = g.0 in omega arith

only : (x y : ℕ) (m : List Way) → held y (lines (touched x m)) ≡ true → (y ≡ x) ⊎ (held y (lines m) ≡ true)
only x y m =
    cond_both (held x (lines m)) _ _ (λ k. held y (lines k) ≡ true → (y ≡ x) ⊎ (held y (lines m) ≡ true))
    (λ _ h. inr (rw (lines_renewed x m) at h))
    (λ _. cond_both (some vacant m) (filled x m) (evicted x m) (λ k. held y (lines k) ≡ true → (y ≡ x) ⊎ (held y (lines m) ≡ true))
    (λ _ h. has_put (first vacant m) x 2 y m h)
    (λ _ h. rw (lines_ripened 3 m) at (has_put (first (of_age 3) (ripened 3 m)) x 2 y (ripened 3 m) h)))

pub srrip_laws : RowLaws lines (λ _ x m. touched x m) empty_row Fine
srrip_laws = record { starts = starts; stays = λ w x m p. stays w x m; apart = λ w m g. distinct_says _ g.1; fits = fits; only = λ w x y m p g. only x y m; nothing = lines_none }

fine_row : (w : ℕ) (ts : List ℕ) → Fine w (row w ts)
fine_row w [] = starts w
fine_row w (t ∷ ts) = stays w t (row w ts) (fine_row w ts)

pub ages_low : AgesLow
ages_low w ts = (fine_row w ts).2

-- ---- the program's steps, on the first w of the ways s

module _ (w v x : ℕ) (s : List Way) (at_first : v ≡ first (has_line x) (take w s)) (inside : v < length (take w s)) where
  -- the age of the way becomes 0
  pub hit_moves : (e : Way) → e ≡ get_or s v no_way → take w (set s v (way (line_of e) 0 e.held)) ≡ touched x (take w s)
  hit_moves e is =
      let m = take w s in
      let read : get_or m v no_way ≡ e = get_or-take w s v no_way (let n = length-take w s in omega (arith, n, inside)) ∙ sym is in
      let p = and_parts _ _ (subst (λ k. has_line x k ≡ true) read (subst (λ k. has_line x (get_or m k no_way) ≡ true) (sym at_first) (first_passes (has_line x) m (subst (λ k. k < length m) at_first inside)))) in
      let same : way (line_of e) 0 e.held ≡ way x 0 true = λ i. way (eqb-true _ _ p.1 i) 0 (p.0 i) in
      take_set w v s _ ∙ ap (set m v) same ∙ ap (λ k. set m k (way x 0 true)) at_first ∙ sym (cond-true _ _ _ (has_first x v m at_first inside))

pub fill_moves : (w v x : ℕ) (s : List Way) → held x (lines (take w s)) ≡ false → v ≡ first vacant (take w s) → v < length (take w s) → take w (set s v (placed x)) ≡ touched x (take w s)
fill_moves w v x s f e l =
    let m = take w s in
    take_set w v s (placed x) ∙ ap (λ k. set m k (placed x)) e ∙ sym (cond-true _ _ _ (lt-ltb _ _ (subst (λ k. k < length m) e l))) ∙ sym (cond-false _ _ _ f)

pub evict_moves : (w v a x : ℕ) (s t : List Way) → Fine w (take w s) → 0 < w → held x (lines (take w s)) ≡ false → first vacant (take w s) ≡ length (take w s) → v ≡ oldest (take w s) → a ≡ greatest (take w s)
    → take w t ≡ map (risen (3 - a)) (take w s) → take w (set t v (placed x)) ≡ touched x (take w s)
evict_moves w v a x s t fine p f full ev ea g =
    let m = take w s in
    let len = fine.0 in
    take_set w v t (placed x) ∙ ap (λ k. set k v (placed x)) g ∙ ap (λ k. set (map (risen (3 - k)) m) v (placed x)) ea ∙ ap (λ k. set (map (risen (3 - greatest m)) m) k (placed x)) ev
    ∙ sym (evicts_oldest x m (omega (arith, len, p)) fine.2) ∙ sym (cond-false _ _ _ (le-ltb (first vacant m) (length m) (omega (arith, full)))) ∙ sym (cond-false _ _ _ f)
