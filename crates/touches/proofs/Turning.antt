-- One turn by the gaps, the oldest first, is one turn of the rule.
use Rattle.std.proofs.Common.{◌≡◌, ℕ, suc, ◌+◌, ◌-◌, Bool, true, false, cond, ◌&&◌, List, [], ◌∷◌, ◌++◌, map, reverse, length, take, drop, Some, None, Option, sym, refl, ap, ◌∙◌, ap₂, add-one, arith}
use mathlib.Core.List.{reverse-cons}
use Rattle.std.proofs.lemmas.Bool.{both_ways}
use Rattle.std.proofs.lemmas.List.{take-append-drop, reverse-append, length-reverse, length-drop, drop_at, map_push}
use Rattle.std.proofs.lemmas.Bool.Decides.{nat_tests}
use Rattle.histories.specs.Rule.{fits, raise, occupancies, hit}
use Rattle.histories.proofs.Index.{length_occupancies}
use Rattle.summaries.specs.Algebra.{Within}
use Rattle.summaries.specs.Stretches.{bump}
use Rattle.touches.specs.Turns.{latest_turn, below, roomy, lifted, by_turn, TurnsGo}
use Rattle.touches.proofs.Last.{Before, before, ByLast, by_last}

-- ---- lists turned round
below_append : (W : ℕ) (xs ys : List ℕ) → below W (xs ++ ys) ≡ (below W xs && below W ys)
below_append W [] ys = refl
below_append W (x ∷ xs) ys = rw (below_append W xs ys) (grind arith)

below_reverse : (W : ℕ) (xs : List ℕ) → below W (reverse xs) ≡ below W xs
below_reverse W [] = refl
below_reverse W (x ∷ xs) = grind (arith, reverse-cons, below_append W (reverse xs) (x ∷ []), below_reverse W xs)

within_append : (m : ℕ) (xs ys : List ℕ) → Within m xs → Within m ys → Within m (xs ++ ys)
within_append m [] ys h k = k
within_append m (x ∷ xs) ys h k = (h.0, within_append m xs ys h.1 k)

within_reverse : (m : ℕ) (xs : List ℕ) → Within m xs → Within m (reverse xs)
within_reverse m [] h = tt
within_reverse m (x ∷ xs) h = grind (arith, reverse-cons, within_reverse m xs, within_append m (reverse xs) (x ∷ []))

reverse_map : (xs : List ℕ) → reverse (map suc xs) ≡ map suc (reverse xs)
reverse_map [] = refl
reverse_map (x ∷ xs) = reverse-cons (suc x) (map suc xs) ∙ ap (λ r. r ++ suc x ∷ []) (reverse_map xs) ∙ sym (map_push suc (reverse xs) x) ∙ ap (map suc) (sym (reverse-cons x xs))

-- ---- one more at each place of the end
bump_front : (ys : List ℕ) → bump 0 (length ys) ys ≡ map suc ys
bump_front [] = refl
bump_front (y ∷ ys) = ap₂ ◌∷◌ (add-one y) (bump_front ys)

bump_end : (xs ys : List ℕ) → bump (length xs) (length (xs ++ ys)) (xs ++ ys) ≡ xs ++ map suc ys
bump_end [] ys = bump_front ys
bump_end (x ∷ xs) ys = ap (◌∷◌ x) (bump_end xs ys)

-- the gaps since turn p, the oldest first: the first d of them, newest first, turned round
module _ (os : List ℕ) (p d : ℕ) (e : d + p ≡ length os) where
  abbrev old : List ℕ
  old = reverse (drop d os)

  abbrev new : List ℕ
  new = reverse (take d os)

  halves : reverse os ≡ old ++ new
  halves = ap reverse (sym (take-append-drop d os)) ∙ reverse-append (take d os) (drop d os)

  old_long : length old ≡ p
  old_long = length-reverse (drop d os) ∙ length-drop d os ∙ omega arith

  since : drop p (reverse os) ≡ new
  since = ap (drop p) halves ∙ drop_at old new p old_long

  bumped : bump p (length (reverse os)) (reverse os) ≡ reverse (map suc (take d os) ++ drop d os)
  bumped =
      ap (λ l. bump p (length l) l) halves ∙ ap (λ i. bump i (length (old ++ new)) (old ++ new)) (sym old_long)
      ∙ bump_end old new ∙ ap (λ r. old ++ r) (sym (reverse_map (take d os)))
      ∙ sym (reverse-append (map suc (take d os)) (drop d os))

-- ---- the rule by the gaps, the oldest first
module _ (W x : ℕ) (ts os : List ℕ) where
  roomy_is : (l : Option ℕ) → length os ≡ length ts → Before ts l → ByLast W x ts os l → roomy W l (reverse os) ≡ fits W x ts os
  roomy_is None e b r = sym r
  roomy_is (Some p) e b r = let d = length ts - p in ap (below W) (since os p d (omega arith)) ∙ below_reverse W (take d os) ∙ sym r.0

  lifted_is : (l : Option ℕ) → length os ≡ length ts → Before ts l → ByLast W x ts os l → fits W x ts os ≡ true → lifted l (reverse os) ≡ reverse (raise x ts os)
  lifted_is None e b r h = absurd (both_ways (fits W x ts os) r h)
  lifted_is (Some p) e b r h = let d = length ts - p in bumped os p d (omega arith) ∙ ap reverse (sym r.1)

-- ---- no gap is above W
raise_low : (W x : ℕ) (ts os : List ℕ) → fits W x ts os ≡ true → Within W os → Within W (raise x ts os)
unfolding fits raise
raise_low W x [] os h w = w
raise_low W x (t ∷ ts) [] h w = tt
raise_low W x (t ∷ ts) (o ∷ os) h w = grind (arith, nat_tests, raise_low W x ts os)

occupancies_low : (W : ℕ) (ts : List ℕ) → Within W (occupancies W ts)
unfolding occupancies
occupancies_low W [] = tt
occupancies_low W (t ∷ ts) = grind (arith, occupancies_low W ts, raise_low W t ts (occupancies W ts))

occupancies_more : (W x : ℕ) (ts : List ℕ) → occupancies W (x ∷ ts) ≡ 0 ∷ cond (hit W x ts) (raise x ts (occupancies W ts)) (occupancies W ts)
unfolding occupancies
occupancies_more W x ts = refl

-- ---- one turn
pub turned : TurnsGo
turned W x ts =
    let os = occupancies W ts in
    let e = length_occupancies W ts in
    let b = before ts x in
    let r = by_last W x ts os e in
    let same = roomy_is W x ts os (latest_turn ts x) e b r in
    record {
      hit = same;
      gaps = ap (λ c. cond c (lifted (latest_turn ts x) (reverse os)) (reverse os) ++ 0 ∷ []) same
          ∙ ap (λ l. l ++ 0 ∷ []) (go (hit W x ts) refl e b r)
          ∙ sym (reverse-cons 0 (cond (hit W x ts) (raise x ts os) os)) ∙ ap reverse (sym (occupancies_more W x ts));
      low = within_reverse W os (occupancies_low W ts);
      long = length-reverse os ∙ e;
      before = b;
    }
  where
    go : (c : Bool) → hit W x ts ≡ c → length (occupancies W ts) ≡ length ts → Before ts (latest_turn ts x) → ByLast W x ts (occupancies W ts) (latest_turn ts x)
        → cond c (lifted (latest_turn ts x) (by_turn W ts)) (by_turn W ts) ≡ reverse (cond c (raise x ts (occupancies W ts)) (occupancies W ts))
    go true h e b r = lifted_is W x ts (occupancies W ts) (latest_turn ts x) e b r h
    go false h e b r = refl
