-- A tree without gaps, and how much memory there is to be.
use Rattle.std.proofs.Common.{◌≡◌, ℕ, zero, suc, ◌+◌, ◌-◌, ◌*◌, ◌%◌, ◌^◌, ◌≤◌, min, List, [], ◌∷◌, ◌++◌, length, take, drop, replicate, sym, refl, ap, ap₂, ◌∙◌, subst, pow-suc, arith, pow_mono}
use lib.ListN.{length-replicate}
use Rattle.std.specs.List.{FoldsTo}
use Rattle.std.proofs.lemmas.List.{take-replicate, drop-replicate, nil_from_length}
use Rattle.summaries.specs.Algebra.{Algebra, Small, summary}
use Rattle.trees.specs.Trees.{leaves, size, gaps, Good}
use Rattle.ranges.specs.Occupancies.{Amounts, Sound, occupancies, recents}
use Rattle.trees.specs.declared.tree.Node.{Node}
use Rattle.trees.proofs.Trees.{length_gaps, size_leaves}
use Rattle.ranges.proofs.OneList.{count_is}

no_gaps : {K : Type 0} (k : ℕ) (xs : List (Node K)) → length xs ≡ size k → gaps k 0 xs ≡ []
no_gaps k xs e = nil_from_length (gaps k 0 xs) (length_gaps k 0 xs e (omega arith))

pub blank_good : {K : Type 0} (a : Algebra K) (k n : ℕ) (x : Node K) → x.value ≡ a.none → x.pending ≡ 0 → n ≡ 0 → Good a k n (replicate (size k) x)
blank_good a zero (suc n) x v p z = let f : ⊥ = omega arith in absurd f
blank_good a zero zero x v p z = v
blank_good a (suc k) n x v p z =
    let s = size k in
    let t : take s (replicate (s + s) x) ≡ replicate s x = take-replicate s (s + s) x (omega arith) in
    let m : s + s - s ≡ s = omega arith in
    let d : drop s (replicate (s + s) x) ≡ replicate s x = drop-replicate s (s + s) x ∙ ap (λ i. replicate i x) m in
    let none : gaps (suc k) n (replicate (size (suc k)) x) ≡ [] = ap (λ i. gaps (suc k) i (replicate (size (suc k)) x)) z ∙ no_gaps (suc k) (replicate (size (suc k)) x) (length-replicate (size (suc k)) x) in (
      v ∙ ap (summary a) (sym none),
      (λ h. p),
      subst (Good a k (min n (leaves k))) (sym t) (blank_good a k (min n (leaves k)) x v p (omega arith)),
      subst (Good a k (n - leaves k)) (sym d) (blank_good a k (n - leaves k) x v p (omega arith)),
    )

-- nodes that were made one at a time, each the same
pub all_blank : {K F : Type 0} {step : F → Node K → F → Type 0} (x : Node K) (held : F → Node K) → ((f : F) (y : Node K) (g : F) → step f y g → (y ≡ held f) × (g ≡ f)) → (f : F) → held f ≡ x → (xs : List (Node K)) (g : F) → FoldsTo step f xs g
    → xs ≡ replicate (length xs) x
all_blank x held gives f is [] g folds = refl
all_blank {F} {step} x held gives f is (y ∷ ys) g folds =
    let here = gives f y folds.0 folds.1 in
    ap₂ ◌∷◌ (here.0 ∙ is) (all_blank {step = step} x held gives folds.0 (ap held here.1 ∙ is) ys g folds.2)

-- nodes that are all blank stand for no gaps
pub opened : {K : Type 0} (a : Algebra K) (k : ℕ) (xs : List (Node K)) (x : Node K) (recent : List ℕ) → x.value ≡ a.none → x.pending ≡ 0 → length xs ≡ size k → xs ≡ replicate (size k) x → length recent ≡ recents k
    → Sound a k 0 xs recent
opened a k xs x recent v p e all wide =
    let none : occupancies k 0 xs recent ≡ [] = ap (λ gs. gs ++ take 0 recent) (no_gaps k xs e) in
    record { long = e; wide = wide; room = omega arith; good = subst (Good a k 0) (sym all) (blank_good a k 0 x v p refl); small = subst Small (sym none) (record { few = omega arith; low = tt }) }

pub nothing_listed : {K : Type 0} {a : Algebra K} {k : ℕ} {xs : List (Node K)} {recent : List ℕ} → Sound a k 0 xs recent → occupancies k 0 xs recent ≡ []
nothing_listed {k = k} {xs = xs} {recent = recent} s = nil_from_length (occupancies k 0 xs recent) (sym (count_is s))

-- a tree of height k has 2^k leaves
pub leaves_pow : (k : ℕ) → leaves k ≡ 2 ^ k
leaves_pow zero = refl
leaves_pow (suc k) = omega (arith, leaves_pow k, pow-suc 2 k)

pub amounts : (k s m r : ℕ) → k ≤ 16 → s ≡ 1 * 2 ^ k % 2 ^ 64 → m ≡ 2 * s - 1 → r ≡ min s 128 → Amounts k s m r
amounts k s m r low s_is m_is r_is =
    let slots : s ≡ leaves k = omega (arith, pow_mono low, leaves_pow k) in
    record { low = low; slots_are = slots; nodes_are = omega (arith, size_leaves k); recent_are = r_is ∙ ap (λ i. min i 128) slots }
