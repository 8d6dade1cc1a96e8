-- A tree in which a stretch is raised. Assumes nothing.
use Rattle.std.proofs.Common.{◌≡◌, ℕ, zero, suc, ◌+◌, ◌-◌, ◌/◌, ◌<◌, ◌≤◌, min, List, [], ◌∷◌, ◌++◌, length, take, drop, sym, refl, ap, ◌∙◌, subst, ap₂, arith}
use Rattle.std.proofs.lemmas.List.{length-map}
use Rattle.summaries.specs.Algebra.{Algebra, Laws, Small, Within, Fit, ups, summary}
use Rattle.summaries.specs.Stretches.{lift, bump}
use Rattle.trees.specs.Trees.{leaves, size, gaps, Tree}
use Rattle.trees.specs.declared.tree.Node.{Node}
use Rattle.summaries.proofs.Sums.{summary_append, summary_lift}
use Rattle.summaries.proofs.Rows.{small_left, small_right, small_lift}
use Rattle.summaries.proofs.Bumps.{bump_none, split_bump, bump_all, added_low, lift_lift}
use Rattle.trees.proofs.Trees.{Fork, fork, Built, built, gaps_long, root_is, size_leaves}

module _ {K : Type 0} {a : Algebra K} where
  -- a stretch of nothing
  pub same_tree : {k n : ℕ} {xs : List (Node K)} {x : Node K} {hs : List (Node K)} → Tree a k n xs → xs ≡ x ∷ hs → (from to : ℕ) → to ≤ from → Built a k n x hs (bump from to (gaps k n xs))
  same_tree {k} {n} {xs} {x} {hs} t is from to none =
      let same = sym (bump_none from to (gaps k n xs) none) in
      record { tree = subst (Tree a k n) is t; gaps_are = ap (gaps k n) (sym is) ∙ same; value = root_is t is ∙ ap (summary a) same }

-- ---- a full tree, raised at its root
root_low : {K : Type 0} (m k n : ℕ) (x : Node K) (hs : List (Node K)) → length (gaps k n (x ∷ hs)) ≡ n → 0 < n → Within m (lift 1 (gaps k n (x ∷ hs))) → x.pending + 1 ≤ m
root_low m zero zero x hs e some w = omega arith
root_low m zero (suc n) x hs e some w = omega (arith, w.0)
root_low m (suc k) n x hs e some w =
    let inner = gaps k (min n (leaves k)) (take (size k) hs) ++ gaps k (n - leaves k) (drop (size k) hs) in
    let low = added_low m (x.pending + 1) inner (omega (arith, e, length-map inner (λ g. g + x.pending))) (subst (Within m) (lift_lift x.pending 1 inner) w) in
    omega (arith, low)

module _ {K : Type 0} {a : Algebra K} (laws : Laws a) where
  pub raised_root : (k n : ℕ) (x : Node K) (hs : List (Node K)) (v : K) → Tree a k n (x ∷ hs) → leaves k ≤ n → v ≡ ups a 1 x.value → Built a k n (record { value = v; pending = x.pending + 1 }) hs (lift 1 (gaps k n (x ∷ hs)))
  raised_root zero zero x hs v t full is = let z : ⊥ = omega arith in absurd z
  raised_root zero (suc n) x hs v t full is =
      let value = is ∙ ap (ups a 1) t.good ∙ sym (summary_lift laws 1 (x.pending ∷ [])) in
      record { tree = record { long = t.long; room = t.room; good = value }; gaps_are = refl; value = value }
  raised_root (suc k) n x hs v t full is =
      let inner = gaps k (min n (leaves k)) (take (size k) hs) ++ gaps k (n - leaves k) (drop (size k) hs) in
      let gs : lift (x.pending + 1) inner ≡ lift 1 (lift x.pending inner) = sym (lift_lift x.pending 1 inner) in
      let value = is ∙ ap (ups a 1) t.good.0 ∙ sym (summary_lift laws 1 (lift x.pending inner)) in
      record {
        tree = record { long = t.long; room = t.room; good = (value ∙ ap (summary a) (sym gs), (λ h. let z : ⊥ = omega arith in absurd z), t.good.2, t.good.3) };
        gaps_are = gs;
        value = value;
      }

pub record Whole {K : Type 0} (a : Algebra K) (fits : K → Type 0) (k n from to : ℕ) (xs : List (Node K)) (x : Node K) (hs : List (Node K)) : Type 0 where
  pub full : leaves k ≤ n
  pub all : lift 1 (gaps k n xs) ≡ bump from to (gaps k n xs)
  pub sum : ups a 1 x.value ≡ summary a (bump from to (gaps k n xs))
  pub raises : fits (ups a 1 x.value)
  pub low : x.pending + 1 ≤ 16
  pub over : (v : K) → v ≡ ups a 1 x.value → Built a k n (record { value = v; pending = x.pending + 1 }) hs (bump from to (gaps k n xs))

-- ---- a tree that is raised in its halves: what the two calls ask, and what is made of their answers u and v
pub record Raising {K : Type 0} (a : Algebra K) (fits : K → Type 0) (k j n from to : ℕ) (xs : List (Node K)) (x : Node K) (l r : List (Node K)) : Type 0 where
  pub forks : Fork a k j n xs x l r
  pub left_small : Small (bump from (min to (leaves j)) (gaps j (min n (leaves j)) l))
  pub right_small : Small (bump (from - leaves j) (to - leaves j) (gaps j (n - leaves j) r))
  pub joins : (u v : K) → u ≡ summary a (bump from (min to (leaves j)) (gaps j (min n (leaves j)) l)) → v ≡ summary a (bump (from - leaves j) (to - leaves j) (gaps j (n - leaves j) r)) → fits (a.join u v)
  pub sums : ups a x.pending (a.join (summary a (bump from (min to (leaves j)) (gaps j (min n (leaves j)) l))) (summary a (bump (from - leaves j) (to - leaves j) (gaps j (n - leaves j) r)))) ≡ summary a (bump from to (gaps k n xs))
  pub raises : (u v w : K) → u ≡ summary a (bump from (min to (leaves j)) (gaps j (min n (leaves j)) l)) → v ≡ summary a (bump (from - leaves j) (to - leaves j) (gaps j (n - leaves j) r)) → w ≡ a.join u v → fits (ups a x.pending w)
  pub over : (u v w z : K) → u ≡ summary a (bump from (min to (leaves j)) (gaps j (min n (leaves j)) l)) → v ≡ summary a (bump (from - leaves j) (to - leaves j) (gaps j (n - leaves j) r)) → w ≡ a.join u v → z ≡ ups a x.pending w
      → (m o : List (Node K)) → Tree a j (min n (leaves j)) m → gaps j (min n (leaves j)) m ≡ bump from (min to (leaves j)) (gaps j (min n (leaves j)) l)
      → Tree a j (n - leaves j) o → gaps j (n - leaves j) o ≡ bump (from - leaves j) (to - leaves j) (gaps j (n - leaves j) r)
      → Built a k n (record { value = z; pending = x.pending }) (m ++ o) (bump from to (gaps k n xs))

tall_raise : (k n half : ℕ) → n ≤ leaves k → half + half + 1 ≤ size k → 1 < n + half → 0 < k
tall_raise zero n half room long many = omega arith
tall_raise (suc k) n half room long many = omega arith

module _ {K : Type 0} {a : Algebra K} (laws : Laws a) (fits : K → Type 0) (fit : Fit a fits) where
  pub whole : {k n : ℕ} {xs : List (Node K)} {x : Node K} {hs : List (Node K)} → Tree a k n xs → xs ≡ x ∷ hs → (from to : ℕ) → Small (bump from to (gaps k n xs)) → to ≤ n → from ≡ 0 → length hs / 2 < to → Whole a fits k n from to xs x hs
  whole {k} {n} {xs} {x} {hs} t is from to small within start past =
      let rest : length xs ≡ suc (length hs) = ap length is in
      let full : leaves k ≤ n = omega (arith, t.long, size_leaves k) in
      let long = gaps_long t in
      let all : bump from to (gaps k n xs) ≡ lift 1 (gaps k n xs) = ap (λ i. bump i to (gaps k n xs)) start ∙ bump_all to (gaps k n xs) (omega (arith, t.room, t.long, size_leaves k)) in
      let sum : ups a 1 x.value ≡ summary a (bump from to (gaps k n xs)) = ap (ups a 1) (root_is t is) ∙ sym (summary_lift laws 1 (gaps k n xs)) ∙ ap (summary a) (sym all) in
      let those : bump from to (gaps k n xs) ≡ lift 1 (gaps k n (x ∷ hs)) = all ∙ ap (λ ys. lift 1 (gaps k n ys)) is in
      record {
        full = full;
        all = sym all;
        sum = sum;
        raises = subst fits (sym sum) (fit (bump from to (gaps k n xs)) small);
        low = root_low 16 k n x hs (ap (λ ys. length (gaps k n ys)) (sym is) ∙ long) (omega arith) (subst (Within 16) those small.low);
        over = λ v v_is. subst (Built a k n (record { value = v; pending = x.pending + 1 }) hs) (sym those) (raised_root laws k n x hs v (subst (Tree a k n) is t) full v_is);
      }

  raising : {k j n : ℕ} {xs : List (Node K)} {x : Node K} {l r : List (Node K)} → Fork a k j n xs x l r → n ≤ leaves k → (from to : ℕ) → Small (bump from to (gaps k n xs)) → Raising a fits k j n from to xs x l r
  raising {k} {j} {n} {xs} {x} {l} {r} f room from to small =
      let gl = gaps j (min n (leaves j)) l in
      let gr = gaps j (n - leaves j) r in
      let p = bump from (min to (leaves j)) gl in
      let q = bump (from - leaves j) (to - leaves j) gr in
      let gs = bump from to (gaps k n xs) in
      let cut : gs ≡ lift x.pending (p ++ q) = ap (bump from to) f.gaps_are ∙ split_bump n (leaves j) from to x.pending gl gr (gaps_long f.left) (gaps_long f.right) in
      let both : Small (p ++ q) = small_lift x.pending (p ++ q) (subst Small cut small) in
      let joined : (u v : K) → u ≡ summary a p → v ≡ summary a q → a.join u v ≡ summary a (p ++ q) = λ u v us vs. ap₂ a.join us vs ∙ sym (summary_append laws p q) in
      let raised : (u v w : K) → u ≡ summary a p → v ≡ summary a q → w ≡ a.join u v → ups a x.pending w ≡ summary a gs =
      λ u v w us vs ws. ap (ups a x.pending) (ws ∙ joined u v us vs) ∙ sym (summary_lift laws x.pending (p ++ q)) ∙ ap (summary a) (sym cut) in
      record {
        forks = f;
        left_small = small_left p q both;
        right_small = small_right p q both;
        joins = λ u v us vs. subst fits (sym (joined u v us vs)) (fit (p ++ q) both);
        sums = raised _ _ _ refl refl refl;
        raises = λ u v w us vs ws. subst fits (sym (raised u v w us vs ws)) (fit gs small);
        over = λ u v w z us vs ws zs m o tm gm to' go.
            built (record { value = z; pending = x.pending }) m o gs f.up room tm to' (ap₂ (λ s t. lift x.pending (s ++ t)) gm go ∙ sym cut) (zs ∙ raised u v w us vs ws) f.idle;
      }

  -- all that the code has at hand where it raises both halves
  pub splitting : {k n : ℕ} {xs : List (Node K)} {x : Node K} {hs l r : List (Node K)} → Tree a k n xs → xs ≡ x ∷ hs → (from to : ℕ) → Small (bump from to (gaps k n xs)) → 1 < n + length hs / 2
      → l ≡ take (length hs / 2) hs → r ≡ drop (length hs / 2) hs → Raising a fits k (k - 1) n from to xs x l r
  splitting {k} {n} {xs} {x} {hs} t is from to small many front back =
      let rest : length xs ≡ suc (length hs) = ap length is in
      raising (fork t (tall_raise k n (length hs / 2) t.room (omega (arith, t.long)) many) is front back) t.room from to small
