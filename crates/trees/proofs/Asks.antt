-- A query over the two halves of a tree. Assumes nothing.
use Rattle.std.proofs.Common.{◌≡◌, ℕ, ◌-◌, ◌/◌, ◌<◌, min, List, ◌∷◌, ◌++◌, length, take, drop, sym, ap, ◌∙◌, subst, ap₂, ⊎_elim, arith}
use Rattle.std.specs.List.{between}
use Rattle.std.proofs.lemmas.Bool.{cases_lt}
use Rattle.summaries.specs.Algebra.{Algebra, Laws, Small, Fit, ups, summary}
use Rattle.summaries.specs.Stretches.{lift}
use Rattle.trees.specs.Trees.{leaves, gaps, Tree}
use Rattle.trees.specs.declared.tree.Node.{Node}
use Rattle.summaries.proofs.Sums.{summary_append, summary_lift}
use Rattle.summaries.proofs.Rows.{between_append, between_nil, lift_between, small_left, small_right, small_lift, small_between}
use Rattle.trees.proofs.Trees.{Fork, fork, tall, gaps_long}

-- the right half's part, counted from the right half's start
shifted : (n c a b : ℕ) (gr : List ℕ) → length gr ≡ n - c → between (a - min n c) (b - min n c) gr ≡ between (a - c) (b - c) gr
shifted n c a b gr e =
    ⊎_elim
    (λ h. let none : length gr ≡ 0 = omega arith in between_nil (a - min n c) (b - min n c) gr none ∙ sym (between_nil (a - c) (b - c) gr none))
    (λ h. let m : min n c ≡ c = omega arith in ap (λ i. between (a - i) (b - i) gr) m)
    (cases_lt n c)

split_between : (n c a b p : ℕ) (gl gr : List ℕ) → length gl ≡ min n c → length gr ≡ n - c
    → between a b (lift p (gl ++ gr)) ≡ lift p (between a b gl ++ between (a - c) (b - c) gr)
split_between n c a b p gl gr e f =
    lift_between p a b (gl ++ gr) ∙ ap (lift p) (between_append a b gl gr
    ∙ ap (λ i. between a b gl ++ between (a - i) (b - i) gr) e
    ∙ ap (◌++◌ (between a b gl)) (shifted n c a b gr f))

-- what the two calls ask, and what is made of their answers u and v
pub record Asking {K : Type 0} (a : Algebra K) (fits : K → Type 0) (k j n from to : ℕ) (xs : List (Node K)) (x : Node K) (l r : List (Node K)) : Type 0 where
  pub forks : Fork a k j n xs x l r
  pub left_small : Small (gaps j (min n (leaves j)) l)
  pub right_small : Small (gaps j (n - leaves j) r)
  pub joins : (u v : K) → u ≡ summary a (between from to (gaps j (min n (leaves j)) l)) → v ≡ summary a (between (from - leaves j) (to - leaves j) (gaps j (n - leaves j) r)) → fits (a.join u v)
  pub raises : (u v w : K) → u ≡ summary a (between from to (gaps j (min n (leaves j)) l)) → v ≡ summary a (between (from - leaves j) (to - leaves j) (gaps j (n - leaves j) r)) → w ≡ a.join u v → fits (ups a x.pending w)
  pub answer : (u v w : K) → u ≡ summary a (between from to (gaps j (min n (leaves j)) l)) → v ≡ summary a (between (from - leaves j) (to - leaves j) (gaps j (n - leaves j) r)) → w ≡ a.join u v
      → ups a x.pending w ≡ summary a (between from to (gaps k n xs))

module _ {K : Type 0} {a : Algebra K} (laws : Laws a) (fits : K → Type 0) (fit : Fit a fits) where
  asking : {k j n : ℕ} {xs : List (Node K)} {x : Node K} {l r : List (Node K)} → Fork a k j n xs x l r → Small (gaps k n xs) → (from to : ℕ) → Asking a fits k j n from to xs x l r
  asking {k} {j} {n} {xs} {x} {l} {r} f small from to =
      let gl = gaps j (min n (leaves j)) l in
      let gr = gaps j (n - leaves j) r in
      let p = between from to gl in
      let q = between (from - leaves j) (to - leaves j) gr in
      let inner : Small (gl ++ gr) = small_lift x.pending (gl ++ gr) (subst Small f.gaps_are small) in
      let cut : between from to (gaps k n xs) ≡ lift x.pending (p ++ q) = ap (between from to) f.gaps_are ∙ split_between n (leaves j) from to x.pending gl gr (gaps_long f.left) (gaps_long f.right) in
      let whole : Small (lift x.pending (p ++ q)) = subst Small cut (small_between from to (gaps k n xs) small) in
      let joined : (u v : K) → u ≡ summary a p → v ≡ summary a q → a.join u v ≡ summary a (p ++ q) = λ u v us vs. ap₂ a.join us vs ∙ sym (summary_append laws p q) in
      let raised : (u v w : K) → u ≡ summary a p → v ≡ summary a q → w ≡ a.join u v → ups a x.pending w ≡ summary a (lift x.pending (p ++ q)) =
      λ u v w us vs ws. ap (ups a x.pending) (ws ∙ joined u v us vs) ∙ sym (summary_lift laws x.pending (p ++ q)) in
      record {
        forks = f;
        left_small = small_left gl gr inner;
        right_small = small_right gl gr inner;
        joins = λ u v us vs. subst fits (sym (joined u v us vs)) (fit (p ++ q) (small_lift x.pending (p ++ q) whole));
        raises = λ u v w us vs ws. subst fits (sym (raised u v w us vs ws)) (fit (lift x.pending (p ++ q)) whole);
        answer = λ u v w us vs ws. raised u v w us vs ws ∙ ap (summary a) (sym cut);
      }

  -- all that the code has at hand where it asks both halves
  pub halving : {k n : ℕ} {xs : List (Node K)} {x : Node K} {hs l r : List (Node K)} → Tree a k n xs → Small (gaps k n xs) → 1 < n → xs ≡ x ∷ hs → l ≡ take (length hs / 2) hs → r ≡ drop (length hs / 2) hs
      → (from to : ℕ) → Asking a fits k (k - 1) n from to xs x l r
  halving {k} {n} t small many is front back = asking (fork t (tall k n t.room many) is front back) small
