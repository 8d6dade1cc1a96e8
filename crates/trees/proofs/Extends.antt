-- A tree with a block of gaps more.
use Rattle.std.proofs.Common.{◌≡◌, ℕ, zero, suc, ◌+◌, ◌-◌, ◌/◌, ◌<◌, ◌≤◌, min, true, false, ◌==◌, List, [], ◌∷◌, ◌++◌, length, get_or, take, drop, sym, refl, ap, ◌∙◌, subst, ap₂, ⊎_elim, append_assoc, append-nil, arith, length-append, take-append-drop, length-take}
use Rattle.std.proofs.lemmas.List.{nil_from_length}
use Rattle.std.proofs.lemmas.Bool.{cases_lt}
use Rattle.std.proofs.lemmas.Bool.Decides.{nat_tests}
use Rattle.summaries.specs.Algebra.{Algebra, Laws, Small, Fit, ups, summary}
use Rattle.summaries.specs.Stretches.{lift}
use Rattle.trees.specs.Trees.{leaves, gaps, Tree}
use Rattle.trees.specs.declared.tree.Node.{Node}
use Rattle.summaries.proofs.Sums.{summary_append}
use Rattle.summaries.proofs.Rows.{lift_zero, small_left, small_right}
use Rattle.trees.proofs.Trees.{Fork, fork, Built, built, gaps_long, root_is}

-- what the code's test tells
pub is_none : (bs : List ℕ) → true ≡ (length bs == 0) → length bs ≡ 0
is_none bs e = grind (arith, nat_tests)

pub is_some : (bs : List ℕ) → false ≡ (length bs == 0) → 0 < length bs
is_some bs e = grind (arith, nat_tests)

-- an empty block
pub none_more : {K : Type 0} {a : Algebra K} {k n : ℕ} {xs : List (Node K)} {x : Node K} {hs : List (Node K)} → Tree a k n xs → xs ≡ x ∷ hs → (bs : List ℕ) → length bs ≡ 0 → Built a k (n + length bs) x hs (gaps k n xs ++ bs)
none_more {K} {a} {k} {n} {xs} {x} {hs} t is bs e =
    let same : n ≡ n + length bs = omega arith in
    let gs : gaps k n xs ≡ gaps k n xs ++ bs = sym (append-nil (gaps k n xs)) ∙ ap (◌++◌ (gaps k n xs)) (sym (nil_from_length bs e)) in
    subst (λ m. Built a k m x hs (gaps k n xs ++ bs)) same (record { tree = subst (Tree a k n) is t; gaps_are = ap (gaps k n) (sym is) ∙ gs; value = root_is t is ∙ ap (summary a) gs })

-- one gap, in a leaf
pub record Leaf {K : Type 0} (a : Algebra K) (fits : K → Type 0) (k n : ℕ) (hs : List (Node K)) (gs bs : List ℕ) : Type 0 where
  pub raises : (gap : K) → gap ≡ a.one → fits (ups a (get_or bs 0 0) gap)
  pub over : (gap v : K) → gap ≡ a.one → v ≡ ups a (get_or bs 0 0) gap → Built a k (n + length bs) (record { value = v; pending = get_or bs 0 0 }) hs (gs ++ bs)

module _ {K : Type 0} {a : Algebra K} (laws : Laws a) (fits : K → Type 0) (fit : Fit a fits) where
  leaf : (n : ℕ) (x : Node K) (hs : List (Node K)) → Tree a 0 n (x ∷ hs) → (bs : List ℕ) → n + length bs ≤ 1 → 0 < length bs → Small (gaps 0 n (x ∷ hs) ++ bs) → Leaf a fits 0 n hs (gaps 0 n (x ∷ hs)) bs
  leaf n x hs t [] room some small = let z : ⊥ = omega arith in absurd z
  leaf n x hs t (b ∷ c ∷ bs) room some small = let z : ⊥ = omega arith in absurd z
  leaf (suc n) x hs t (b ∷ []) room some small = let z : ⊥ = omega arith in absurd z
  leaf zero x hs t (b ∷ []) room some small =
      let one : ups a b a.one ≡ summary a (b ∷ []) = sym (laws.right (ups a b a.one)) in
      record {
        raises = λ gap e. rw (e, one) (fit (b ∷ []) small);
        over = λ gap v e v_is.
            let value : v ≡ summary a (b ∷ []) = v_is ∙ ap (ups a b) e ∙ one in
            record { tree = record { long = t.long; room = room; good = value }; gaps_are = refl; value = value };
      }

  pub leaf_more : {k n : ℕ} {xs : List (Node K)} {x : Node K} {hs : List (Node K)} → Tree a k n xs → xs ≡ x ∷ hs → k ≡ 0 → (bs : List ℕ) → n + length bs ≤ leaves k → 0 < length bs → Small (gaps k n xs ++ bs)
      → Leaf a fits k n hs (gaps k n xs) bs
  leaf_more {k = suc k} t is low bs room some small = let z : ⊥ = omega arith in absurd z
  leaf_more {k = zero} {n = n} {xs = xs} {x = x} {hs = hs} t is low bs room some small =
      subst (λ ys. Leaf a fits 0 n hs (gaps 0 n ys) bs) (sym is) (leaf n x hs (subst (Tree a 0 n) is t) bs room some (subst (λ ys. Small (gaps 0 n ys ++ bs)) is small))

-- the block is cut where the left half is full
shuffle : (n c : ℕ) (gl gr first rest block : List ℕ) → length gr ≡ n - c → first ++ rest ≡ block → length first ≡ min (length block) (c - n)
    → (gl ++ first) ++ (gr ++ rest) ≡ (gl ++ gr) ++ block
shuffle n c gl gr first rest block gr_long is cut =
    ⊎_elim
    (λ h.
    let none = nil_from_length gr (omega arith) in
    ap (λ g. (gl ++ first) ++ (g ++ rest)) none ∙ append_assoc gl first rest ∙ ap (◌++◌ gl) is ∙ ap (λ g. g ++ block) (sym (append-nil gl) ∙ ap (◌++◌ gl) (sym none)))
    (λ h.
    let none = nil_from_length first (omega arith) in
    let all : rest ≡ block = ap (λ b. b ++ rest) (sym none) ∙ is in
    ap₂ (λ u v. (gl ++ u) ++ (gr ++ v)) none all ∙ ap (λ g. g ++ (gr ++ block)) (append-nil gl) ∙ sym (append_assoc gl gr block))
    (cases_lt n c)

-- what the two calls ask, and what is made of their answers u and v
pub record Extending {K : Type 0} (a : Algebra K) (fits : K → Type 0) (k j n : ℕ) (xs : List (Node K)) (x : Node K) (l r : List (Node K)) (first rest block : List ℕ) : Type 0 where
  pub forks : Fork a k j n xs x l r
  pub left_room : min n (leaves j) + length first ≤ leaves j
  pub right_room : n - leaves j + length rest ≤ leaves j
  pub left_small : Small (gaps j (min n (leaves j)) l ++ first)
  pub right_small : Small (gaps j (n - leaves j) r ++ rest)
  pub joins : (u v : K) → u ≡ summary a (gaps j (min n (leaves j)) l ++ first) → v ≡ summary a (gaps j (n - leaves j) r ++ rest) → fits (a.join u v)
  pub sums : a.join (summary a (gaps j (min n (leaves j)) l ++ first)) (summary a (gaps j (n - leaves j) r ++ rest)) ≡ summary a (gaps k n xs ++ block)
  pub over : (u v w : K) → u ≡ summary a (gaps j (min n (leaves j)) l ++ first) → v ≡ summary a (gaps j (n - leaves j) r ++ rest) → w ≡ a.join u v → (m o : List (Node K))
      → Tree a j (min n (leaves j) + length first) m → gaps j (min n (leaves j) + length first) m ≡ gaps j (min n (leaves j)) l ++ first
      → Tree a j (n - leaves j + length rest) o → gaps j (n - leaves j + length rest) o ≡ gaps j (n - leaves j) r ++ rest
      → Built a k (n + length block) (record { value = w; pending = x.pending }) (m ++ o) (gaps k n xs ++ block)

module _ {K : Type 0} {a : Algebra K} (laws : Laws a) (fits : K → Type 0) (fit : Fit a fits) where
  pub extending : {k j n : ℕ} {xs : List (Node K)} {x : Node K} {l r : List (Node K)} → Fork a k j n xs x l r → (first rest block : List ℕ) → n + length block ≤ leaves k → 0 < length block
      → first ++ rest ≡ block → length first ≡ min (length block) (leaves j - n) → Small (gaps k n xs ++ block) → Extending a fits k j n xs x l r first rest block
  extending {k} {j} {n} {xs} {x} {l} {r} f first rest block room some is cut small =
      let c = leaves j in
      let gl = gaps j (min n c) l in
      let gr = gaps j (n - c) r in
      let twice : leaves k ≡ c + c = ap leaves f.up in
      let long : length first + length rest ≡ length block = sym (length-append first rest) ∙ ap length is in
      let idle : x.pending ≡ 0 = f.idle (omega arith) in
      let plain : gaps k n xs ≡ gl ++ gr = f.gaps_are ∙ ap (λ q. lift q (gl ++ gr)) idle ∙ lift_zero (gl ++ gr) in
      let all : (gl ++ first) ++ (gr ++ rest) ≡ gaps k n xs ++ block = shuffle n c gl gr first rest block (gaps_long f.right) is cut ∙ ap (λ g. g ++ block) (sym plain) in
      let both : Small ((gl ++ first) ++ (gr ++ rest)) = subst Small (sym all) small in
      let joined : (u v : K) → u ≡ summary a (gl ++ first) → v ≡ summary a (gr ++ rest) → a.join u v ≡ summary a (gaps k n xs ++ block) =
      λ u v us vs. ap₂ a.join us vs ∙ sym (summary_append laws (gl ++ first) (gr ++ rest)) ∙ ap (summary a) all in
      record {
        forks = f;
        left_room = omega arith;
        right_room = omega arith;
        left_small = small_left (gl ++ first) (gr ++ rest) both;
        right_small = small_right (gl ++ first) (gr ++ rest) both;
        joins = λ u v us vs. subst fits (sym (joined u v us vs)) (fit (gaps k n xs ++ block) small);
        sums = joined _ _ refl refl;
        over = λ u v w us vs ws m o tm gm to go.
            let i : min n c + length first ≡ min (n + length block) c = omega arith in
            let e : n - c + length rest ≡ n + length block - c = omega arith in
            let inner : lift x.pending (gaps j (min (n + length block) c) m ++ gaps j (n + length block - c) o) ≡ gaps k n xs ++ block =
            ap₂ lift idle (ap₂ ◌++◌ (ap (λ q. gaps j q m) (sym i) ∙ gm) (ap (λ q. gaps j q o) (sym e) ∙ go)) ∙ lift_zero ((gl ++ first) ++ (gr ++ rest)) ∙ all in
            built (record { value = w; pending = x.pending }) m o (gaps k n xs ++ block) f.up room (subst (λ q. Tree a j q m) i tm) (subst (λ q. Tree a j q o) e to) inner (ws ∙ joined u v us vs) (λ h. idle);
      }

  -- all that the code has at hand where it cuts the block
  pub cutting : {k n : ℕ} {xs : List (Node K)} {x : Node K} {hs l r : List (Node K)} → Tree a k n xs → xs ≡ x ∷ hs → 0 < k → l ≡ take (length hs / 2) hs → r ≡ drop (length hs / 2) hs
      → (fill : ℕ) (first rest block : List ℕ) → first ≡ take fill block → rest ≡ drop fill block → fill ≡ min (length block) (length l / 2 + 1 - n)
      → n + length block ≤ leaves k → 0 < length block → Small (gaps k n xs ++ block) → Extending a fits k (k - 1) n xs x l r first rest block
  cutting {k} {n} {xs} {x} {hs} {l} {r} t is tall front back fill first rest block first_is rest_is filled room some small =
      let f = fork t tall is front back in
      let c : fill ≡ min (length block) (leaves (k - 1) - n) = filled ∙ ap (λ m. min (length block) (m - n)) f.room in
      extending f first rest block room some (ap₂ ◌++◌ first_is rest_is ∙ take-append-drop fill block) (ap length first_is ∙ length-take fill block ∙ omega arith) small
