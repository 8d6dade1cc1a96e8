-- The parts of a tree. Assumes nothing.
use Rattle.std.proofs.Common.{◌≡◌, ℕ, zero, suc, ◌+◌, ◌-◌, ◌/◌, ◌<◌, ◌≤◌, min, List, [], ◌∷◌, ◌++◌, length, take, drop, sym, refl, ap, ◌∙◌, subst, ap₂, subst₂, arith, length-append, length-drop, length-take}
use Rattle.std.proofs.lemmas.List.{length-map, take_at, drop_at}
use Rattle.summaries.specs.Algebra.{Algebra, summary}
use Rattle.summaries.specs.Stretches.{lift}
use Rattle.trees.specs.Trees.{leaves, size, gaps, Good, Tree}
use Rattle.trees.specs.declared.tree.Node.{Node}

pub size_some : (k : ℕ) → 0 < size k
size_some zero = omega arith
size_some (suc k) = omega arith

pub size_leaves : (k : ℕ) → size k + 1 ≡ leaves k + leaves k
size_leaves zero = refl
size_leaves (suc k) = omega (arith, size_leaves k)

pub length_gaps : {K : Type 0} (k n : ℕ) (xs : List (Node K)) → length xs ≡ size k → n ≤ leaves k → length (gaps k n xs) ≡ n
length_gaps zero zero xs e h = refl
length_gaps zero (suc n) [] e h = omega arith
length_gaps zero (suc n) (x ∷ xs) e h = omega arith
length_gaps (suc k) n [] e h = omega arith
length_gaps (suc k) n (x ∷ xs) e h =
    let l = take (size k) xs in
    let r = drop (size k) xs in
    let l_long : length l ≡ size k = length-take (size k) xs ∙ omega arith in
    let r_long : length r ≡ size k = length-drop (size k) xs ∙ omega arith in
    let left = length_gaps k (min n (leaves k)) l l_long (omega arith) in
    let right = length_gaps k (n - leaves k) r r_long (omega arith) in
    length-map (gaps k (min n (leaves k)) l ++ gaps k (n - leaves k) r) (λ g. g + x.pending)
    ∙ length-append (gaps k (min n (leaves k)) l) (gaps k (n - leaves k) r) ∙ omega (arith, left, right)

module _ {K : Type 0} {a : Algebra K} where
  pub gaps_long : {k n : ℕ} {xs : List (Node K)} → Tree a k n xs → length (gaps k n xs) ≡ n
  gaps_long {k} {n} {xs} t = length_gaps k n xs t.long t.room

  -- the root has the summary of all
  pub root_is : {k n : ℕ} {xs : List (Node K)} {x : Node K} {hs : List (Node K)} → Tree a k n xs → xs ≡ x ∷ hs → x.value ≡ summary a (gaps k n xs)
  root_is {k} {n} {xs} {x} {hs} t is = subst (λ ys. x.value ≡ summary a (gaps k n ys)) (sym is) (value k (subst (Good a k n) is t.good)) where
    value : (m : ℕ) → Good a m n (x ∷ hs) → x.value ≡ summary a (gaps m n (x ∷ hs))
    value zero good = good
    value (suc m) good = good.0

-- ---- a node with two halves
pub tall : (k n : ℕ) → n ≤ leaves k → 1 < n → 0 < k
tall zero n h m = omega arith
tall (suc k) n h m = omega arith

-- a tree of height k as the code cuts it: its root x, and the halves l and r, of height j
pub record Fork {K : Type 0} (a : Algebra K) (k j n : ℕ) (xs : List (Node K)) (x : Node K) (l r : List (Node K)) : Type 0 where
  pub up : k ≡ suc j
  pub room : length l / 2 + 1 ≡ leaves j
  pub left : Tree a j (min n (leaves j)) l
  pub right : Tree a j (n - leaves j) r
  pub gaps_are : gaps k n xs ≡ lift x.pending (gaps j (min n (leaves j)) l ++ gaps j (n - leaves j) r)
  pub idle : n < leaves k → x.pending ≡ 0

module _ {K : Type 0} {a : Algebra K} where
  fork_suc : (j n : ℕ) (x : Node K) (hs l r : List (Node K)) → Tree a (suc j) n (x ∷ hs) → l ≡ take (length hs / 2) hs → r ≡ drop (length hs / 2) hs → Fork a (suc j) j n (x ∷ hs) x l r
  fork_suc j n x hs l r t front back =
      let both : length hs ≡ size j + size j = omega (arith, t.long) in
      let half : length hs / 2 ≡ size j = omega (arith, both) in
      let l_is : l ≡ take (size j) hs = front ∙ ap (λ h. take h hs) half in
      let r_is : r ≡ drop (size j) hs = back ∙ ap (λ h. drop h hs) half in
      let l_long : length l ≡ size j = ap length l_is ∙ length-take (size j) hs ∙ omega (arith, both) in
      let r_long : length r ≡ size j = ap length r_is ∙ length-drop (size j) hs ∙ omega (arith, both) in
      record {
        up = refl;
        room = omega (arith, l_long, size_leaves j);
        left = record { long = l_long; room = omega arith; good = subst (Good a j (min n (leaves j))) (sym l_is) t.good.2 };
        right = record { long = r_long; room = omega (arith, t.room); good = subst (Good a j (n - leaves j)) (sym r_is) t.good.3 };
        gaps_are = ap₂ (λ u v. lift x.pending (gaps j (min n (leaves j)) u ++ gaps j (n - leaves j) v)) (sym l_is) (sym r_is);
        idle = t.good.1;
      }

  pub fork : {k n : ℕ} {xs : List (Node K)} {x : Node K} {hs l r : List (Node K)} → Tree a k n xs → 0 < k → xs ≡ x ∷ hs → l ≡ take (length hs / 2) hs → r ≡ drop (length hs / 2) hs → Fork a k (k - 1) n xs x l r
  fork {k} {n} {xs} {x} {hs} {l} {r} t h is front back =
      let up : k ≡ suc (k - 1) = omega arith in
      subst₂ (λ m ys. Fork a m (k - 1) n ys x l r) (sym up) (sym is) (fork_suc (k - 1) n x hs l r (subst₂ (λ m ys. Tree a m n ys) up is t) front back)

-- ---- a tree that is made anew: its root y and the rest
pub record Built {K : Type 0} (a : Algebra K) (k n : ℕ) (y : Node K) (ys : List (Node K)) (gs : List ℕ) : Type 0 where
  pub tree : Tree a k n (y ∷ ys)
  pub gaps_are : gaps k n (y ∷ ys) ≡ gs
  pub value : y.value ≡ summary a gs

module _ {K : Type 0} {a : Algebra K} where
  built_suc : {j n : ℕ} (y : Node K) (l r : List (Node K)) (gs : List ℕ) → n ≤ leaves (suc j) → Tree a j (min n (leaves j)) l → Tree a j (n - leaves j) r
      → lift y.pending (gaps j (min n (leaves j)) l ++ gaps j (n - leaves j) r) ≡ gs → y.value ≡ summary a gs → (n < leaves (suc j) → y.pending ≡ 0) → Built a (suc j) n y (l ++ r) gs
  built_suc {j} {n} y l r gs room tl tr are value idle =
      let front = take_at l r (size j) tl.long in
      let back = drop_at l r (size j) tl.long in
      let is : gaps (suc j) n (y ∷ (l ++ r)) ≡ gs = ap₂ (λ u v. lift y.pending (gaps j (min n (leaves j)) u ++ gaps j (n - leaves j) v)) front back ∙ are in
      record {
        tree = record {
          long = omega (arith, length-append l r, tl.long, tr.long);
          room = room;
          good = (value ∙ ap (summary a) (sym is), idle, subst (Good a j (min n (leaves j))) (sym front) tl.good, subst (Good a j (n - leaves j)) (sym back) tr.good);
        };
        gaps_are = is;
        value = value;
      }

  pub built : {k j n : ℕ} (y : Node K) (l r : List (Node K)) (gs : List ℕ) → k ≡ suc j → n ≤ leaves k → Tree a j (min n (leaves j)) l → Tree a j (n - leaves j) r
      → lift y.pending (gaps j (min n (leaves j)) l ++ gaps j (n - leaves j) r) ≡ gs → y.value ≡ summary a gs → (n < leaves k → y.pending ≡ 0) → Built a k n y (l ++ r) gs
  built {k} {j} {n} y l r gs up room tl tr are value idle =
      subst (λ m. Built a m n y (l ++ r) gs) (sym up) (built_suc y l r gs (subst (λ m. n ≤ leaves m) up room) tl tr are value (subst (λ m. n < leaves m → y.pending ≡ 0) up idle))
