-- What the nodes of a tree stand for. A tree of height k stands in one slice: its root, then its left half, then its right half.
use Rattle.std.specs.Prelude.{◌≡◌, ℕ, zero, suc, ◌+◌, ◌-◌, ◌<◌, ◌≤◌, min, List, [], ◌∷◌, ◌++◌, take, drop, length}
use Rattle.summaries.specs.Algebra.{Algebra, summary}
use Rattle.summaries.specs.Stretches.{lift}
use Rattle.trees.specs.declared.tree.Node.{Node}

-- the leaves of a tree of height k
abbrev pub leaves : ℕ → ℕ
leaves zero = 1
leaves (suc k) = leaves k + leaves k

-- its nodes
abbrev pub size : ℕ → ℕ
size zero = 1
size (suc k) = suc (size k + size k)

-- the occupancies of the first n leaves: what is pending at a leaf and at each node above it
abbrev pub gaps : {K : Type 0} → ℕ → ℕ → List (Node K) → List ℕ
gaps zero zero xs = []
gaps zero (suc n) [] = []
gaps zero (suc n) (x ∷ xs) = x.pending ∷ []
gaps (suc k) n [] = []
gaps (suc k) n (x ∷ xs) = lift x.pending (gaps k (min n (leaves k)) (take (size k) xs) ++ gaps k (n - leaves k) (drop (size k) xs))

-- each node has the summary of those of its leaves that are taken, and a node with a free leaf has nothing pending
abbrev pub Good : {K : Type 0} → Algebra K → ℕ → ℕ → List (Node K) → Type 0
Good a zero n [] = Unit {0}
Good a zero n (x ∷ xs) = x.value ≡ summary a (gaps zero n (x ∷ xs))
Good a (suc k) n [] = Unit {0}
Good a (suc k) n (x ∷ xs) =
    (x.value ≡ summary a (gaps (suc k) n (x ∷ xs))) × (n < leaves (suc k) → x.pending ≡ 0)
    × Good a k (min n (leaves k)) (take (size k) xs) × Good a k (n - leaves k) (drop (size k) xs)

-- a tree of height k with n gaps
pub record Tree {K : Type 0} (a : Algebra K) (k n : ℕ) (xs : List (Node K)) : Type 0 where
  pub long : length xs ≡ size k
  pub room : n ≤ leaves k
  pub good : Good a k n xs
