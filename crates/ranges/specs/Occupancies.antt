-- What the memory of one set stands for: one list of occupancies, the older ones in a tree and the newest in a plain array.
use Rattle.std.specs.Prelude.{◌≡◌, ℕ, ◌-◌, ◌*◌, ◌/◌, ◌≤◌, min, List, ◌++◌, length, take}
use Rattle.summaries.specs.Algebra.{Algebra, Small}
use Rattle.trees.specs.Trees.{leaves, size, gaps, Good}
use Rattle.trees.specs.declared.tree.Node.{Node}

-- how many of n gaps stand in the tree: whole blocks of 64, so that the newest 64 to 127, or all while they are fewer, stand in the array
abbrev pub older : ℕ → ℕ
older n = (n / 64 - 1) * 64

-- the length of the array beside a tree of height k
abbrev pub recents : ℕ → ℕ
recents k = min (leaves k) 128

-- the occupancies of n gaps, the oldest first
abbrev pub occupancies : {K : Type 0} → ℕ → ℕ → List (Node K) → List ℕ → List ℕ
occupancies k n nodes recent = gaps k (older n) nodes ++ take (n - older n) recent

-- what always holds of the memory of a set
pub record Sound {K : Type 0} (a : Algebra K) (k n : ℕ) (nodes : List (Node K)) (recent : List ℕ) : Type 0 where
  pub long : length nodes ≡ size k
  pub wide : length recent ≡ recents k
  pub room : n ≤ leaves k
  pub good : Good a k (older n) nodes
  pub small : Small (occupancies k n nodes recent)

-- what a set of up to 2^k gaps takes
pub record Amounts (k slots nodes recent : ℕ) : Type 0 where
  pub low : k ≤ 16
  pub slots_are : slots ≡ leaves k
  pub nodes_are : nodes ≡ size k
  pub recent_are : recent ≡ recents k
