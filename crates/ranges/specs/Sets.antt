-- The gaps of one set as one value: the list that they stand for, and the loans that hold them.
use Rattle.std.specs.Prelude.{◌≡◌, ℕ, List}
use Rattle.std.specs.Borrow.{MutBor}
use Rattle.trees.specs.declared.tree.Node.{Node}
use Rattle.ranges.specs.Occupancies.{occupancies}
use Rattle.ranges.specs.declared.gaps.Gaps.{Gaps}

module _ {K : Type 0} {kind : _} where
  -- the occupancies, the oldest first
  abbrev pub listed : Gaps K kind → List ℕ
  listed gaps = occupancies gaps.height gaps.count gaps.nodes.now gaps.recent.now

  -- the memory is lent by these references
  abbrev pub LentBy : Gaps K kind → MutBor (List (Node K)) → MutBor (List ℕ) → Type 0
  LentBy gaps nodes recent = (gaps.nodes.ghost_name ≡ nodes.ghost_name) × (gaps.recent.ghost_name ≡ recent.ghost_name)

  -- the same set in the same memory, whatever its gaps
  abbrev pub SameSet : Gaps K kind → Gaps K kind → Type 0
  SameSet before after = (after.height ≡ before.height) × LentBy after before.nodes before.recent
