use Rattle.std.proofs.Common.{◌≡◌}
use Rattle.summaries.specs.Stretches.{bump}
use Rattle.ranges.proofs.gaps.raise_recent.Given as goal

abbrev pub invariant-loop-occupancy : goal.invariant-loop-occupancy
invariant-loop-occupancy l = l.occupancy-items ≡ bump 0 l.occupancy-index l.initial.occupancy-items
