use Rattle.std.proofs.Common.{◌≡◌, take}
use Rattle.summaries.specs.Algebra.{summary}
use Rattle.summaries.proofs.kind.summary_of.Given as goal

abbrev pub invariant-loop-occupancy : goal.invariant-loop-occupancy
invariant-loop-occupancy g l = l.whole ≡ summary g.K.Kind.alg (take l.occupancy-index l.occupancies)
