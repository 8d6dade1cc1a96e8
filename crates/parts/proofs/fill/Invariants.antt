use Rattle.parts.specs.Equal.{Filled}
use Rattle.parts.proofs.fill.Given as goal

abbrev pub invariant-loop-x : goal.invariant-loop-x
invariant-loop-x g l = Filled l.v l.x-index l.x-items
