use Rattle.std.proofs.Common.{◌≡◌, ◌++◌, map, take, drop}
use Rattle.replacement.specs.Srrip.{risen}
use Rattle.rows.proofs.srrip.rise.Given as goal

abbrev pub invariant-loop-way : goal.invariant-loop-way
invariant-loop-way l = l.ways ≡ map (risen l.by) (take l.way-index l.initial.ways) ++ drop l.way-index l.initial.ways
