use Rattle.std.proofs.Common.{◌≡◌, ◌++◌, map, take, drop}
use Rattle.replacement.specs.Lru.{older}
use Rattle.rows.proofs.lru.make_older.Given as goal

abbrev pub invariant-loop-way : goal.invariant-loop-way
invariant-loop-way l = l.ways ≡ map (older l.limit) (take l.way-index l.initial.ways) ++ drop l.way-index l.initial.ways
