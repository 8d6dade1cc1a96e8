use Rattle.std.proofs.Common.{◌≤◌}
use Rattle.edges.proofs.tests.lines.records.Given as goal

abbrev pub invariant-loop-line : goal.invariant-loop-line
invariant-loop-line l = l.count ≤ l.lines.number
