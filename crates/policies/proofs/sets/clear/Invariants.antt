use Rattle.replacement.proofs.Sets.{Blank}
use Rattle.policies.proofs.sets.clear.Given as goal

abbrev pub invariant-loop-row : goal.invariant-loop-row
invariant-loop-row g l = Blank g.R.RowRule.model g.R.RowRule.none l.row-index l.rows
