use Rattle.replacement.proofs.Ways.{Choosing}
use Rattle.rows.proofs.row.choose.Given as goal

abbrev pub invariant-loop-i : goal.invariant-loop-i
invariant-loop-i l = Choosing l.ways l.i l.oldest l.age
