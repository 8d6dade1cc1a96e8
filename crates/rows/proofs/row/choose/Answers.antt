use Rattle.replacement.proofs.Ways.{choose_none, choose_all}
use Rattle.rows.proofs.row.choose.Goals as goal

pub loop-i-init : goal.loop-i-init
loop-i-init c = choose_none c.args.ways.now

pub returns : goal.returns
returns c = choose_all c.args.ways.now c.loop-i.i _ _ c.requires c.loop-i-test.false c.loop-i.auto.i-end c.loop-i.invariant
