use Rattle.std.proofs.Common.{arith}
use Rattle.replacement.specs.Srrip.{risen}
use Rattle.replacement.proofs.Ways.{pass_more, pass_low}
use Rattle.rows.proofs.srrip.rise.Goals as goal

pub overflow_add-way : goal.overflow_add-way
overflow_add-way c =
    let low = pass_low (risen c.args.by) c.args.ways.now c.loop-way.ways c.loop-way.way-index c.loop-way-test.true c.loop-way.invariant in
    omega (arith, low, c.requires)

pub loop-way-preserved : goal.loop-way-preserved
loop-way-preserved c =
    let ways = c.loop-way.ways in
    let i = c.loop-way.way-index in
    pass_more (risen c.args.by) c.args.ways.now ways i c.loop-way-test.true c.loop-way.invariant
