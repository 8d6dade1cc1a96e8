use Rattle.std.proofs.Common.{◌+◌, get_or, set, ap, ◌∙◌, arith}
use Rattle.ranges.proofs.Recents.{bump_more, turn_low, put_raised}
use Rattle.ranges.proofs.gaps.raise_recent.Goals as goal

pub overflow_add-occupancy : goal.overflow_add-occupancy
overflow_add-occupancy c =
    let low = turn_low 16 c.args.from c.args.to c.min.result c.loop-occupancy.occupancy-index c.args.recent.now c.loop-occupancy.occupancy-items c.min.ensures c.loop-occupancy.invariant c.loop-occupancy-test.true c.requires.within c.requires.low in
    omega (arith, low)

pub loop-occupancy-preserved : goal.loop-occupancy-preserved
loop-occupancy-preserved c =
    let i = c.loop-occupancy.occupancy-index in
    ap (λ ys. set ys i (get_or ys i 0 + 1)) c.loop-occupancy.invariant ∙ bump_more i _ c.loop-occupancy-test.true

pub returns : goal.returns
returns c = put_raised c.args.from c.args.to c.min.result c.loop-occupancy.occupancy-index c.args.recent.now c.loop-occupancy.occupancy-items c.min.ensures c.requires.within c.loop-occupancy.invariant c.loop-occupancy-test.false
