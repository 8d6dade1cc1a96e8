use Rattle.std.proofs.Common.{get_or, set, ap, ◌∙◌}
use Rattle.replacement.specs.Ways.{no_way}
use Rattle.replacement.specs.Lru.{older}
use Rattle.replacement.proofs.Ways.{pass_more}
use Rattle.replacement.proofs.Lru.{older_byte}
use Rattle.rows.proofs.lru.make_older.Goals as goal

pub loop-way-preserved : goal.loop-way-preserved
loop-way-preserved c =
    let ways = c.loop-way.ways in
    let i = c.loop-way.way-index in
    ap (set ways i) (older_byte c.args.limit (get_or ways i no_way)) ∙ pass_more (older c.args.limit) c.args.ways.now ways i c.loop-way-test.true c.loop-way.invariant
