use Rattle.std.proofs.Common.{◌∙◌}
use Rattle.std.proofs.lemmas.List.{length-take-le}
use Rattle.replacement.proofs.Sets.{clear_moves}
use Rattle.policies.proofs.sets.SetsPolicy.empty.Goals as goal

pub returns-clause-moves : goal.returns-clause-moves
returns-clause-moves g c =
    let m = g.R.RowRule in
    let p = c.args.self.now in
    let h = c.requires in
    clear_moves m.model m.none p.shape.s p.shape.ways p.sets c.clear.new.rows _ (c.clear.auto.rows ∙ length-take-le p.sets p.rows.now h.long) h.few c.clear.ensures p.rows.now h.long
