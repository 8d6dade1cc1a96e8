use Rattle.std.proofs.lemmas.Grind.{common_steps}
use Rattle.std.proofs.Common.{length, ap, ◌∙◌, arith, rules}
use Rattle.std.proofs.lemmas.List.{length-take-le}
use Rattle.replacement.specs.Sets.{opened}
use Rattle.replacement.proofs.Sets.{clear_opened, clear_ready}
use Rattle.policies.proofs.Memory.{uses}
use Rattle.policies.proofs.sets.Sets.open.Goals as goal

pub returns : goal.returns
returns g c =
    let m = g.R.RowRule in
    let s = c.args.shape.s in
    let w = c.args.shape.ways in
    let n = c.rows_used-sets.result in
    let rows = c.args.rows.now in
    let blank = c.clear.new.rows in
    let is = c.rows_used-sets.ensures in
    let u = uses (length rows) s w n is in
    let full = c.clear.auto.rows ∙ length-take-le n rows u.long in
    record {
      keeps = clear_ready m.model m.none s w n blank _ full u.few c.clear.ensures m.laws u.all u.some;
      starts = clear_opened m.model m.none s w n blank _ full u.few c.clear.ensures ∙ ap (opened m.none s w) is;
      uses = is;
      spares = grind (arith, common_steps);
      lends = search rules;
    }
