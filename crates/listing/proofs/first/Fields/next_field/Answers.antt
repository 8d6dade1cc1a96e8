use Rattle.std.proofs.Common.{◌∙◌, arith}
use Rattle.std.proofs.lemmas.List.{take_rest}
use Rattle.listing.proofs.Splits.{next_field}
use Rattle.listing.proofs.first.Fields.next_field.Goals as goal

pub returns-clause-field : goal.returns-clause-field
returns-clause-field c =
    let r = c.in_ok-rest.ensures.lookup.0 in
    let f = next_field c.args.self.now.line.now c.in_ok-rest.rest.now c.args.self.now.at c.unbroken-length.result r.0 (r.2 ∙ take_rest c.args.self.now.line.now c.args.self.now.at) c.unbroken-length.ensures in
    (f.field, (let l = f.long in omega arith))
