use Rattle.std.proofs.Common.{refl}
use Rattle.listing.proofs.Splits.{some_field}
use Rattle.listing.proofs.first.Fields.end.Goals as goal

pub returns-then-self : goal.returns-then-self
returns-then-self c = let g = some_field c.args.self.now.line.now c.args.self.now.at c.if-self.true in (g.0, g.1, g.2, refl)
