use Rattle.std.proofs.Common.{◌-◌, ap, ◌∙◌, arith}
use lib.Bits.{bit_and}
use Rattle.std.proofs.lemmas.Nat.{and_mask, one_shl}
use Rattle.geometry.proofs.shape.Geometry.set_of.Goals as goal

pub returns : goal.returns
returns c = ap (λ m. bit_and c.args.line.0 (m - 1)) (one_shl c.args.self.s 64 (omega arith)) ∙ and_mask c.args.line.0 c.args.self.s
