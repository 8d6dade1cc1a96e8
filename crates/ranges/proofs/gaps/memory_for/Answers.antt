use Rattle.std.proofs.Common.{refl}
use Rattle.ranges.proofs.Opens.{amounts}
use Rattle.ranges.proofs.gaps.memory_for.Goals as goal

pub returns : goal.returns
returns c = amounts c.args.height _ _ c.min.result c.if-height-gt16.false refl refl c.min.ensures
