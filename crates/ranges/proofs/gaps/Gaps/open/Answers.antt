use Rattle.ranges.proofs.Opens.{nothing_listed}
use Rattle.ranges.proofs.gaps.Gaps.open.Goals as goal

pub returns-clause-empty : goal.returns-clause-empty
returns-clause-empty g c = nothing_listed (c.clear.ensures c.args.recent.now c.requires.wide)
