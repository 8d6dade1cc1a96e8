use Rattle.replacement.proofs.Lru.{Fine}
use Rattle.replacement.proofs.Sets.{recent_from}
use Rattle.policies.specs.Recent.{lru_row}
use Rattle.policies.proofs.laws.lru_holds_recent.Goals as goal

pub returns : goal.returns
returns c = let p = c.args.policy.now in recent_from lru_row Fine p.shape.s p.shape.ways p.sets p.rows.now c.requires
