use Rattle.policy.proofs.Histories.{histories}
use Rattle.policy.proofs.holds_legally.Goals as goal

pub returns : goal.returns
returns g c = histories g.P.Policy.laws _ (g.P.Policy.laws.sound _ c.requires)
