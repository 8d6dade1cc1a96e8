use Rattle.histories.proofs.Lower.{attained}
use Rattle.histories.proofs.attained.Goals as goal

pub returns : goal.returns
returns c = attained
