use Rattle.histories.proofs.Rising.{rises}
use Rattle.histories.proofs.rises.Goals as goal

pub returns : goal.returns
returns c = rises
