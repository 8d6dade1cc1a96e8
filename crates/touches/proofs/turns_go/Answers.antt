use Rattle.touches.proofs.Turning.{turned}
use Rattle.touches.proofs.turns_go.Goals as goal

pub returns : goal.returns
returns c = turned
