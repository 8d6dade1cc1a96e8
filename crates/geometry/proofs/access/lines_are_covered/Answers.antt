use Rattle.geometry.proofs.Covered.{covers}
use Rattle.geometry.proofs.access.lines_are_covered.Goals as goal

pub returns : goal.returns
returns c = covers
