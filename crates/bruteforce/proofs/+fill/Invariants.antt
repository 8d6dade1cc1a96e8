use Rattle.std.proofs.Common.{length}
use Rattle.bruteforce.proofs.+fill.Given as goal

abbrev pub decreases-fill : goal.decreases-fill
decreases-fill l = length l.touches.now
