use Rattle.std.proofs.Common.{length}
use Rattle.bruteforce.proofs.+rule.Given as goal

abbrev pub decreases-rule : goal.decreases-rule
decreases-rule l = length l.touches.now
