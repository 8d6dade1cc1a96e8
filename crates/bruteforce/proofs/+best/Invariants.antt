use Rattle.std.proofs.Common.{◌≤◌, length}
use Rattle.bruteforce.proofs.+best.Given as goal

abbrev pub decreases-best : goal.decreases-best
decreases-best l = length l.touches.now

abbrev pub invariant-loop-after : goal.invariant-loop-after
invariant-loop-after l = l.most ≤ length l.later
