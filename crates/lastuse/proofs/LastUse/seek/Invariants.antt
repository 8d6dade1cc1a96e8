use Rattle.std.proofs.Common.{length}
use Rattle.lastuse.proofs.Walks.{Walk, ahead}
use Rattle.lastuse.proofs.LastUse.seek.Given as goal

abbrev pub invariant-loop-at : goal.invariant-loop-at
invariant-loop-at l = Walk l.self.entries.now (length l.self.heads.now) (length l.self.entries.now) l.line.0 l.at

abbrev pub decreases-loop-at : goal.decreases-loop-at
decreases-loop-at l = ahead l.at
