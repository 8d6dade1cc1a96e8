use Rattle.std.proofs.Common.{length}
use Rattle.bruteforce.proofs.+has_room.Given as goal

abbrev pub decreases-has_room : goal.decreases-has_room
decreases-has_room l = length l.touches.now
