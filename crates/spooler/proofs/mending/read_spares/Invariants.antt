-- What has come is within the room.
use Rattle.std.proofs.Common.{length, ◌≤◌}
use Rattle.spooler.proofs.mending.read_spares.Given as goal

abbrev pub invariant-loop-i : goal.invariant-loop-i
invariant-loop-i l = l.at ≤ length l.room
