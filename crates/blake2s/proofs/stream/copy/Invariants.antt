-- After i turns the first i bytes of s stand in their places.
use Rattle.std.proofs.Common.{◌≡◌}
use lib.Seq.{paste}
use Rattle.blake2s.proofs.stream.copy.Given as goal

abbrev pub invariant-loop-i : goal.invariant-loop-i
invariant-loop-i l = l.b ≡ paste l.initial.b l.at l.s l.i
