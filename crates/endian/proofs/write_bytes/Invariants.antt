-- After i turns the front of out is the first i bytes of the words, and the rest is as it was.
use mathlib.Core.Path.{◌≡◌}
use mathlib.Core.List.{◌++◌}
use lib.ListN.{length, take, drop}
use Rattle.endian.specs.Endian.{first_bytes}
use Rattle.endian.proofs.write_bytes.Given as goal

abbrev pub invariant-loop-i : goal.invariant-loop-i
invariant-loop-i l = l.out ≡ take l.i (first_bytes (length l.initial.out) l.words) ++ drop l.i l.initial.out
