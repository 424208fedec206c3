-- The bytes so far are equal: with those that are left, the test of all.
use mathlib.Core.Path.{◌≡◌}
use mathlib.Core.Bool.{◌&&◌}
use lib.ListN.{drop}
use Rattle.endian.specs.Lists.{same}
use Rattle.endian.proofs.equal.Given as goal

abbrev pub invariant-loop-i : goal.invariant-loop-i
invariant-loop-i l = l.so_far && same (drop l.i l.a) (drop l.i l.b) ≡ same l.a l.b
