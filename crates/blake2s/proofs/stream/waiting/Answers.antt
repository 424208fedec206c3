-- Arithmetic: the final block of n bytes starts at 64 * earlier n.
use native.Mathlib.Omega.{arith}
use Rattle.blake2s.specs.Stream.{earlier}
use Rattle.blake2s.proofs.stream.waiting.Goals as goal

pub returns-then-n-eq0 : goal.returns-then-n-eq0
unfolding earlier
returns-then-n-eq0 c = omega arith

pub returns-else-n-eq0 : goal.returns-else-n-eq0
unfolding earlier
returns-else-n-eq0 c = omega arith
