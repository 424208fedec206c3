-- A turn writes one more byte of the part.
use Rattle.std.proofs.Common.{◌≡◌}
use native.Mathlib.Omega.{arith}
use native.Mathlib.Numerals.{add-one}
use lib.Seq.{paste-suc}
use Rattle.blake2s.proofs.stream.copy.Goals as goal

pub loop-i-preserved : goal.loop-i-preserved
loop-i-preserved c =
    let a = c.args in
    rw (c.loop-i.invariant, add-one) (paste-suc a.b.now a.at a.s.now c.loop-i.i 0 (omega arith) (omega arith))
