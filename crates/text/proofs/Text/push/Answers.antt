-- The test is the definition's.
use Prim.Native.Nat.{◌<◌, ◌≤◌}
use native.Mathlib.Omega.{arith}
use borrow.Author.Tests.{lt-ltb, le-ltb}
use Rattle.text.specs.Text.{with_byte, added}
use Rattle.text.proofs.Text.push.Goals as goal

pub returns-then-self-lt512 : goal.returns-then-self-lt512
unfolding with_byte added
returns-then-self-lt512 c =
    let n = c.args.self.now.len in
    let h : n < 512 = omega (arith, c.if-self-lt512.true) in
    rw (lt-ltb n 512 h)

pub returns-else-self-lt512 : goal.returns-else-self-lt512
unfolding with_byte added
returns-else-self-lt512 c =
    let n = c.args.self.now.len in
    let h : 512 ≤ n = omega (arith, c.if-self-lt512.false) in
    rw (le-ltb n 512 h)
