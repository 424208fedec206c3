-- A block too short for a count uses nothing, and another as many of its program bytes as it counts.
use Prim.Native.Nat.{◌≤◌}
use native.Mathlib.Omega.{arith}
use lib.ListN.{length, drop_of_length-le}
use lib.Seq.{take-nil}
use Rattle.endian.proofs.Lists.{drop_whole}
use Rattle.spool_block.specs.Block.{count_in, used_in}
use Rattle.spool_block.proofs.used.Goals as goal

pub returns-then-b-lt8 : goal.returns-then-b-lt8
unfolding used_in
returns-then-b-lt8 c =
    let b = c.before.before.before.args.b.now in
    let h : length b ≤ 8 = omega arith in
    rw (drop_of_length-le b {i = 8} h, take-nil (count_in b))

pub returns : goal.returns
unfolding used_in
returns c =
    let b = c.args.b.now in
    rw (c.first-2.ensures, c.first.ensures, drop_whole 8 b, c.number_at-count.ensures)
