-- The check is that of the first 480 bytes, and stands behind them (`checked`).
use Prim.Native.Nat.{◌≤◌}
use borrow.Author.Rules.{rules}
use mathlib.Core.Path.{◌≡◌, refl}
use native.Mathlib.Omega.{arith}
use lib.ListN.{length, take, length-take}
use Rattle.endian.specs.Lists.{zeros}
use Rattle.spool_block.specs.Making.{checked_part, block_of}
use Rattle.spool_block.proofs.Made.{part_length, checked}
use Rattle.spool_block.proofs.make.Goals as goal

pub unchecked-b-requires : goal.unchecked-b-requires
unchecked-b-requires c = rw (c.first.ensures, length-take) (omega arith)

pub returns : goal.returns
unfolding block_of
returns c =
    let n = c.args.number in
    let x = take 472 c.args.x.now in
    let h : length x ≤ 472 = rw length-take (omega arith) in
    let d : length c.check_of-check.result ≡ 32 = search rules in
    let put = c.put.ensures.fits (omega (arith, d)) in
    rw (put, c.unchecked-b.ensures, c.first.ensures)
    (checked (checked_part n x) (zeros 32) c.check_of-check.result (part_length n x h) refl (rw (c.check_of-check.ensures, c.unchecked-b.ensures, c.first.ensures)))
