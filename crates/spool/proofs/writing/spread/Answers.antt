-- A block has 512 bytes, so the next stands where a turn pastes it (`put_next`).
use Prim.Native.Nat.{ℕ, ◌+◌, ◌*◌, ◌≤◌}
use mathlib.Core.List.{List}
use mathlib.Core.Path.{◌≡◌, sym}
use native.Mathlib.Omega.{arith}
use lib.ListN.{length, length-take}
use Rattle.endian.proofs.Lists.{drop_whole}
use Rattle.spool_block.specs.Making.{block_of}
use Rattle.spool_block.proofs.Made.{block_length}
use Rattle.spool.specs.Reading.{part}
use Rattle.spool.specs.Writing.{spool_blocks, spool_of}
use Rattle.spool.proofs.Parts.{front, front_none, front_more, front_length}
use Rattle.spool.proofs.Rooms.{put_none, put_next}
use Rattle.spool.proofs.writing.spread.Goals as goal

abbrev blocks : List ℕ → ℕ → List ℕ
blocks p i = block_of i (part 472 p i)

whole : (p : List ℕ) (i : ℕ) → length (blocks p i) ≡ 512
whole p i = block_length i (part 472 p i) (rw length-take (omega arith))

so_far : (p : List ℕ) (i : ℕ) → length (front i (blocks p)) ≡ 512 * i
so_far p i = front_length 512 i (blocks p) (λ j h. whole p j)

pub loop-place-init : goal.loop-place-init
loop-place-init c = rw (front_none (blocks c.args.program.now)) (sym (put_none c.args.room.now))

pub loop-place-preserved : goal.loop-place-preserved
loop-place-preserved c =
    let p = c.args.program.now in
    let i = c.loop-place.place in
    let old = c.args.room.now in
    let x = front i (blocks p) in
    let y = blocks p i in
    let n = so_far p i in
    let m = whole p i in
    let made : c.make-block.result ≡ y = rw (drop_whole (472 * i) p) at c.make-block.ensures in
    let l : length x + length y ≤ length old = omega (arith, c.requires.1, c.spool_blocks-blocks.ensures) in
    rw (c.put.ensures.bytes, made, c.loop-place.invariant, front_more i (blocks p), ← n) (put_next old x y l)

pub returns : goal.returns
unfolding spool_of
returns c =
    let p = c.args.program.now in
    let n = spool_blocks (length p) in
    let e : c.loop-place.place ≡ n = omega (arith, c.spool_blocks-blocks.ensures) in
    (rw c.spool_blocks-blocks.ensures (sym (so_far p n)), rw e at c.loop-place.invariant)
