-- Of i blocks at most 472i bytes have come, so the next one's fit (`uses_most`).
use Rattle.std.proofs.Common.{ℕ, List, [], ◌*◌, ◌≤◌, ◌+◌, length, take, get_or, sym, ap, ◌∙◌, arith, length-take, length-append}
use Rattle.protocol.specs.Replies.{put_in}
use Rattle.spool_block.specs.Block.{used_in}
use Rattle.spool.specs.Steps.{uses_of}
use Rattle.spool.proofs.Chunks.{uses_none, uses_more, uses_most}
use Rattle.spool.proofs.Parts.{used_most}
use Rattle.spool.proofs.Rooms.{put_none, put_length, put_next}
use Rattle.spool.proofs.reading.gather.Goals as goal

-- so many bytes have come of i blocks
most : (bs : List (List ℕ)) (i : ℕ) → length (uses_of (take i bs)) ≤ 472 * i
most bs i = let a = uses_most (take i bs) in let b = length-take i bs in omega arith

pub loop-block-init : goal.loop-block-init
loop-block-init c = (sym (ap length uses_none), sym (ap (put_in c.args.room.now) uses_none ∙ put_none c.args.room.now))

pub overflow_add-at : goal.overflow_add-at
overflow_add-at c =
    let i = c.loop-block.block-index in
    let m = most c.args.blocks.now i in
    let u : length c.used-used.result.now ≤ 472 = rw c.used-used.ensures (used_most (get_or c.args.blocks.now i [])) in
    omega arith

pub loop-block-preserved : goal.loop-block-preserved
loop-block-preserved c =
    let bs = c.args.blocks.now in
    let i = c.loop-block.block-index in
    let old = c.args.room.now in
    let x = uses_of (take i bs) in
    let y = used_in (get_or bs i []) in
    let m = most bs i in
    let u = used_most (get_or bs i []) in
    let more = uses_more bs i c.loop-block-test.true in
    let l : length x + length y ≤ length old = omega arith in
    let k = put_length old x (omega arith) in (
      rw (c.loop-block.invariant.0, c.used-used.ensures, more) (sym (length-append x y)),
      rw (c.put.ensures.bytes, c.loop-block.invariant.0, c.loop-block.invariant.1, c.used-used.ensures, more) (put_next old x y l),
    )
