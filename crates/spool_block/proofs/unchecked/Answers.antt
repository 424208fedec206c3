-- The front, then the program bytes behind it (`unchecked_block`).
use Rattle.std.proofs.Common.{◌≡◌, ◌+◌, length, length-append, arith}
use Rattle.spool_block.proofs.Made.{word_length, unchecked_block}
use Rattle.spool_block.proofs.unchecked.Goals as goal

pub returns : goal.returns
returns c =
    let a = word_length c.args.number in
    let b = word_length (length c.args.x.now) in
    let l : length c.front-front.result ≡ 8 = rw (c.front-front.ensures, length-append) (omega arith) in
    let first = c.put.ensures.fits (omega arith) in
    let second = c.put-2.ensures.fits (omega (arith, c.requires)) in
    rw (second, first) (unchecked_block c.args.number c.args.x.now _ c.requires c.front-front.ensures)
