-- Each way's number is that of its tests (`Numbers`), and what it leaves follows from the number.
use Prim.Native.Nat.{◌*◌, ◌<◌, ◌≤◌}
use mathlib.Core.Bool.{true}
use mathlib.Core.Path.{◌≡◌, sym, ap₂, ◌∙◌}
use native.Mathlib.Omega.{arith}
use lib.ListN.{length}
use Rattle.protocol.specs.Commands.{length_ok}
use Rattle.spool.specs.Answers.{outcome}
use Rattle.spool.specs.Writing.{spool_blocks, spool_of, write_refusal, writing}
use Rattle.spool.proofs.Numbers.{write_length, write_room, write_fits, given_refused, given_all}
use Rattle.spool.proofs.write.Goals as goal

pub returns-then-not-length_ok : goal.returns-then-not-length_ok
unfolding writing
returns-then-not-length_ok c =
    let p = c.args.program.now in
    let room = c.args.room.now in
    let e = write_length (length p) (length room) (sym c.length_ok.ensures ∙ c.if-not-length_ok.true) in
    rw e (sym (given_refused 40 (spool_of p) room (λ z. omega (arith, z))))

pub returns-then-room-spool_blocks : goal.returns-then-room-spool_blocks
unfolding writing
returns-then-room-spool_blocks c =
    let p = c.args.program.now in
    let room = c.args.room.now in
    let fit : length_ok (length p) ≡ true = sym c.length_ok.ensures ∙ c.if-not-length_ok.false in
    let small : length room < 512 * spool_blocks (length p) = omega (arith, c.spool_blocks.ensures) in
    let e = write_room (length p) (length room) fit small in
    rw e (sym (given_refused 54 (spool_of p) room (λ z. omega (arith, z))))

pub returns : goal.returns
unfolding writing
returns c =
    let p = c.args.program.now in
    let room = c.args.room.now in
    let fit : length_ok (length p) ≡ true = sym c.length_ok.ensures ∙ c.if-not-length_ok.false in
    let fits : 512 * spool_blocks (length p) ≤ length room = omega (arith, c.spool_blocks.ensures) in
    let e = given_all (write_refusal (length p) (length room)) (spool_of p) room (write_fits (length p) (length room) fit fits) in
    ap₂ (outcome 0) c.spread.ensures.0 c.spread.ensures.1 ∙ sym e
