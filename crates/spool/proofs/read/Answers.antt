-- Each way's number is that of its tests (`Numbers`), and what it leaves follows from the number (`Settles`).
use Rattle.std.proofs.Common.{rules, ◌≡◌, Err, length, ◌*◌, ◌≤◌, ◌<◌, sym, ap, ap₂, ◌∙◌, arith}
use Rattle.protocol.specs.Replies.{put_in}
use Rattle.spool_block.specs.Block.{fault_number}
use Rattle.spool.specs.Answers.{refusal_number, outcome, outcome_of}
use Rattle.spool.specs.Reading.{blocks_in, earliest, program_in}
use Rattle.spool.specs.Steps.{verdicts_from, uses_of}
use Rattle.spool.specs.declared.Refusal.TheVariants.{Block}
use Rattle.spool.proofs.Chunks.{blocks_many, verdicts_are, uses_are, fault_some}
use Rattle.spool.proofs.Numbers.{read_length, read_room}
use Rattle.spool.proofs.Settles.{refused_with, reads_all, from_blocks}
use Rattle.spool.proofs.read.Goals as goal

pub returns-in_err-blocks : goal.returns-in_err-blocks
returns-in_err-blocks c =
    let s = c.args.spool.now in
    let room = c.args.room.now in
    let e : c.from_residual.result ≡ Err c.in_err-blocks.field-0.0 = search rules in
    ap (λ r. outcome_of r room) e ∙ ap (λ r. outcome (refusal_number r) 0 room) c.in_err-blocks.ensures.1
    ∙ sym (refused_with s room 50 (read_length s (length room) c.in_err-blocks.ensures.0) (λ z. omega (arith, z)))

pub returns-then-room-blocks : goal.returns-then-room-blocks
returns-then-room-blocks c =
    let s = c.args.spool.now in
    let room = c.args.room.now in
    let ok = c.in_ok-blocks.ensures in
    let n = ap length ok.1 ∙ blocks_many s in
    let small : length room < 472 * blocks_in s = omega (arith, n) in
    sym (refused_with s room 54 (read_room s (length room) ok.0 small) (λ z. omega (arith, z)))

pub returns-in_err-check_all : goal.returns-in_err-check_all
returns-in_err-check_all c =
    let s = c.args.spool.now in
    let room = c.args.room.now in
    let f = c.in_err-check_all.field-0.0 in
    let e : c.from_residual-in_err-check_all.result ≡ Err (Block f) = search rules in
    let ok = c.in_ok-blocks.ensures in
    let n = ap length ok.1 ∙ blocks_many s in
    let fits : 472 * blocks_in s ≤ length room = omega (arith, n) in
    let first = c.in_err-check_all.ensures ∙ ap (λ b. earliest (verdicts_from b 0)) ok.1 ∙ ap earliest (verdicts_are s) in
    ap (λ r. outcome_of r room) e ∙ sym (refused_with s room (fault_number f) (from_blocks s room ok.0 fits ∙ sym first) (fault_some f))

pub returns : goal.returns
returns c =
    let s = c.args.spool.now in
    let room = c.args.room.now in
    let ok = c.in_ok-blocks.ensures in
    let n = ap length ok.1 ∙ blocks_many s in
    let fits : 472 * blocks_in s ≤ length room = omega (arith, n) in
    let none = c.in_ok-check_all.ensures ∙ ap (λ b. earliest (verdicts_from b 0)) ok.1 ∙ ap earliest (verdicts_are s) in
    let u : uses_of c.in_ok-blocks.blocks.now ≡ program_in s = ap uses_of ok.1 ∙ uses_are s in
    ap₂ (outcome 0) (c.gather.ensures.0 ∙ ap length u) (c.gather.ensures.1 ∙ ap (put_in room) u) ∙ sym (reads_all s room (from_blocks s room ok.0 fits ∙ sym none))
