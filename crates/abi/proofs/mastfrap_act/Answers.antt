-- Memory that holds no state is left; otherwise the state is taken out, acted on, and put back unless the call is refused.
use mathlib.Core.Path.{sym, ◌∙◌}
use native.Mathlib.Omega.{arith}
use borrow.Author.Rules.{rules}
use Rattle.abi.specs.Layout.{lent}
use Rattle.abi.specs.Theorems.{Lengths}
use Rattle.abi.specs.Calls.{start_in}
use Rattle.abi.proofs.Called.{no_state, act_refused, act_taken, act_small, reply_small}
use Rattle.abi.proofs.mastfrap_act.Goals as goal

pub returns-then-not-holds : goal.returns-then-not-holds
returns-then-not-holds c =
    let a = c.args in
    let memory = lent a.numbers.now a.bytes.now in
    let old = start_in a.start.now a.cdi.now a.digest.now in
    rw c.refusal_number.ensures (no_state memory a.room.now a.ram.now a.uds.now a.reply.now old (sym c.holds.ensures ∙ c.if-not-holds.true))

pub returns-in-Err : goal.returns-in-Err
returns-in-Err c =
    let a = c.args in
    let memory = lent a.numbers.now a.bytes.now in
    let old = start_in a.start.now a.cdi.now a.digest.now in
    let held = sym c.holds.ensures ∙ c.if-not-holds.false in
    let lengths : Lengths (lent c.args.numbers.now c.args.bytes.now) = record { numbers = search rules; bytes = search rules } in
    rw c.refusal_number-in-Err.ensures
    (act_refused memory a.room.now a.ram.now a.uds.now a.reply.now old c.act.result c.read-s.result _ _ _ lengths held c.read-s.ensures c.act.ensures c.in-Err.why c.in-Err.is)

pub write-requires : goal.write-requires
write-requires c =
    let a = c.args in
    let memory = lent a.numbers.now a.bytes.now in
    let old = start_in a.start.now a.cdi.now a.digest.now in
    let held = sym c.holds.ensures ∙ c.if-not-holds.false in
    let lengths : Lengths (lent c.args.numbers.now c.args.bytes.now) = record { numbers = search rules; bytes = search rules } in
    act_small memory a.room.now a.ram.now a.uds.now a.reply.now old c.act.result c.read-s.result _ _ _ lengths held c.read-s.ensures c.act.ensures c.in-Ok.r c.in-Ok.is

pub overflow_cast-reply : goal.overflow_cast-reply
overflow_cast-reply c =
    let a = c.args in
    let memory = lent a.numbers.now a.bytes.now in
    let old = start_in a.start.now a.cdi.now a.digest.now in
    let held = sym c.holds.ensures ∙ c.if-not-holds.false in
    let lengths : Lengths (lent c.args.numbers.now c.args.bytes.now) = record { numbers = search rules; bytes = search rules } in
    let p = reply_small memory a.room.now a.ram.now a.uds.now a.reply.now old c.act.result c.read-s.result _ _ _ lengths held c.read-s.ensures c.act.ensures c.in-Ok.r c.in-Ok.is in
    omega arith

pub returns-in-Ok : goal.returns-in-Ok
returns-in-Ok c =
    let a = c.args in
    let memory = lent a.numbers.now a.bytes.now in
    let old = start_in a.start.now a.cdi.now a.digest.now in
    let held = sym c.holds.ensures ∙ c.if-not-holds.false in
    let lengths : Lengths (lent c.args.numbers.now c.args.bytes.now) = record { numbers = search rules; bytes = search rules } in
    act_taken memory a.room.now a.ram.now a.uds.now a.reply.now old c.act.result c.read-s.result _ _ _ lengths held c.read-s.ensures c.act.ensures c.in-Ok.r c.in-Ok.is _ _ _ c.answer_number.ensures c.write.ensures c.give.ensures
