-- Whether the byte makes a frame whole decides which call settles the turn.
use Prim.Native.Nat.{◌-◌, ◌^◌}
use mathlib.Core.Path.{◌∙◌}
use borrow.Author.Tests.{ne_eqb}
use Rattle.printer.proofs.Bytes.{no_cdi, acts, others, refusals, quiet}
use Rattle.printer.proofs.turns.receive.Goals as goal

pub returns-in-Whole-clause-turn : goal.returns-in-Whole-clause-turn
returns-in-Whole-clause-turn c =
    let a = c.args in
    let n = ne_eqb _ (2 ^ 64 - 1) c.if-s-eq18446744073709551615.false in
    let e = rw c.in-Ok.is at c.gather.ensures in
    rw (n, acts a.s.state a.byte a.ram.now a.s.words c.in-Ok.field-0 e c.in-Whole.is) c.act.ensures.turn

pub returns-in-Whole-clause-ram : goal.returns-in-Whole-clause-ram
returns-in-Whole-clause-ram c =
    let a = c.args in
    let n = ne_eqb _ (2 ^ 64 - 1) c.if-s-eq18446744073709551615.false in
    let e = rw c.in-Ok.is at c.gather.ensures in
    rw (n, acts a.s.state a.byte a.ram.now a.s.words c.in-Ok.field-0 e c.in-Whole.is) c.act.ensures.ram

pub returns-in_default : goal.returns-in_default
returns-in_default c =
    let a = c.args in
    let x = c.in-Ok.field-0 in
    let n = ne_eqb _ (2 ^ 64 - 1) c.if-s-eq18446744073709551615.false in
    let e = rw c.in-Ok.is at c.gather.ensures in
    let o = others a.s.state a.byte a.ram.now a.s.words x e c.in_default.not-Whole in
    record {
      turn = rw (n, o) (c.after.ensures ∙ quiet _ x.answer a.ram.now (no_cdi a.s.state a.byte x e));
      ram = rw (n, o);
    }

pub returns-in-Err-clause-turn : goal.returns-in-Err-clause-turn
returns-in-Err-clause-turn c =
    let a = c.args in
    let n = ne_eqb _ (2 ^ 64 - 1) c.if-s-eq18446744073709551615.false in
    let e = rw c.in-Err.is at c.gather.ensures in
    rw (n, refusals a.s.state a.byte a.ram.now a.s.words c.in-Err.why e) c.refused.ensures

pub returns-in-Err-clause-ram : goal.returns-in-Err-clause-ram
returns-in-Err-clause-ram c =
    let a = c.args in
    let n = ne_eqb _ (2 ^ 64 - 1) c.if-s-eq18446744073709551615.false in
    let e = rw c.in-Err.is at c.gather.ensures in
    rw (n, refusals a.s.state a.byte a.ram.now a.s.words c.in-Err.why e)
