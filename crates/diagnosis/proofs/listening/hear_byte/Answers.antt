-- What gathering the byte answers says which case of the definition it is (`heard_as`).
use mathlib.Core.Path.{sym, ap, subst, ◌∙◌}
use Prim.Native.Nat.{◌≤◌}
use mathlib.Core.Path.{◌≡◌}
use mathlib.Core.Bool.{true}
use Rattle.protocol.specs.Commands.{longest}
use Rattle.head.specs.State.{progress_ok}
use Rattle.head.specs.Act.{request_of}
use Rattle.head.specs.declared.State.{State}
use Rattle.head.specs.declared.Stop.TheVariants.{HeaderBit}
use Rattle.diagnosis.specs.Monitor.{Monitor, Stopped, monitor_of, ruled, frame_heard, heard_byte}
use Rattle.diagnosis.proofs.Steps.{heard_as, heard_not, whole_ready}
use Rattle.diagnosis.proofs.listening.hear_byte.Goals as goal

pub returns-then-not-is_open : goal.returns-then-not-is_open
unfolding heard_byte
returns-then-not-is_open c = let o = c.is_open in rw (← o.ensures, c.if-not-is_open.true)

pub returns-in_default : goal.returns-in_default
returns-in_default c =
    let z = c.args in
    heard_not (monitor_of z.w) z.b c.gather.result _ (sym c.is_open.ensures ∙ c.if-not-is_open.false) c.gather.ensures c.in_default.is

pub frame-requires-clause-ram_len_value : goal.frame-requires-clause-ram_len_value
frame-requires-clause-ram_len_value c =
    let z = c.args in
    let r = whole_ready z.w.head z.b c.gather.result c.in-Ok.step c.gather.ensures c.in-Ok.is c.in-Whole.is in
    subst (λ (s : State). progress_ok s.progress s.config.ram_len ≡ true) (sym (ap (λ (x : Monitor). x.head) c.moved-in-Whole.ensures)) r.0

pub frame-requires-clause-ram_len_bound : goal.frame-requires-clause-ram_len_bound
frame-requires-clause-ram_len_bound c =
    let z = c.args in
    let r = whole_ready z.w.head z.b c.gather.result c.in-Ok.step c.gather.ensures c.in-Ok.is c.in-Whole.is in
    subst (λ (s : State). s.config.ram_len ≤ longest) (sym (ap (λ (x : Monitor). x.head) c.moved-in-Whole.ensures)) r.1

pub returns-in-Continue : goal.returns-in-Continue
returns-in-Continue c =
    let z = c.args in
    c.moved.ensures
    ∙ heard_as (monitor_of z.w) z.b c.gather.result c.in-Ok.step _ (sym c.is_open.ensures ∙ c.if-not-is_open.false) c.gather.ensures c.in-Ok.is
    c.in-Continue.is

pub returns-in-Whole : goal.returns-in-Whole
returns-in-Whole c =
    let z = c.args in
    c.frame.ensures ∙ ap (λ (x : Monitor). frame_heard (request_of x.head) x) c.moved-in-Whole.ensures
    ∙ heard_as (monitor_of z.w) z.b c.gather.result c.in-Ok.step _ (sym c.is_open.ensures ∙ c.if-not-is_open.false) c.gather.ensures c.in-Ok.is
    c.in-Whole.is

pub returns-in-Stopped : goal.returns-in-Stopped
returns-in-Stopped c =
    let z = c.args in
    c.ruled.ensures ∙ ap (λ (x : Monitor). ruled x (Stopped HeaderBit)) c.moved-in-Stopped.ensures
    ∙ heard_as (monitor_of z.w) z.b c.gather.result c.in-Ok.step _ (sym c.is_open.ensures ∙ c.if-not-is_open.false) c.gather.ensures c.in-Ok.is
    c.in-Stopped.is

pub returns-in-Started : goal.returns-in-Started
returns-in-Started c =
    let z = c.args in
    heard_as (monitor_of z.w) z.b c.gather.result c.in-Ok.step _ (sym c.is_open.ensures ∙ c.if-not-is_open.false) c.gather.ensures c.in-Ok.is
    c.in-Started.is
