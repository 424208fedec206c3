use mathlib.Core.Path.{sym, ◌∙◌}
use native.Mathlib.Omega.{arith}
use Rattle.diagnosis.specs.Monitor.{monitor_of}
use Rattle.diagnosis.proofs.Walk.{going_first, going_more, heard_ended, heard_all}
use Rattle.diagnosis.proofs.listening.hear_all.Goals as goal

pub loop-b-init : goal.loop-b-init
loop-b-init c = going_first (monitor_of c.args.w) c.args.bytes.now c.requires

pub loop-b-preserved : goal.loop-b-preserved
loop-b-preserved c =
    let z = c.args in
    let l = c.loop-b in
    going_more (monitor_of z.w) (monitor_of l.m) (monitor_of c.hear_byte-m.result) z.bytes.now l.b-index (omega arith) c.hear_byte-m.ensures l.invariant

pub returns-then-not-is_open : goal.returns-then-not-is_open
returns-then-not-is_open c =
    let l = c.loop-b in
    heard_ended (monitor_of l.m) _ (sym c.is_open.ensures ∙ c.if-not-is_open.true) ∙ l.invariant.1

pub returns : goal.returns
returns c =
    let l = c.loop-b in
    heard_all (monitor_of l.m) c.args.bytes.now l.b-index (omega arith) ∙ l.invariant.1
