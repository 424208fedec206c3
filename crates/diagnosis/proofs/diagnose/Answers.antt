-- A refused beginning hears nothing (`refused_told`), and a monitor that has heard nothing has room for every slice (`room_first`).
use mathlib.Core.Bool.{true}
use mathlib.Core.Path.{◌≡◌, sym, ap, subst, ◌∙◌}
use native.Mathlib.Omega.{arith}
use lib.ListN.{length}
use Rattle.std.proofs.Common.{rules}
use Rattle.std.specs.Prelude.{Err}
use Rattle.diagnosis.specs.Monitor as spec
use Rattle.diagnosis.specs.Monitor.{monitor_of, begun_of, begun, heard, has_room, explained, diagnosis}
use Rattle.diagnosis.specs.Reasons.{explained_of}
use Rattle.diagnosis.proofs.Walk.{room_first, refused_told}
use Rattle.diagnosis.proofs.diagnose.Goals as goal

pub returns-in_err-monitor : goal.returns-in_err-monitor
returns-in_err-monitor c =
    let a = c.args in
    let e : c.from_residual.result ≡ Err c.in_err-monitor.field-0.0 = search rules in
    ap explained_of e
    ∙ refused_told a.«record».now a.ram_len a.bytes.now _ (ap begun_of (sym c.in_err-monitor.was) ∙ c.begin.ensures)

pub hear_all-requires : goal.hear_all-requires
hear_all-requires c =
    let a = c.args in
    let n = length a.bytes.now in
    let e : monitor_of c.in_ok-monitor.monitor ≡ begun a.«record».now a.ram_len = ap begun_of (sym c.in_ok-monitor.was) ∙ c.begin.ensures in
    subst (λ (w : spec.Monitor). has_room w n ≡ true) (sym e) (room_first a.«record».now a.ram_len n (omega arith))

pub returns : goal.returns
unfolding diagnosis
returns c =
    let a = c.args in
    let e : monitor_of c.in_ok-monitor.monitor ≡ begun a.«record».now a.ram_len = ap begun_of (sym c.in_ok-monitor.was) ∙ c.begin.ensures in
    c.explain.ensures ∙ ap explained (c.hear_all.ensures ∙ ap (λ (w : spec.Monitor). heard w a.bytes.now) e)
