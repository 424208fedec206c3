-- The tests are those of the definition; then where the program comes from says which case it is (`begun_as`).
use mathlib.Core.Path.{◌≡◌, sym, ap, ◌∙◌}
use mathlib.Core.Logic.{⊎_elim}
use borrow.Author.Tests.{eq-eqb, ne_eqb}
use Rattle.std.specs.Prelude.{Option, Some}
use Rattle.record.specs.Record.{record_of, record_at}
use Rattle.record.specs.Types.{unknown, source_at}
use Rattle.record.specs.declared.Place.{Place}
use Rattle.record.proofs.Fields.{whole_front}
use Rattle.diagnosis.specs.Monitor.{by_source, begun}
use Rattle.diagnosis.proofs.Steps.{begun_as}
use Rattle.diagnosis.proofs.Monitor.begin.Goals as goal

pub returns-then-record-ne256 : goal.returns-then-record-ne256
unfolding begun
returns-then-record-ne256 c = rw (ne_eqb _ _ c.if-record-ne256.true)

pub returns-then-not-length_ok : goal.returns-then-not-length_ok
unfolding begun
returns-then-not-length_ok c = rw (eq-eqb _ _ c.if-record-ne256.false, ← c.length_ok.ensures, c.if-not-length_ok.true)

pub returns-in-None : goal.returns-in-None
returns-in-None c =
    let a = c.args in
    let n = c.if-record-ne256.false in
    c.closed.ensures
    ∙ begun_as a.«record».now a.ram_len c.read-r.result unknown n (sym c.length_ok.ensures ∙ c.if-not-length_ok.false)
    (c.read-r.ensures ∙ ap record_at (c.front.ensures ∙ whole_front a.«record».now n))
    (ap source_at (sym c.in-None.is) ∙ c.source.ensures)

pub returns-in-Some-Slot0 : goal.returns-in-Some-Slot0
returns-in-Some-Slot0 c =
    let a = c.args in
    let n = c.if-record-ne256.false in
    begun_as a.«record».now a.ram_len c.read-r.result _ n (sym c.length_ok.ensures ∙ c.if-not-length_ok.false)
    (c.read-r.ensures ∙ ap record_at (c.front.ensures ∙ whole_front a.«record».now n))
    (ap source_at (sym (c.in-Some-Slot0.is ∙ ap Some c.in-Some-Slot0.field-0-is)) ∙ c.source.ensures)

pub returns-in-Some-Slot1 : goal.returns-in-Some-Slot1
returns-in-Some-Slot1 c =
    let a = c.args in
    let n = c.if-record-ne256.false in
    begun_as a.«record».now a.ram_len c.read-r.result _ n (sym c.length_ok.ensures ∙ c.if-not-length_ok.false)
    (c.read-r.ensures ∙ ap record_at (c.front.ensures ∙ whole_front a.«record».now n))
    (ap source_at (sym (c.in-Some-Slot1.is ∙ ap Some c.in-Some-Slot1.field-0-is)) ∙ c.source.ensures)

pub returns-in-Some-Client : goal.returns-in-Some-Client
returns-in-Some-Client c =
    let a = c.args in
    let n = c.if-record-ne256.false in
    c.opened.ensures
    ∙ begun_as a.«record».now a.ram_len c.read-r.result _ n (sym c.length_ok.ensures ∙ c.if-not-length_ok.false)
    (c.read-r.ensures ∙ ap record_at (c.front.ensures ∙ whole_front a.«record».now n))
    (ap source_at (sym (c.in-Some-Client.is ∙ ap Some c.in-Some-Client.field-0-is)) ∙ c.source.ensures)
