-- A refusal is the number that admit_begin gives; otherwise the record's type decides.
use mathlib.Core.Path.{sym, ap, ◌∙◌}
use lib.ListN.{length}
use Rattle.std.proofs.lemmas.Result.{err_from_is_err_and}
use Rattle.record.specs.Record.{Contents, record_at}
use Rattle.record.proofs.Fields.{whole_front}
use Rattle.head.specs.Begin.{by_type}
use Rattle.head.proofs.Ranges.{length_facts}
use Rattle.head.proofs.Admitted.{begin_admitted, begin_admitted_as, begin_refused_as}
use Rattle.loader.specs.Steps.{lent}
use Rattle.loader.proofs.begin.Goals as goal

pub returns-in_err-admit_begin : goal.returns-in_err-admit_begin
returns-in_err-admit_begin c =
    let a = c.args in
    let p = err_from_is_err_and c.from_residual.result c.from_residual.ensures.1 in
    rw (p.1, p.2) (begin_refused_as a.«record».now a.udi (lent a.flash) a.ram.now a.uds.now c.in_err-admit_begin.field-0.0 c.in_err-admit_begin.ensures)

pub by_type-requires : goal.by_type-requires
by_type-requires c =
    let a = c.args in
    let ok = begin_admitted (length a.«record».now) (length a.ram.now) (length a.uds.now) (sym c.in_ok-admit_begin.ensures) in
    ((length_facts (length a.ram.now) ok.2).1, ok.0)

pub returns : goal.returns
returns c =
    let a = c.args in
    let f = lent a.flash in
    let admitted = c.in_ok-admit_begin.ensures in
    let ok = begin_admitted (length a.«record».now) (length a.ram.now) (length a.uds.now) (sym admitted) in
    c.by_type.ensures
    ∙ ap (λ (k : Contents). by_type k a.udi f a.ram.now a.uds.now)
    (c.read-r.ensures ∙ ap record_at (c.front.ensures ∙ whole_front a.«record».now ok.1))
    ∙ begin_admitted_as a.«record».now a.udi f a.ram.now a.uds.now admitted
