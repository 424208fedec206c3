-- A refusal is the number that admit_gather gives; otherwise the byte is taken.
use mathlib.Core.Path.{sym, ◌∙◌}
use Rattle.std.proofs.lemmas.Result.{err_from_is_err_and}
use Rattle.head.proofs.Ranges.{range_facts}
use Rattle.head.proofs.Admitted.{gather_refused_as, gather_admitted_as, gather_admitted}
use Rattle.head.proofs.gathering.gather.Goals as goal

pub take-requires : goal.take-requires
take-requires c =
    let s = c.args.s in
    let a = gather_admitted s (sym c.in_ok-admit_gather.ensures) in
    record { incoming_value = (range_facts s a.range).incoming; incoming_value_2 = a.unfinished }

pub returns-in_err-admit_gather : goal.returns-in_err-admit_gather
returns-in_err-admit_gather c =
    let p = err_from_is_err_and c.from_residual.result c.from_residual.ensures.1 in
    rw (p.1, p.2) (gather_refused_as c.args.s c.args.byte c.in_err-admit_gather.field-0.0 c.in_err-admit_gather.ensures)

pub returns : goal.returns
returns c = c.take.ensures ∙ gather_admitted_as c.args.s c.args.byte c.in_ok-admit_gather.ensures
