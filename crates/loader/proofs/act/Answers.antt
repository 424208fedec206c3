-- A refusal is the number that admit_act gives; otherwise the call has what perform asks for.
use mathlib.Core.Path.{sym, ◌∙◌}
use Rattle.std.proofs.lemmas.Result.{err_from_is_err_and}
use Rattle.head.proofs.Ranges.{range_facts}
use Rattle.head.proofs.Admitted.{act_admitted, act_admitted_as}
use Rattle.loader.proofs.Steps.{refused_as}
use Rattle.loader.proofs.act.Goals as goal

pub returns-in_err-admit_act : goal.returns-in_err-admit_act
returns-in_err-admit_act c =
    let a = c.args in
    let p = err_from_is_err_and c.from_residual.result c.from_residual.ensures.1 in
    rw (p.1, p.2) (refused_as a.s a.room.now a.ram.now a.uds.now c.in_err-admit_act.field-0.0 c.in_err-admit_act.ensures)

pub perform-requires : goal.perform-requires
perform-requires c =
    let a = c.args in
    let f = act_admitted _ _ _ _ (sym c.in_ok-admit_act.ensures) in
    let g = range_facts a.s f.range in
    record { ram_value = rw f.ram_same g.progress; in_bounds = f.room_fits; ram_len_bound = rw f.ram_same g.ram_small; uds_len = f.words }

pub returns : goal.returns
returns c =
    let a = c.args in
    c.perform.ensures ∙ act_admitted_as a.s a.room.now a.ram.now a.uds.now c.in_ok-admit_act.ensures
