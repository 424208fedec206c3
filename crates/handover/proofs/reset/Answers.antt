-- Each return has the number that the tests on the way to it leave.
use mathlib.Core.Path.{◌≡◌, sym, ◌∙◌}
use native.Mathlib.Omega.{arith}
use Rattle.handover.proofs.Numbers.{fit_lengths, by_type_is, by_record, by_inputs, by_none}
use borrow.Author.Rules.{rules}
use lib.ListN.{length}
use Rattle.endian.specs.Lists.{zeros}
use Rattle.handover.proofs.reset.Goals as goal

pub returns-then-next-gt5 : goal.returns-then-next-gt5
returns-then-next-gt5 c = sym (by_type_is _ _ _ _ (omega arith))

pub returns-then-record-ne256 : goal.returns-then-record-ne256
returns-then-record-ne256 c = sym (by_record _ _ _ _ (omega arith) c.if-record-ne256.true)

pub returns-then-not-inputs_fit : goal.returns-then-not-inputs_fit
returns-then-not-inputs_fit c = sym (by_inputs _ _ _ _ (omega arith) c.if-record-ne256.false (sym c.inputs_fit.ensures ∙ c.if-not-inputs_fit.true))

pub returns : goal.returns
returns c =
    let fit = sym c.inputs_fit.ensures ∙ c.if-not-inputs_fit.false in
    let l = fit_lengths c.args.next.mask (length c.args.cdi.now) (length c.args.seed.now) (length c.args.next.next_data.now) fit in
    let cleared : c.fill.new.self ≡ zeros 32 = search (rules, l) in
    rw (cleared, c.write.ensures, c.measured_id-id.ensures) (sym (by_none _ _ _ _ (omega arith) c.if-record-ne256.false fit))
