-- What is left of the verdicts gives the first fault of all.
use Rattle.std.proofs.Common.{rules, ◌≡◌, ◌∷◌, Err, Result, sym, ap, ap₂, ◌∙◌}
use Rattle.spool_block.specs.Block.{number_of}
use Rattle.spool_block.specs.declared.Fault.{Fault}
use Rattle.spool.specs.Reading.{earliest}
use Rattle.spool.specs.Steps.{verdicts_from}
use Rattle.spool.proofs.Chunks.{fault_first, zero_first, none_first}
use Rattle.spool.proofs.reading.check_all.Goals as goal

pub loop-verdict-init : goal.loop-verdict-init
loop-verdict-init c =
    ap (λ r. earliest (verdicts_from r.blocks.now r.place)) c.into_iter-verdict-iterator.ensures.into_iter_gives
    ∙ ap₂ (λ b p. earliest (verdicts_from b.now p)) c.at-verdict-items.ensures.0 c.at-verdict-items.ensures.1

pub loop-verdict-preserved : goal.loop-verdict-preserved
loop-verdict-preserved c =
    let r = c.next.new.self in
    let rest = verdicts_from r.blocks.now r.place in
    let now = ap earliest c.in-Some.ensures.steps.0 in
    let good = ap (λ (v : Result Unit Fault). earliest (number_of v ∷ rest)) c.in_ok-verdict.was in
    sym (now ∙ good ∙ zero_first rest) ∙ c.loop-verdict.invariant

pub returns-in_err-verdict : goal.returns-in_err-verdict
returns-in_err-verdict c =
    let f = c.in_err-verdict.field-0.0 in
    let e : c.from_residual.result ≡ Err f = search rules in
    let r = c.next.new.self in
    let rest = verdicts_from r.blocks.now r.place in
    let now = ap earliest c.in-Some.ensures.steps.0 in
    let bad = ap (λ (v : Result Unit Fault). earliest (number_of v ∷ rest)) c.in_err-verdict.was in
    ap number_of e ∙ sym (now ∙ bad ∙ fault_first f rest) ∙ c.loop-verdict.invariant

pub returns : goal.returns
returns c = sym none_first ∙ sym (ap earliest c.in-None.ensures.steps.0.0) ∙ c.loop-verdict.invariant
