-- What the reader gives at the place (`look_head`), or that there is no such place (`look_none`).
use Rattle.std.proofs.Common.{rules, ◌≡◌, Result, Err, ◌∷◌, sym, ap, ap₂, ◌∙◌}
use Rattle.spool_block.specs.Block.{number_of as fault_of}
use Rattle.spool_block.specs.declared.Fault.{Fault}
use Rattle.spool.specs.Answers.{refusal_number, number_of}
use Rattle.spool.specs.Steps.{verdicts_from}
use Rattle.spool.specs.declared.Refusal.TheVariants.{Block}
use Rattle.spool.proofs.Chunks.{look_head, look_none}
use Rattle.spool.proofs.Numbers.{look_length}
use Rattle.spool.proofs.look.Goals as goal

pub returns-in_err-blocks : goal.returns-in_err-blocks
returns-in_err-blocks c =
    let e : c.from_residual.result ≡ Err c.in_err-blocks.field-0.0 = search rules in
    ap number_of e ∙ ap refusal_number c.in_err-blocks.ensures.1 ∙ sym (look_length c.args.spool.now c.args.place c.in_err-blocks.ensures.0)

pub returns-in-None : goal.returns-in-None
returns-in-None c =
    let i = c.args.place in
    let ok = c.in_ok-blocks.ensures in
    let start = ap₂ (λ b p. verdicts_from b.now p) c.at.ensures.0 c.at.ensures.1 ∙ ap (λ b. verdicts_from b i) ok.1 in
    sym (look_none c.args.spool.now i ok.0 (sym start ∙ c.in-None.ensures.steps.0.0))

pub returns-in_err-verdict-in-Some : goal.returns-in_err-verdict-in-Some
returns-in_err-verdict-in-Some c =
    let i = c.args.place in
    let f = c.in_err-verdict-in-Some.field-0.0 in
    let e : c.from_residual-in_err-verdict-in-Some.result ≡ Err (Block f) = search rules in
    let ok = c.in_ok-blocks.ensures in
    let start = ap₂ (λ b p. verdicts_from b.now p) c.at.ensures.0 c.at.ensures.1 ∙ ap (λ b. verdicts_from b i) ok.1 in
    let r = c.next.new.self in
    let rest = verdicts_from r.blocks.now r.place in
    let head = ap (λ (v : Result Unit Fault). fault_of v ∷ rest) c.in_err-verdict-in-Some.was in
    ap number_of e ∙ sym (look_head c.args.spool.now i ok.0 _ rest (sym start ∙ c.in-Some.ensures.steps.0 ∙ head))

pub returns-in_ok-verdict-in-Some : goal.returns-in_ok-verdict-in-Some
returns-in_ok-verdict-in-Some c =
    let i = c.args.place in
    let ok = c.in_ok-blocks.ensures in
    let start = ap₂ (λ b p. verdicts_from b.now p) c.at.ensures.0 c.at.ensures.1 ∙ ap (λ b. verdicts_from b i) ok.1 in
    let r = c.next.new.self in
    let rest = verdicts_from r.blocks.now r.place in
    let head = ap (λ (v : Result Unit Fault). fault_of v ∷ rest) c.in_ok-verdict-in-Some.was in
    sym (look_head c.args.spool.now i ok.0 _ rest (sym start ∙ c.in-Some.ensures.steps.0 ∙ head))
