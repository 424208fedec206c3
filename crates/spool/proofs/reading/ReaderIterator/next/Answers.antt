-- Whether there is a block at the place decides what it gives, and where it then stands.
use Rattle.std.proofs.Common.{◌∷◌, ◌+◌, length, refl, sym, ap, ◌∙◌}
use borrow.Author.Tests.{ltb-true, ltb-false}
use Rattle.spool_block.specs.Block.{block_refusal}
use Rattle.spool.specs.Steps.{verdicts_from, place_after}
use Rattle.spool.proofs.Chunks.{verdict_at, verdict_behind}
use Rattle.spool.proofs.reading.ReaderIterator.next.Goals as goal

pub returns-in_err-block-clause-steps : goal.returns-in_err-block-clause-steps
unfolding place_after
returns-in_err-block-clause-steps c =
    let r = c.args.self.now in
    let e = c.in_err-block.ensures.lookup.0 in
    let none = verdict_behind r.blocks.now r.place (ltb-false r.place (length r.blocks.now) (sym e)) in
    rw c.from_residual.ensures ((none, none), refl, rw (sym e))

pub returns-clause-steps : goal.returns-clause-steps
unfolding place_after
returns-clause-steps c =
    let r = c.args.self.now in
    let l = c.in_ok-block.ensures.lookup in
    let b = c.in_ok-block.block.now in
    let here = verdict_at r.blocks.now r.place b (ltb-true r.place (length r.blocks.now) (sym l.0)) in
    let found = ap (block_refusal (length r.blocks.now) r.place) (sym l.1) ∙ sym c.check-verdict.ensures in
    (here ∙ ap (λ n. n ∷ verdicts_from r.blocks.now (r.place + 1)) found, refl, rw (sym l.0))
