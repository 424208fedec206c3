-- The tests of the blocks are those of the length (`Chunks`).
use mathlib.Core.Path.{refl, sym, ◌∙◌}
use native.Mathlib.Omega.{arith}
use lib.ListN.{length}
use borrow.Author.Tests.{eqb-true, eqb-false}
use Rattle.spool.proofs.Chunks.{good_when, bad_when, chunks_are}
use Rattle.spool.proofs.reading.blocks.Goals as goal
use Rattle.spool.proofs.reading.blocks.Goals.{then-is_empty-via-then-is_empty, then-is_empty-via-else-is_empty+then-blocks-gt278, then-is_empty-via-else-is_empty+else-blocks-gt278+then-not-is_empty}

pub returns-then-is_empty : goal.returns-then-is_empty
returns-then-is_empty c =
    let n = length c.args.spool.now in (
      elim c.then-is_empty.branch [
        | then-is_empty-via-then-is_empty w ↦ let e = eqb-true _ 0 (sym c.is_empty.ensures ∙ w.if-is_empty.true) in bad_when n (λ h k l. omega (arith, e))
        | then-is_empty-via-else-is_empty+then-blocks-gt278 w ↦ bad_when n (λ h k l. omega arith)
        | then-is_empty-via-else-is_empty+else-blocks-gt278+then-not-is_empty w ↦
            let e = eqb-false _ 0 (sym w.is_empty-else-blocks-gt278.ensures ∙ w.if-not-is_empty.true) in bad_when n (λ h k l. omega (arith, e))
      ],
      refl,
    )

pub returns : goal.returns
returns c =
    let s = c.args.spool.now in
    let e = eqb-true _ 0 (sym c.is_empty-else-blocks-gt278.ensures ∙ c.if-not-is_empty.false) in
    let f = eqb-false _ 0 (sym c.is_empty.ensures ∙ c.if-is_empty.false) in
    (good_when (length s) (omega (arith, e)) (omega (arith, f)) (omega arith), c.as_chunks.ensures.front ∙ chunks_are s)
