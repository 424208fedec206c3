-- Each way's block is kept, lost or replaced (`Mending`).
use Rattle.std.proofs.Common.{◌≡◌, false, sym, ap, ◌∙◌}
use Rattle.spool_block.specs.Block.{is_good}
use Rattle.spool.specs.Salvage.{Mended}
use Rattle.spool.proofs.Mending.{mended_kept, mended_none, mended_some}
use Rattle.spool.proofs.salvaging.mend.Goals as goal

pub returns-then-is_good : goal.returns-then-is_good
returns-then-is_good c =
    let a = c.args in
    let e = mended_kept a.blocks a.place a.spares.now a.block.now (sym c.is_good.ensures ∙ c.if-is_good.true) in
    (sym (ap (λ (m : Mended). m.entry) e), sym (ap (λ (m : Mended). m.block) e))

pub returns-in_default : goal.returns-in_default
returns-in_default c =
    let a = c.args in
    let bad : is_good a.blocks a.place a.block.now ≡ false = sym c.is_good.ensures ∙ c.if-is_good.false in
    let e = mended_none a.blocks a.place a.spares.now a.block.now bad (sym c.in_default.ensures) in
    (sym (ap (λ (m : Mended). m.entry) e), sym (ap (λ (m : Mended). m.block) e))

pub returns : goal.returns
returns c =
    let a = c.args in
    let bad : is_good a.blocks a.place a.block.now ≡ false = sym c.is_good.ensures ∙ c.if-is_good.false in
    let e = mended_some a.blocks a.place a.spares.now a.block.now bad c.in-Some.spare.now (sym c.in-Some.ensures) in
    (sym (ap (λ (m : Mended). m.entry) e), c.copy_from_slice.ensures.after ∙ sym (ap (λ (m : Mended). m.block) e))
