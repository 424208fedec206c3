-- The filler is a part of the block (`filler_zero`).
use mathlib.Core.Path.{◌≡◌}
use borrow.Author.Rules.{rules}
use lib.ListN.{length}
use Rattle.spool_block.proofs.Blocks.{filler_zero}
use Rattle.spool_block.proofs.filler_is_good.Goals as goal

pub returns : goal.returns
returns c =
    let l : length c.args.b.now ≡ 512 = search rules in
    filler_zero c.args.b.now c.args.count c.all_zero.result l c.requires.0 c.requires.1 c.all_zero.ensures
