-- The last eight bytes are all that stands behind the first 288.
use Rattle.std.proofs.Common.{◌≡◌, ◌∙◌, arith, rules, length, drop}
use lib.ListN.{length-drop}
use lib.Seq.{take_all}
use Rattle.printer.proofs.input.udi_of.Goals as goal

pub returns : goal.returns
returns c =
    let l : length c.args.front ≡ 296 = search rules in
    c.part.ensures.whole (omega arith) ∙ take_all 8 (drop 288 c.args.front) (rw length-drop (omega arith))
