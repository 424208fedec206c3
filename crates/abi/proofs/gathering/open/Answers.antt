-- The header decides.
use lib.ListN.{length}
use mathlib.Core.Path.{◌≡◌, sym, ◌∙◌}
use borrow.Author.Rules.{rules}
use Rattle.abi.proofs.Ways.{opens, stops}
use Rattle.abi.proofs.gathering.open.Goals as goal

pub returns-then-is_good : goal.returns-then-is_good
returns-then-is_good c =
    let three : length c.args.numbers.now ≡ 3 = search rules in
    let full : length c.args.bytes.now ≡ 268 = search rules in
    opens c.args.numbers.now c.args.bytes.now c.args.byte three full c.requires.held (sym c.is_good.ensures ∙ c.if-is_good.true) c.requires.between

pub returns : goal.returns
returns c =
    let three : length c.args.numbers.now ≡ 3 = search rules in
    let full : length c.args.bytes.now ≡ 268 = search rules in
    stops c.args.numbers.now c.args.bytes.now c.args.byte three full c.requires.held (sym c.is_good.ensures ∙ c.if-is_good.false) c.requires.between
