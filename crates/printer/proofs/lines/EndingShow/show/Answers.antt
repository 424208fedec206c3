-- The CDI has its length.
use borrow.Author.Rules.{rules}
use Rattle.printer.proofs.lines.EndingShow.show.Goals as goal

pub slice_bounds-show-end-in-Ok-Started-3 : goal.slice_bounds-show-end-in-Ok-Started-3
slice_bounds-show-end-in-Ok-Started-3 c = search (rules, c.well_formed)
