-- The CDI has its length.
use borrow.Author.Rules.{rules}
use Rattle.display.proofs.StartedShow.show.Goals as goal

pub slice_bounds-cdi-end : goal.slice_bounds-cdi-end
slice_bounds-cdi-end c = search (rules, c.well_formed)
