-- Under 296 bytes the text is `E 1`, and that is all.
use borrow.Author.Tests.{lt-ltb, le-ltb}
use Rattle.text.specs.Text.{decimal_of}
use Rattle.printer.specs.Turns.{opening}
use Rattle.printer.proofs.turns.open.Goals as goal

pub returns-then-got-lt296-clause-turn : goal.returns-then-got-lt296-clause-turn
unfolding opening decimal_of
returns-then-got-lt296-clause-turn c = rw (lt-ltb _ 296 c.if-got-lt296.true, c.of.ensures, c.left.ensures, c.begin-turn.ensures.turn)

pub returns-clause-turn : goal.returns-clause-turn
unfolding opening
returns-clause-turn c = rw (le-ltb _ 296 c.if-got-lt296.false) c.begin-turn.ensures.turn
