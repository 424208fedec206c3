-- What the block carries is hashed; whether it is the last decides the rest.
use mathlib.Core.Path.{◌∙◌}
use Rattle.diagnosis.specs.Monitor.{block_heard}
use Rattle.diagnosis.proofs.frames.block.Goals as goal

pub returns-then-is_last : goal.returns-then-is_last
unfolding block_heard
returns-then-is_last c = c.measure.ensures ∙ rw (← c.is_last.ensures, c.if-is_last.true, c.carried-hash.ensures)

pub returns : goal.returns
unfolding block_heard
returns c = c.onward.ensures ∙ rw (← c.is_last.ensures, c.if-is_last.false, c.carried-hash.ensures)
