-- By computation.
use Rattle.head.specs.State.{ended}
use Rattle.head.proofs.states.ended.Goals as goal

pub returns : goal.returns
unfolding ended
returns c = rw (c.of_size.ensures, c.idle.ensures)
