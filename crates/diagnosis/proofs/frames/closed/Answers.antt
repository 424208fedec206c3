-- By computation.
use Rattle.diagnosis.specs.Monitor.{closed}
use Rattle.diagnosis.proofs.frames.closed.Goals as goal

pub returns : goal.returns
unfolding closed
returns c = rw (c.monitor.ensures, c.ended.ensures)
