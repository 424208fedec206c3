-- By computation.
use Rattle.diagnosis.specs.Monitor.{opened}
use Rattle.diagnosis.proofs.frames.opened.Goals as goal

pub returns : goal.returns
unfolding opened
returns c = rw (c.monitor.ensures, c.of_size.ensures, c.idle.ensures, c.config_of.ensures)
