-- What is found, for the last byte that was read.
use Rattle.diagnosis.specs.Monitor.{explained}
use Rattle.diagnosis.proofs.Monitor.explain.Goals as goal

pub returns : goal.returns
unfolding explained
returns c = rw (c.finding.ensures c.args.self.now.position.byte)
