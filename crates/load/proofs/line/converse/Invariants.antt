-- The loop ends by what `upload` proves of every event: each leaves less of the load (`fewer`), so no device makes it run forever.
use Rattle.std.proofs.Common.{suc, cond}
use Rattle.upload.specs.Upload.{is_over}
use Rattle.upload.proofs.Ends.{left}
use Rattle.load.proofs.line.converse.Given as goal

abbrev pub decreases-loop-job : goal.decreases-loop-job
decreases-loop-job l = cond (is_over l.t.next) 0 (suc (left l.job l.t.exchange))
