-- Each event leaves less of the load, unless it ends it.
use Rattle.std.proofs.Common.{◌≡◌, ℕ, suc, ◌<◌, Bool, true, false, cond, refl, sym, ◌∙◌, arith}
use Rattle.upload.specs.Upload.{is_over, turned}
use Rattle.upload.proofs.Ends.{left, fewer}
use Rattle.load.proofs.line.converse.Goals as goal

less : (o p : Bool) (m n : ℕ) → o ≡ false → (p ≡ false → n < m) → cond p 0 (suc n) < cond o 0 (suc m)
less o true m n e f = rw e (omega arith)
less o false m n e f = let h = f refl in rw e (omega arith)

pub loop-job-smaller : goal.loop-job-smaller
loop-job-smaller c =
    let job = c.args.job in
    let x = c.loop-job.t.exchange in
    let t = turned job x c.receive-event.result in
    let o : is_over c.loop-job.t.next ≡ false = sym c.is_over.ensures ∙ c.loop-job-test.true in
    rw c.advance-t.ensures
    (less (is_over c.loop-job.t.next) (is_over t.next) (left job x) (left job t.exchange) o (fewer job x c.receive-event.result))
