-- What is left, behind what is there, is the whole.
use Rattle.std.proofs.Common.{◌≡◌, ◌-◌}
use lib.ListN.{replicate}
use Rattle.text.specs.Text.{added}
use Rattle.text.proofs.RepeatedShow.show.Given as goal

abbrev pub invariant-loop : goal.invariant-loop
invariant-loop l = added l.t (replicate (l.end - l.counter) l.self.0) ≡ added l.initial.t (replicate l.end l.self.0)
