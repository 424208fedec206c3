-- What is left, behind what is there, is the whole.
use Rattle.std.proofs.Common.{◌≡◌}
use lib.ListN.{drop}
use Rattle.text.specs.Text.{added}
use Rattle.text.proofs.Text.push_all.Given as goal

abbrev pub invariant-loop-b : goal.invariant-loop-b
invariant-loop-b l = added l.self (drop l.b-index l.s) ≡ added l.initial.self l.s
