-- The measure is how many bytes can still be received, of which there are under 2^64: a turn that is not the last receives one of them.
use Rattle.std.proofs.Common.{ℕ, ◌-◌, ◌^◌, ◌<◌, ControlFlow, Break, Continue}
use Rattle.printer.specs.declared.turns.Session.{Session}
use Rattle.headlog.proofs.main.Given as goal

abbrev pub left : ControlFlow Session Session → ℕ
left (Break s) = 0
left (Continue s) = 2 ^ 64 - s.received

abbrev pub within : ControlFlow Session Session → Type 0
within (Break s) = Unit {0}
within (Continue s) = s.received < 2 ^ 64

abbrev pub invariant-loop-t : goal.invariant-loop-t
invariant-loop-t l = within l.t.session

abbrev pub decreases-loop-t : goal.decreases-loop-t
decreases-loop-t l = left l.t.session
