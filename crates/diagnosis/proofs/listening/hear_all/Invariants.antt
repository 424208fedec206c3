-- What is left, heard from here, is the whole (`Going`).
use Rattle.diagnosis.specs.Monitor.{monitor_of}
use Rattle.diagnosis.proofs.Walk.{Going}
use Rattle.diagnosis.proofs.listening.hear_all.Given as goal

abbrev pub invariant-loop-b : goal.invariant-loop-b
invariant-loop-b l = Going (monitor_of l.initial.m) l.bytes (monitor_of l.m) l.b-index
