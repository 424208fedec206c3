-- What is left gives the first fault of all.
use Rattle.std.proofs.Common.{◌≡◌}
use Rattle.spool.specs.Reading.{earliest}
use Rattle.spool.specs.Steps.{verdicts_from}
use Rattle.spool.proofs.reading.check_all.Given as goal

abbrev pub invariant-loop-verdict : goal.invariant-loop-verdict
invariant-loop-verdict l = earliest (verdicts_from l.verdict-iterator.blocks.now l.verdict-iterator.place) ≡ earliest (verdicts_from l.fn.blocks 0)
