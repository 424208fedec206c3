-- What is allowed starts, and the other way ends.
use Rattle.head.specs.Start.{decided}
use Rattle.loader.proofs.starting.start_or_stop.Goals as goal

pub returns-then-allowed : goal.returns-then-allowed
unfolding decided
returns-then-allowed c =
    let a = c.allowed in
    λ ram. rw (← a.ensures, c.if-allowed.true) (c.start.ensures ram)

pub returns : goal.returns
unfolding decided
returns c =
    let a = c.allowed in
    λ ram. rw (← a.ensures, c.if-allowed.false) (c.end.ensures ram _)
