-- Each return has the number that the tests before it leave.
use Rattle.head.specs.Gather.{gather_refusal}
use Rattle.head.proofs.admit_gather.Goals as goal

pub returns-then-not-in_range : goal.returns-then-not-in_range
unfolding gather_refusal
returns-then-not-in_range c = simp (← c.in_range.ensures, c.if-not-in_range.true)

pub returns-then-not-is_live : goal.returns-then-not-is_live
unfolding gather_refusal
returns-then-not-is_live c = simp (← c.in_range.ensures, c.if-not-in_range.false, ← c.is_live.ensures, c.if-not-is_live.true)

pub returns-then-is_whole : goal.returns-then-is_whole
unfolding gather_refusal
returns-then-is_whole c = simp (← c.in_range.ensures, c.if-not-in_range.false, ← c.is_live.ensures, c.if-not-is_live.false, ← c.is_whole.ensures, c.if-is_whole.true)

pub returns : goal.returns
unfolding gather_refusal
returns c = simp (← c.in_range.ensures, c.if-not-in_range.false, ← c.is_live.ensures, c.if-not-is_live.false, ← c.is_whole.ensures, c.if-is_whole.false)
