-- Each return has the number that the tests before it leave.
use borrow.Author.Tests.{eq-eqb, ne_eqb, lt-ltb, le-ltb}
use Rattle.head.specs.Act.{act_refusal}
use Rattle.head.proofs.admit_act.Goals as goal

pub returns-then-not-in_range : goal.returns-then-not-in_range
unfolding act_refusal
returns-then-not-in_range c = simp (← c.in_range.ensures, c.if-not-in_range.true)

pub returns-then-not-is_live : goal.returns-then-not-is_live
unfolding act_refusal
returns-then-not-is_live c = simp (← c.in_range.ensures, c.if-not-in_range.false, ← c.is_live.ensures, c.if-not-is_live.true)

pub returns-then-not-is_whole : goal.returns-then-not-is_whole
unfolding act_refusal
returns-then-not-is_whole c = simp (← c.in_range.ensures, c.if-not-in_range.false, ← c.is_live.ensures, c.if-not-is_live.false, ← c.is_whole.ensures, c.if-not-is_whole.true)

pub returns-then-room-lt129 : goal.returns-then-room-lt129
unfolding act_refusal
returns-then-room-lt129 c = simp (← c.in_range.ensures, c.if-not-in_range.false, ← c.is_live.ensures, c.if-not-is_live.false, ← c.is_whole.ensures, c.if-not-is_whole.false, lt-ltb _ _ c.if-room-lt129.true)

pub returns-then-ram-s : goal.returns-then-ram-s
unfolding act_refusal
returns-then-ram-s c = simp (← c.in_range.ensures, c.if-not-in_range.false, ← c.is_live.ensures, c.if-not-is_live.false, ← c.is_whole.ensures, c.if-not-is_whole.false, le-ltb _ _ c.if-room-lt129.false, ne_eqb _ _ c.if-ram-s.true)

pub returns-then-uds-ne8 : goal.returns-then-uds-ne8
unfolding act_refusal
returns-then-uds-ne8 c = simp (← c.in_range.ensures, c.if-not-in_range.false, ← c.is_live.ensures, c.if-not-is_live.false, ← c.is_whole.ensures, c.if-not-is_whole.false, le-ltb _ _ c.if-room-lt129.false, eq-eqb _ _ c.if-ram-s.false, ne_eqb _ _ c.if-uds-ne8.true)

pub returns : goal.returns
unfolding act_refusal
returns c = simp (← c.in_range.ensures, c.if-not-in_range.false, ← c.is_live.ensures, c.if-not-is_live.false, ← c.is_whole.ensures, c.if-not-is_whole.false, le-ltb _ _ c.if-room-lt129.false, eq-eqb _ _ c.if-ram-s.false, eq-eqb _ _ c.if-uds-ne8.false)
