-- The test is that of the definition.
use mathlib.Core.Path.{sym, ◌∙◌}
use Rattle.diagnosis.specs.Monitor.{has_room, heard_part}
use Rattle.diagnosis.proofs.Monitor.hear.Goals as goal

pub returns-then-not-has_room : goal.returns-then-not-has_room
unfolding has_room heard_part
returns-then-not-has_room c = let h = c.has_room in rw (← h.ensures, c.if-not-has_room.true)

pub hear_all-requires : goal.hear_all-requires
unfolding has_room
hear_all-requires c = let h = c.has_room in sym h.ensures ∙ c.if-not-has_room.false

pub returns : goal.returns
unfolding has_room heard_part
returns c =
    let h = c.has_room in
    rw (c.hear_all.ensures, ← h.ensures, c.if-not-has_room.false)
