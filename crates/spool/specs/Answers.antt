-- The numbers of change request 10, and what reading and writing settle.
use Rattle.std.specs.Prelude.{ℕ, cond, List, eqb, length, Result, Ok, Err}
use Rattle.protocol.specs.Replies.{put_in}
use Rattle.spool_block.specs.Block.{fault_number}
use Rattle.spool.specs.declared.Refusal.{Refusal}
use Rattle.spool.specs.declared.Refusal.TheVariants.{ProgramLength, SpoolLength, Block, RoomLength}
use Rattle.spool.specs.declared.Fate.{Fate}
use Rattle.spool.specs.declared.Fate.TheVariants.{Kept, Replaced, Lost}

abbrev pub refusal_number : Refusal → ℕ
refusal_number ProgramLength = 40
refusal_number SpoolLength = 50
refusal_number (Block fault) = fault_number fault
refusal_number RoomLength = 54

-- 0 for a call that is accepted
abbrev pub number_of : Result Unit Refusal → ℕ
number_of (Ok _) = 0
number_of (Err refusal) = refusal_number refusal

-- what salvage reports of a block
abbrev pub fate_number : Fate → ℕ
fate_number Kept = 0
fate_number Replaced = 1
fate_number Lost = 2

-- all that reading or writing settles: the number of the refusal, 0 for none, how many bytes were put in the room, and what it then holds
pub record Outcome : Type 0 where
  pub number : ℕ
  pub len : ℕ
  pub room : List ℕ

abbrev pub outcome : ℕ → ℕ → List ℕ → Outcome
outcome number len room = record { number = number; len = len; room = room }

abbrev pub outcome_of : Result ℕ Refusal → List ℕ → Outcome
outcome_of (Ok len) room = outcome 0 len room
outcome_of (Err refusal) room = outcome (refusal_number refusal) 0 room

-- bytes are put at the front of the room, and the rest of it stays; a refused call puts none
unfoldable pub given : ℕ → List ℕ → List ℕ → Outcome
given refusal bytes room = cond (eqb refusal 0) (outcome 0 (length bytes) (put_in room bytes)) (outcome refusal 0 room)

-- where the count is lent too, a refused call leaves it
unfoldable pub with_count : Outcome → ℕ → Outcome
with_count x len = cond (eqb x.number 0) x (outcome x.number len x.room)
