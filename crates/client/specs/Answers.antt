-- The numbers of change request 1: 3, 40, 41 and 42 of making a frame, and 43 of reading a reply.
use Rattle.std.specs.Prelude.{ℕ, Option, None, Some, Result, Ok, Err}
use Rattle.client.specs.declared.Refusal.{Refusal}
use Rattle.client.specs.declared.Refusal.TheVariants.{FrameRoom, ProgramLength, FrameId, FrameNumber, UnexpectedReply}
use Rattle.client.specs.declared.Difference.{Difference}
use Rattle.client.specs.declared.Difference.TheVariants.{Header, Length, Code, Status, Filler}

abbrev pub refusal_number : Refusal → ℕ
refusal_number FrameRoom = 3
refusal_number ProgramLength = 40
refusal_number FrameId = 41
refusal_number FrameNumber = 42
refusal_number UnexpectedReply = 43

-- 0 for a call that is accepted
abbrev pub number_of : Result (Unit {0}) Refusal → ℕ
number_of (Ok done) = 0
number_of (Err why) = refusal_number why

-- and the number of a difference; change request 1 gives none
abbrev pub difference_number : Option Difference → ℕ
difference_number None = 0
difference_number (Some Header) = 1
difference_number (Some Length) = 2
difference_number (Some Code) = 3
difference_number (Some Status) = 4
difference_number (Some Filler) = 5
