-- The code's types Flash and Slot in the terms of `head`'s specs/Begin.antt, and what the private functions of src/ give back. A reader of the
-- promise of `act` does not need this file.
use Rattle.std.specs.Prelude.{ℕ, ◌+◌, ◌≡◌, List}
use Rattle.protocol.specs.Replies.{sent, put_in}
use Rattle.protocol.specs.declared.Reply.{Reply}
use Rattle.head.specs.Begin.{Slot, Flash}
use Rattle.head.specs.declared.State.{State}
use Rattle.head.specs.declared.Answer.TheVariants.{Continue}
use Rattle.head.specs.declared.Acted.{Acted}
use Rattle.loader.specs.declared.flash.Slot.{Slot as LentSlot}
use Rattle.loader.specs.declared.flash.Flash.{Flash as LentFlash}

-- a slot as it is lent, and what of flash begin is lent and given
abbrev pub slot_in : LentSlot → Slot
slot_in s = record { bytes = s.bytes.now; size = s.size }

abbrev pub lent : LentFlash → Flash
lent f = record { slot0 = slot_in f.slot0; slot1 = slot_in f.slot1; built_in = f.built_in }

-- an answer after which the session goes on in state s
abbrev pub going_on : ℕ → State → Acted
going_on n s = record { answer = Continue; reply = n; state = s }

-- after the call the session goes on in state s, and the room has the reply q
abbrev pub Replies : Acted → Reply → State → List ℕ → List ℕ → Type 0
Replies x q s room after = (x ≡ going_on (q.len + 1) s) × (after ≡ put_in room (sent q))
