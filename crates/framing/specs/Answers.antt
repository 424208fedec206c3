-- The number and the values of document 01 for each case of the answers, and the bit of each status.
use Rattle.std.specs.Prelude.{ℕ, Option, Some, None}
use Rattle.framing.specs.Header.{Fields, fields, bad, Reading, good, stop, Writing, byte, refused}
use Rattle.framing.specs.declared.Header.{Header}
use Rattle.framing.specs.declared.ReplyHeader.{ReplyHeader}
use Rattle.framing.specs.declared.Status.{Status}
use Rattle.framing.specs.declared.Status.TheVariants.{Good, Bad}

abbrev pub status_number : Status → ℕ
status_number Good = 0
status_number Bad = 1

abbrev pub reading_of : Option Header → Reading
reading_of (Some h) = good h.id h.endpoint h.len
reading_of None = stop 22

abbrev pub fields_of : Option ReplyHeader → Fields
fields_of (Some h) = fields h.id h.endpoint h.len (status_number h.status)
fields_of None = bad

abbrev pub writing_of : Option ℕ → Writing
writing_of (Some b) = byte b
writing_of None = refused 11
