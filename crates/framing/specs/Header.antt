-- The header byte of a frame: document 01, "Header byte", which the TKey Framing Protocol decides; bit 2 as change request 5 has it.
-- One table says where each field stands and one list which length each code means. Reading and writing are both made of them, for commands
-- and replies alike.
use Rattle.std.specs.Prelude.{ℕ, suc, ◌+◌, ◌*◌, ◌/◌, ◌%◌, ◌^◌, Bool, true, false, cond, ◌&&◌, List, [], ◌∷◌, eqb, ltb, get_or}

-- a field of the byte: its lowest bit, and its width in bits
pub record Field : Type 0 where
  pub low : ℕ
  pub width : ℕ

-- bit 7, which is zero
abbrev pub reserved : Field
reserved = record { low = 7; width = 1 }

-- bits 6 and 5
abbrev pub frame_id : Field
frame_id = record { low = 5; width = 2 }

-- bits 4 and 3: 2 is the firmware, 3 the application
abbrev pub endpoint : Field
endpoint = record { low = 3; width = 2 }

-- bit 2: the status of a reply, 0 good and 1 bad; zero in a command, and in a reply without a status
abbrev pub status : Field
status = record { low = 2; width = 1 }

-- bits 1 and 0
abbrev pub length_code : Field
length_code = record { low = 0; width = 2 }

-- the body's length for the codes 0, 1, 2, 3; the header itself is not counted
abbrev pub lengths : List ℕ
lengths = 1 ∷ 4 ∷ 32 ∷ 128 ∷ []

-- what a byte holds in a field
abbrev pub in_field : Field → ℕ → ℕ
in_field f b = b / 2 ^ f.low % 2 ^ f.width

-- a number that a field has room for
abbrev pub fits : Field → ℕ → Bool
fits f v = ltb v (2 ^ f.width)

-- a number put in a field's place
abbrev pub placed : Field → ℕ → ℕ
placed f v = v * 2 ^ f.low

-- the first place of n in a list; the list's length where n is not in it
abbrev pub index_of : ℕ → List ℕ → ℕ
index_of n [] = 0
index_of n (x ∷ xs) = cond (eqb n x) 0 (suc (index_of n xs))

abbrev pub length_of : ℕ → ℕ
length_of code = get_or lengths code 0

-- a length that is not in the list gets 4, for which the field has no room
abbrev pub code_of : ℕ → ℕ
code_of n = index_of n lengths

-- ---- reading

-- what a header byte says, of a command or a reply
pub data Fields : Type 0 where
  -- ID, endpoint, the body's length and the status
  fields : ℕ → ℕ → ℕ → ℕ → Fields
  -- bit 7 is set
  bad : Fields

-- by the table; a reply's header is read so and no further
unfoldable pub fields_at : ℕ → Fields
fields_at b =
    cond (eqb (in_field reserved b) 0)
    (fields (in_field frame_id b) (in_field endpoint b) (length_of (in_field length_code b)) (in_field status b))
    bad

-- the body's length that a reply's header gives; 0 for a bad one
abbrev pub reply_body_len : Fields → ℕ
reply_body_len (fields id ep n s) = n
reply_body_len bad = 0

-- what reading the header of a command reports
pub data Reading : Type 0 where
  -- a good header's ID, endpoint and length
  good : ℕ → ℕ → ℕ → Reading
  -- the number of the stop that a bad header is
  stop : ℕ → Reading

-- a set bit 7 or bit 2 stops the head
abbrev pub as_command : Fields → Reading
as_command (fields id ep n s) = cond (eqb s 0) (good id ep n) (stop 22)
as_command bad = stop 22

-- a command's header
unfoldable pub header_at : ℕ → Reading
header_at b = as_command (fields_at b)

abbrev pub is_good : Reading → Bool
is_good (good id ep n) = true
is_good (stop k) = false

-- the body's length that a command's header gives; 0 for a bad one
abbrev pub body_len : Reading → ℕ
body_len (good id ep n) = n
body_len (stop k) = 0

-- ---- writing

-- what writing a header reports
pub data Writing : Type 0 where
  byte : ℕ → Writing
  -- the number of the refusal
  refused : ℕ → Writing

-- by ID, endpoint, the body's length and status
unfoldable pub header_byte : ℕ → ℕ → ℕ → ℕ → Writing
header_byte id ep n s =
    cond (fits frame_id id && (fits endpoint ep && (fits length_code (code_of n) && fits status s)))
    (byte (placed frame_id id + placed endpoint ep + placed status s + placed length_code (code_of n)))
    (refused 11)
