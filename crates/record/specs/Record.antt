-- The reset record: document 01, "Reset record and lent memory", and change request 6. One table says where each field stands.
use Rattle.std.specs.Prelude.{ℕ, ◌-◌, ◌/◌, ◌%◌, Bool, cond, List, eqb, ltb, take, drop}
use Rattle.std.specs.Prelude as code
use Rattle.std.proofs.Math.Option.{Option, none, some}
use Rattle.endian.specs.Endian.{word}
use Rattle.endian.specs.Lists.{zeros}
use Rattle.record.specs.declared.ResetType.{ResetType}
use Rattle.record.specs.declared.ResetType.TheVariants.{Flash0, Flash1, Flash0Ver, Flash1Ver, Client, ClientVer}
use Rattle.record.specs.declared.Digests.{Digests}
use Rattle.record.specs.declared.Record.{Record}

-- a field of the record: its first byte, and how many it has
pub record Field : Type 0 where
  pub from : ℕ
  pub size : ℕ

abbrev pub type_field : Field
type_field = record { from = 0; size = 4 }

abbrev pub mask_field : Field
mask_field = record { from = 4; size = 4 }

-- the first allowed digest, which document 01 calls required
abbrev pub first_digest_field : Field
first_digest_field = record { from = 8; size = 32 }

abbrev pub measured_id_field : Field
measured_id_field = record { from = 40; size = 32 }

-- the second allowed digest, if there is one
abbrev pub second_digest_field : Field
second_digest_field = record { from = 72; size = 32 }

-- data for the next program, which the loader does not read: from byte 104 on or, where there is no second digest, from byte 72 on
abbrev pub data_field : Bool → Field
data_field has = let from : ℕ = cond has 104 72 in record { from = from; size = 256 - from }

-- the bytes of a field
abbrev pub field_of : Field → List ℕ → List ℕ
field_of f bytes = take f.size (drop f.from bytes)

-- a field of four bytes as a number, lowest byte first
abbrev pub number_in : Field → List ℕ → ℕ
number_in f bytes = word (field_of f bytes) 0

-- the number of each type; `None` stands for every other number
abbrev pub type_number : code.Option ResetType → Option ℕ
type_number (code.Some Flash0) = some 0
type_number (code.Some Flash1) = some 1
type_number (code.Some Flash0Ver) = some 2
type_number (code.Some Flash1Ver) = some 3
type_number (code.Some Client) = some 4
type_number (code.Some ClientVer) = some 5
type_number code.None = none

-- what the loader reads of a record: the number of its type, or none, mask bit 0, the allowed digests (first, second and has_second, mask bit 1)
-- and measured_id
pub record Contents : Type 0 where
  pub type : Option ℕ
  pub reset_seed : Bool
  pub digests : Digests
  pub measured_id : List ℕ

abbrev pub record_of : Record → Contents
record_of r =
    record {
      type = type_number r.reset_type;
      reset_seed = r.reset_seed;
      digests = r.digests;
      measured_id = r.measured_id;
    }

-- a number as a type: 6 and above are none
abbrev pub known_type : ℕ → Option ℕ
known_type n = cond (ltb n 6) (some n) none

-- mask bit 0: RESET_SEED
abbrev pub reset_seed : ℕ → Bool
reset_seed mask = eqb (mask % 2) 1

-- mask bit 1: there is a second digest. Bits 2 to 31 are ignored
abbrev pub has_second : ℕ → Bool
has_second mask = eqb (mask / 2 % 2) 1

-- where there is no second digest, zeros stand for it: data is not read
abbrev pub digests_at : Bool → List ℕ → Digests
digests_at has bytes =
    record { first = field_of first_digest_field bytes; second = cond has (field_of second_digest_field bytes) (zeros 32); has_second = has }

unfoldable pub record_at : List ℕ → Contents
record_at bytes =
    record {
      type = known_type (number_in type_field bytes);
      reset_seed = reset_seed (number_in mask_field bytes);
      digests = digests_at (has_second (number_in mask_field bytes)) bytes;
      measured_id = field_of measured_id_field bytes;
    }
