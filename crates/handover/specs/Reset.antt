-- The reset call: change request 7 and source document 002, RESET. A running program asks for the next start, and the record of that start is
-- written by the table of fields that begin reads (`record`, specs/Record.antt).
use Rattle.std.specs.Prelude.{ℕ, Bool, not, cond, ◌&&◌, eqb, ltb, length, take, drop, Result, Ok, Err}
use mathlib.Core.List.{List, [], ◌∷◌, ◌++◌, foldl}
use Rattle.rfc7693.specs.Rfc7693.{blake2s}
use Rattle.endian.specs.Endian.{first_bytes}
use Rattle.endian.specs.Lists.{zeros}
use Rattle.record.specs.Record.{Field, type_field, mask_field, first_digest_field, measured_id_field, second_digest_field, data_field, reset_seed, has_second}
use Rattle.handover.specs.declared.Next.{Next as Asked}
use Rattle.handover.specs.declared.Refusal.{Refusal}
use Rattle.handover.specs.declared.Refusal.TheVariants.{NextType, RecordLength, InputLength}

-- the number of each refusal
abbrev pub refusal_number : Refusal → ℕ
refusal_number NextType = 44
refusal_number RecordLength = 45
refusal_number InputLength = 46

-- the number of each answer: 0 where the reset is accepted
abbrev pub number_of : Result (Unit {0}) Refusal → ℕ
number_of (Ok done) = 0
number_of (Err why) = refusal_number why

-- what the program asks for: type and mask, which have 32 bits, the two digests, of 32 bytes each, and data for the next program (source document
-- 002: next_app_data)
pub record Next : Type 0 where
  pub type : ℕ
  pub mask : ℕ
  pub first : List ℕ
  -- not written where mask bit 1 is clear
  pub second : List ℕ
  pub next_data : List ℕ

abbrev pub next_of : ℕ → ℕ → List ℕ → List ℕ → List ℕ → Next
next_of type mask first second next_data = record { type = type; mask = mask; first = first; second = second; next_data = next_data }

-- what the code is asked for
abbrev pub asked_in : Asked → Next
asked_in x = next_of x.next_type x.mask x.first x.second x.next_data.now

-- the hash of the CDI, then the seed (source document 002: measured_id_seed)
abbrev pub mixed : List ℕ → List ℕ → List ℕ
mixed cdi seed = blake2s [] (cdi ++ seed) 32

-- measured_id: with RESET_SEED that hash, without it zeros
abbrev pub measured_id_for : ℕ → List ℕ → List ℕ → List ℕ
measured_id_for mask cdi seed = cond (reset_seed mask) (mixed cdi seed) (zeros 32)

-- a number of 32 bits, lowest byte first
abbrev pub word_bytes : ℕ → List ℕ
word_bytes n = first_bytes 4 (n ∷ [])

-- the fields, each with what is written there; all bits of the mask are written as they are given
abbrev pub contents : Next → List ℕ → List (Field × List ℕ)
contents x measured_id =
    let has = has_second x.mask in
    (type_field, word_bytes x.type) ∷
    (mask_field, word_bytes x.mask) ∷
    (first_digest_field, x.first) ∷
    (measured_id_field, measured_id) ∷ []
    ++ cond has ((second_digest_field, x.second) ∷ []) []
    ++ (data_field has, x.next_data) ∷ []

-- a record with other bytes in a field
abbrev pub put : Field → List ℕ → List ℕ → List ℕ
put f bytes rec = take f.from rec ++ bytes ++ drop f.size (drop f.from rec)

-- nothing of an earlier record is left
unfoldable pub written_record : Next → List ℕ → List ℕ
written_record x measured_id = foldl (λ rec c. put c.0 c.1 rec) (zeros 256) (contents x measured_id)

-- the lengths of CDI, seed and data
abbrev pub inputs_fit : ℕ → ℕ → ℕ → ℕ → Bool
inputs_fit mask cdi seed next_data = eqb cdi 32 && (eqb seed 32 && eqb next_data (data_field (has_second mask)).size)

-- the lowest refusal that applies, 0 for none, by type and mask and the lengths of the record, CDI, seed and data
abbrev pub reset_refusal : ℕ → ℕ → ℕ → ℕ → ℕ → ℕ → ℕ
reset_refusal type mask rec cdi seed next_data =
    cond (ltb 5 type) 44 (cond (not (eqb rec 256)) 45 (cond (not (inputs_fit mask cdi seed next_data)) 46 0))

-- all that a reset settles: its number, and what CDI and record then hold
pub record HandedOver : Type 0 where
  pub number : ℕ
  pub cdi : List ℕ
  pub rec : List ℕ

abbrev pub handed_over : ℕ → List ℕ → List ℕ → HandedOver
handed_over number cdi rec = record { number = number; cdi = cdi; rec = rec }

-- a refused reset leaves both; otherwise the CDI is zeros, and the record the next start's
unfoldable pub resetting : List ℕ → List ℕ → Next → List ℕ → HandedOver
resetting cdi seed x rec =
    let k = reset_refusal x.type x.mask (length rec) (length cdi) (length seed) (length x.next_data) in
    cond (eqb k 0) (handed_over 0 (zeros 32) (written_record x (measured_id_for x.mask cdi seed))) (handed_over k cdi rec)
