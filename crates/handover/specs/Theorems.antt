-- What is proved about a reset besides its promise: when it answers which number, what an accepted one leaves in each field of the record, and what
-- begin reads there. The proof is `handovers` in proofs/Proved.antt.
use Rattle.std.specs.Prelude.{ℕ, ◌+◌, ◌^◌, ◌<◌, ◌≤◌, ◌≡◌, ◌↔◌, true, cond, List, [], ◌∷◌, ◌++◌, length, Result}
use Rattle.std.proofs.Math.Option.{some}
use Rattle.rfc7693.specs.Rfc7693.{blake2s}
use Rattle.endian.specs.Lists.{each, zeros}
use Rattle.record.specs.Record.{type_field, mask_field, first_digest_field, measured_id_field, second_digest_field, data_field, field_of, number_in, Contents, reset_seed, has_second, record_at}
use Rattle.handover.specs.Reset.{number_of, Next, next_of, HandedOver, handed_over, resetting}
use Rattle.handover.specs.declared.Refusal.{Refusal}

-- that the mask has 32 bits, and each digest 32 bytes, is their type in the code
pub record Typed (x : Next) : Type 0 where
  pub mask_word : x.mask < 2 ^ 32
  pub first_length : length x.first ≡ 32
  pub second_length : length x.second ≡ 32

-- CDI, seed and data have the lengths that they must have
pub record InputsFit (cdi seed : List ℕ) (x : Next) : Type 0 where
  pub cdi_length : length cdi ≡ 32
  pub seed_length : length seed ≡ 32
  pub data_length : length x.next_data ≡ (data_field (has_second x.mask)).size

-- when a reset answers each number, and that a refused one changes nothing
pub record Settles (cdi seed : List ℕ) (x : Next) (rec : List ℕ) : Type 0 where
  pub refuses_44 : ((resetting cdi seed x rec).number ≡ 44) ↔ (6 ≤ x.type)
  pub refuses_45 : ((resetting cdi seed x rec).number ≡ 45) ↔ ((x.type ≤ 5) × (length rec ≡ 256 → ⊥))
  pub refuses_46 : ((resetting cdi seed x rec).number ≡ 46) ↔ ((x.type ≤ 5) × (length rec ≡ 256) × (InputsFit cdi seed x → ⊥))
  pub accepts : ((resetting cdi seed x rec).number ≡ 0) ↔ ((x.type ≤ 5) × (length rec ≡ 256) × InputsFit cdi seed x)
  pub kept : ((resetting cdi seed x rec).number ≡ 0 → ⊥) → ((resetting cdi seed x rec).cdi ≡ cdi) × ((resetting cdi seed x rec).rec ≡ rec)

-- what stands in the record, field by field
pub record Fields (x : Next) (measured_id rec : List ℕ) : Type 0 where
  pub size : length rec ≡ 256
  pub type : number_in type_field rec ≡ x.type
  pub mask : number_in mask_field rec ≡ x.mask
  pub first : field_of first_digest_field rec ≡ x.first
  pub measured : field_of measured_id_field rec ≡ measured_id
  pub second : has_second x.mask ≡ true → field_of second_digest_field rec ≡ x.second
  pub placed : field_of (data_field (has_second x.mask)) rec ≡ x.next_data

-- what the loader reads of it: type, mask bits 0 and 1, the digests and measured_id, as they were asked for
abbrev pub asked : Next → List ℕ → Contents
asked x measured_id =
    record {
      type = some x.type;
      reset_seed = reset_seed x.mask;
      digests =
          record {
            first = x.first;
            second = cond (has_second x.mask) x.second (zeros 32);
            has_second = has_second x.mask;
          };
      measured_id = measured_id;
    }

-- what an accepted reset leaves, where its measured_id is this one
pub record Gives (x : Next) (measured_id : List ℕ) (y : HandedOver) : Type 0 where
  pub cleared : y.cdi ≡ zeros 32
  pub fields : Fields x measured_id y.rec
  -- and what begin reads there
  pub reads : record_at y.rec ≡ asked x measured_id

-- the 32 bytes k, k + 1, ..
abbrev pub counting : ℕ → List ℕ
counting k = each 32 (λ i. k + i)

-- records as literal bytes, for all data d and whatever the record was before
pub record Examples : Type 0 where
  -- type 4, mask bits 0 and 31: the BLAKE2s-256 of CDI and seed is python's, and the data begins at byte 72
  pub chained : (d rec : List ℕ) → length d ≡ 184 → length rec ≡ 256
      → resetting (counting 0x00) (counting 0x20) (next_of 4 0x80000001 (counting 0x40) (counting 0x60) d) rec ≡ handed_over 0 (zeros 32) (
      0x04 ∷ 0x00 ∷ 0x00 ∷ 0x00 ∷ 0x01 ∷ 0x00 ∷ 0x00 ∷ 0x80 ∷
      0x40 ∷ 0x41 ∷ 0x42 ∷ 0x43 ∷ 0x44 ∷ 0x45 ∷ 0x46 ∷ 0x47 ∷ 0x48 ∷ 0x49 ∷ 0x4a ∷ 0x4b ∷ 0x4c ∷ 0x4d ∷ 0x4e ∷ 0x4f ∷
      0x50 ∷ 0x51 ∷ 0x52 ∷ 0x53 ∷ 0x54 ∷ 0x55 ∷ 0x56 ∷ 0x57 ∷ 0x58 ∷ 0x59 ∷ 0x5a ∷ 0x5b ∷ 0x5c ∷ 0x5d ∷ 0x5e ∷ 0x5f ∷
      0x56 ∷ 0xf3 ∷ 0x4e ∷ 0x8b ∷ 0x96 ∷ 0x55 ∷ 0x7e ∷ 0x90 ∷ 0xc1 ∷ 0xf2 ∷ 0x4b ∷ 0x52 ∷ 0xd0 ∷ 0xc8 ∷ 0x9d ∷ 0x51 ∷
      0x08 ∷ 0x6a ∷ 0xcf ∷ 0x1b ∷ 0x00 ∷ 0xf6 ∷ 0x34 ∷ 0xcf ∷ 0x1d ∷ 0xde ∷ 0x92 ∷ 0x33 ∷ 0xb8 ∷ 0xea ∷ 0xaa ∷ 0x3e ∷ []
      ++ d)
  -- type 2, mask bits 1 to 31: measured_id is zeros, and the data begins at byte 104, behind the second digest
  pub direct : (d rec : List ℕ) → length d ≡ 152 → length rec ≡ 256
      → resetting (counting 0x00) (counting 0x20) (next_of 2 0xfffffffe (counting 0x40) (counting 0x60) d) rec ≡ handed_over 0 (zeros 32) (
      0x02 ∷ 0x00 ∷ 0x00 ∷ 0x00 ∷ 0xfe ∷ 0xff ∷ 0xff ∷ 0xff ∷
      0x40 ∷ 0x41 ∷ 0x42 ∷ 0x43 ∷ 0x44 ∷ 0x45 ∷ 0x46 ∷ 0x47 ∷ 0x48 ∷ 0x49 ∷ 0x4a ∷ 0x4b ∷ 0x4c ∷ 0x4d ∷ 0x4e ∷ 0x4f ∷
      0x50 ∷ 0x51 ∷ 0x52 ∷ 0x53 ∷ 0x54 ∷ 0x55 ∷ 0x56 ∷ 0x57 ∷ 0x58 ∷ 0x59 ∷ 0x5a ∷ 0x5b ∷ 0x5c ∷ 0x5d ∷ 0x5e ∷ 0x5f ∷
      0x00 ∷ 0x00 ∷ 0x00 ∷ 0x00 ∷ 0x00 ∷ 0x00 ∷ 0x00 ∷ 0x00 ∷ 0x00 ∷ 0x00 ∷ 0x00 ∷ 0x00 ∷ 0x00 ∷ 0x00 ∷ 0x00 ∷ 0x00 ∷
      0x00 ∷ 0x00 ∷ 0x00 ∷ 0x00 ∷ 0x00 ∷ 0x00 ∷ 0x00 ∷ 0x00 ∷ 0x00 ∷ 0x00 ∷ 0x00 ∷ 0x00 ∷ 0x00 ∷ 0x00 ∷ 0x00 ∷ 0x00 ∷
      0x60 ∷ 0x61 ∷ 0x62 ∷ 0x63 ∷ 0x64 ∷ 0x65 ∷ 0x66 ∷ 0x67 ∷ 0x68 ∷ 0x69 ∷ 0x6a ∷ 0x6b ∷ 0x6c ∷ 0x6d ∷ 0x6e ∷ 0x6f ∷
      0x70 ∷ 0x71 ∷ 0x72 ∷ 0x73 ∷ 0x74 ∷ 0x75 ∷ 0x76 ∷ 0x77 ∷ 0x78 ∷ 0x79 ∷ 0x7a ∷ 0x7b ∷ 0x7c ∷ 0x7d ∷ 0x7e ∷ 0x7f ∷ []
      ++ d)

pub record Handovers : Type 0 where
  -- the number settles the answer
  pub answers : (x y : Result (Unit {0}) Refusal) → number_of x ≡ number_of y → x ≡ y
  -- each number exactly when it is the lowest that applies
  pub settles : (cdi seed : List ℕ) (x : Next) (rec : List ℕ) → Settles cdi seed x rec
  -- an accepted reset: measured_id is the hash of CDI, then seed, exactly where mask bit 0 is set
  pub gives : (cdi seed : List ℕ) (x : Next) (rec : List ℕ) → Typed x → (resetting cdi seed x rec).number ≡ 0
      → Gives x (cond (reset_seed x.mask) (blake2s [] (cdi ++ seed) 32) (zeros 32)) (resetting cdi seed x rec)
  pub examples : Examples
