-- What is proved about a block besides the promises. The proof is `blocks` in proofs/Proved.antt.
use Rattle.std.specs.Prelude.{ℕ, ◌+◌, ◌-◌, ◌^◌, ◌<◌, ◌≤◌, ◌≡◌, ◌↔◌, List, [], ◌∷◌, ◌++◌, length}
use Rattle.rfc7693.specs.Rfc7693.{blake2s}
use Rattle.endian.specs.Lists.{zeros, Bytes}
use Rattle.endian.specs.Fields.{field_of, number_in}
use Rattle.spool_block.specs.Block.{number_field, check_field, checked_field, count_in, used_in, filler_in, block_refusal}
use Rattle.spool_block.specs.Making.{block_of}

-- how many bytes a block uses at place i of n
pub record CountFits (n i count : ℕ) : Type 0 where
  pub full : (i + 1 ≡ n → ⊥) → count ≡ 472
  pub last : i + 1 ≡ n → (1 ≤ count) × (count ≤ 472)
  pub most : i + 1 ≡ n → i ≡ 277 → count ≤ 328

abbrev pub CheckIs : List ℕ → Type 0
CheckIs b = field_of check_field b ≡ blake2s [] (field_of checked_field b) 32

abbrev pub NumberIs : ℕ → List ℕ → Type 0
NumberIs i b = number_in number_field b ≡ i

-- count and filler
abbrev pub ContentsAre : ℕ → ℕ → List ℕ → Type 0
ContentsAre n i b = CountFits n i (count_in b) × (filler_in b ≡ zeros (472 - count_in b))

-- the first fault, in the order check, number, count or filler
pub record Settles (n i : ℕ) (b : List ℕ) : Type 0 where
  pub good : (block_refusal n i b ≡ 0) ↔ (CheckIs b × NumberIs i b × ContentsAre n i b)
  pub check : (block_refusal n i b ≡ 51) ↔ (CheckIs b → ⊥)
  pub number : (block_refusal n i b ≡ 52) ↔ (CheckIs b × (NumberIs i b → ⊥))
  pub contents : (block_refusal n i b ≡ 53) ↔ (CheckIs b × NumberIs i b × (ContentsAre n i b → ⊥))

pub record Blocks : Type 0 where
  pub settles : (n i : ℕ) (b : List ℕ) → Settles n i b
  -- a block that was made has 512 bytes, uses what it was made of, and is good at its number exactly where the count fits
  pub size : (i : ℕ) (x : List ℕ) → length x ≤ 472 → length (block_of i x) ≡ 512
  pub uses : (i : ℕ) (x : List ℕ) → i < 2 ^ 32 → length x ≤ 472 → used_in (block_of i x) ≡ x
  pub made : (n i : ℕ) (x : List ℕ) → i < 2 ^ 32 → length x ≤ 472 → (block_refusal n i (block_of i x) ≡ 0) ↔ CountFits n i (length x)
  -- and every block that is good at a place is the one that is made of its number and what it uses, byte for byte
  pub only : (n i : ℕ) (b : List ℕ) → Bytes b → length b ≡ 512 → block_refusal n i b ≡ 0 → b ≡ block_of i (used_in b)
  -- a block as literal bytes; its check is python's
  pub example : block_of 0x01020304 (0xaa ∷ 0xbb ∷ []) ≡
      0x04 ∷ 0x03 ∷ 0x02 ∷ 0x01 ∷ 0x02 ∷ 0x00 ∷ 0x00 ∷ 0x00 ∷ 0xaa ∷ 0xbb ∷ [] ++ zeros 470 ++ (
      0xad ∷ 0x13 ∷ 0x8a ∷ 0x4e ∷ 0xec ∷ 0xc0 ∷ 0x5c ∷ 0xa1 ∷ 0x6b ∷ 0x51 ∷ 0x1a ∷ 0x9f ∷ 0xfc ∷ 0x94 ∷ 0xd3 ∷ 0x1e ∷
      0xea ∷ 0xf0 ∷ 0x4a ∷ 0xee ∷ 0x26 ∷ 0x51 ∷ 0x7d ∷ 0x1c ∷ 0x11 ∷ 0x77 ∷ 0x70 ∷ 0xf3 ∷ 0x93 ∷ 0x76 ∷ 0x00 ∷ 0xf9 ∷ [])
