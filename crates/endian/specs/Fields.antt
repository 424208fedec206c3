-- Bytes by a table of fields, as a reset record's and a spool block's: where each field stands, and what it holds.
use Rattle.std.specs.Prelude.{ℕ, List, [], ◌∷◌, take, drop}
use Rattle.endian.specs.Endian.{word, first_bytes}

-- a field: its first byte, and how many it has
pub record Field : Type 0 where
  pub from : ℕ
  pub size : ℕ

-- the bytes of a field
abbrev pub field_of : Field → List ℕ → List ℕ
field_of f bytes = take f.size (drop f.from bytes)

-- a field of four bytes as a number, lowest byte first
abbrev pub number_in : Field → List ℕ → ℕ
number_in f bytes = word (field_of f bytes) 0

-- and the bytes that a number of 32 bits has there
abbrev pub word_bytes : ℕ → List ℕ
word_bytes n = first_bytes 4 (n ∷ [])
