-- What is proved about the header byte, for all numbers. The proof is `headers` in proofs/Headers.antt.
use Rattle.std.specs.Prelude.{ℕ, ◌/◌, ◌%◌, ◌^◌, ◌<◌, ◌≤◌, ◌≡◌, ◌↔◌, ◌⊎◌, Option}
use Rattle.framing.specs.Header.{fields, bad, fields_at, good, stop, header_at, byte, refused, header_byte}
use Rattle.framing.specs.Answers.{status_number, reading_of, fields_of, writing_of}
use Rattle.framing.specs.declared.Header.{Header}
use Rattle.framing.specs.declared.ReplyHeader.{ReplyHeader}
use Rattle.framing.specs.declared.Status.{Status}

abbrev pub bit : ℕ → ℕ → ℕ
bit k b = b / 2 ^ k % 2

pub record Headers : Type 0 where
  -- a byte reads as an ID, an endpoint, a length and a status exactly when the writer gives that byte for them; it reads as a command's ID,
  -- endpoint and length exactly when it reads as these and status 0
  pub exact : (b id ep n s : ℕ) → ((b < 2 ^ 8) × (fields_at b ≡ fields id ep n s)) ↔ (header_byte id ep n s ≡ byte b)
  pub command : (b id ep n : ℕ) → (header_at b ≡ good id ep n) ↔ (fields_at b ≡ fields id ep n 0)
  -- the status is bit 2
  pub status : (b id ep n s : ℕ) → fields_at b ≡ fields id ep n s → s ≡ bit 2 b
  -- a reply's header is bad exactly when bit 7 is set, a command's when bit 7 or bit 2 is
  pub bad_reply : (b : ℕ) → (fields_at b ≡ bad) ↔ (bit 7 b ≡ 1)
  pub bad_command : (b : ℕ) → (header_at b ≡ stop 22) ↔ ((bit 7 b ≡ 1) ⊎ (bit 2 b ≡ 1))
  -- the writer refuses with 11 exactly when it is not given an ID and an endpoint up to 3 and one of the four lengths, whichever the status
  pub refusal : (id ep n : ℕ) (s : Status)
      → (header_byte id ep n (status_number s) ≡ refused 11) ↔ (((id ≤ 3) × (ep ≤ 3) × ((n ≡ 1) ⊎ ((n ≡ 4) ⊎ ((n ≡ 32) ⊎ (n ≡ 128))))) → ⊥)
  -- the reported values settle the answer
  pub statuses : (x y : Status) → status_number x ≡ status_number y → x ≡ y
  pub reading : (x y : Option Header) → reading_of x ≡ reading_of y → x ≡ y
  pub reply : (x y : Option ReplyHeader) → fields_of x ≡ fields_of y → x ≡ y
  pub writing : (x y : Option ℕ) → writing_of x ≡ writing_of y → x ≡ y
