-- The command frames of a program: change request 1, "The server's half". A frame is the list of its bytes, header first, as in `protocol`; that
-- these are what document 01 reads as a load and its blocks is a theorem of `session`.
use Rattle.std.specs.Prelude.{ℕ, ◌-◌, Bool, true, false, not, cond, Option, None, Some, Result, List, [], ◌∷◌, ◌++◌, eqb, ltb, length, take, drop}
use Rattle.framing.specs.Header.{header_byte}
use Rattle.endian.specs.Endian.{byte_of}
use Rattle.protocol.specs.Commands.{length_ok, firmware, blocks_for, place_of}
use Rattle.protocol.specs.Replies.{written, put_in}
use Rattle.endian.specs.Lists.{padded, zeros}
use Rattle.client.specs.Answers.{number_of}
use Rattle.client.specs.declared.Refusal.{Refusal}

-- ---- which frames there are

-- frame 0 is the load, and the last one is the last block: the lowest refusal for the program's length, a frame ID and a frame number, 0 for none
unfoldable pub refusal : ℕ → ℕ → ℕ → ℕ
refusal n id k =
    cond (not (length_ok n)) 40
    (cond (ltb 3 id) 41
    (cond (ltb (blocks_for n) k) 42 0))

-- ---- a frame: unfilled bytes are zero

-- the user secret (USS) of a load, or none: it is not sent unless it is used
pub record Secret : Type 0 where
  pub used : Bool
  pub uss : List ℕ

abbrev pub secret_of : Bool → List ℕ → Secret
secret_of used uss = record { used = used; uss = uss }

-- as a call is given it
abbrev pub secret_in : Option (List ℕ) → Secret
secret_in None = secret_of false (zeros 32)
secret_in (Some uss) = secret_of true uss

-- a command has no status: bit 2 is zero
unfoldable pub command_header : ℕ → ℕ
command_header id = written (header_byte id firmware 128 0)

-- the four bytes of a size
abbrev pub size_bytes : ℕ → List ℕ
size_bytes n = byte_of n 0 ∷ byte_of n 1 ∷ byte_of n 2 ∷ byte_of n 3 ∷ []

-- flag and user secret; without one the flag is 0, and the bytes of the secret are unfilled
abbrev pub secret_bytes : Secret → List ℕ
secret_bytes s = cond s.used (1 ∷ s.uss) (0 ∷ [])

unfoldable pub load_body : ℕ → Secret → List ℕ
load_body n s = padded 128 (0x03 ∷ size_bytes n ++ secret_bytes s)

-- block j carries the program bytes from its place on, 127 or as many as are left
unfoldable pub block_body : List ℕ → ℕ → List ℕ
block_body program j = padded 128 (0x05 ∷ take 127 (drop (place_of j) program))

abbrev pub command_body : List ℕ → Secret → ℕ → List ℕ
command_body program s k = cond (eqb k 0) (load_body (length program) s) (block_body program (k - 1))

abbrev pub command_frame : List ℕ → ℕ → Secret → ℕ → List ℕ
command_frame program id s k = command_header id ∷ command_body program s k

-- ---- the call

-- all that making a frame settles: the number of the refusal, 0 for none, and what the room then holds
pub record Making : Type 0 where
  pub number : ℕ
  pub room : List ℕ

abbrev pub making_as : ℕ → List ℕ → Making
making_as number room = record { number = number; room = room }

abbrev pub making_of : Result (Unit {0}) Refusal → List ℕ → Making
making_of r room = making_as (number_of r) room

-- a room under 129 bytes comes before the others
abbrev pub make_refusal : ℕ → ℕ → ℕ → ℕ → ℕ
make_refusal room n id k = cond (ltb room 129) 3 (refusal n id k)

unfoldable pub making : List ℕ → ℕ → Secret → ℕ → List ℕ → Making
making program id s k room =
    let r = make_refusal (length room) (length program) id k in
    record { number = r; room = cond (eqb r 0) (put_in room (command_frame program id s k)) room }
