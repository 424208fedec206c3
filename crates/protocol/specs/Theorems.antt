-- What is proved about commands and replies besides the promises: positions, flags, sizes and blocks as document 01 gives them, and what a
-- reply's header says. The proof is `protocol` in proofs/Proved.antt.
use Rattle.std.specs.Prelude.{ℕ, ◌+◌, ◌≤◌, ◌<◌, ◌≡◌, ◌↔◌, ◌⊎◌, Bool, true, false, List, ◌∷◌, ◌++◌, length}
use Rattle.framing.specs.Header.{fields, fields_at, in_field, frame_id}
use Rattle.framing.specs.Answers.{status_number}
use Rattle.framing.specs.Theorems.{bit}
use Rattle.framing.specs.declared.Status.{Status}
use Rattle.endian.specs.Endian.{word}
use Rattle.protocol.specs.Commands.{load_in, good_load, uses_uss, blocks_for, place_of, count_in, is_last}
use Rattle.protocol.specs.Replies.{reply_header, sent, header_in, code_in, status_in, name_code, name_reply, udi_reply, load_reply, block_reply, digest_reply}
use Rattle.protocol.specs.declared.Load.{Load}
use Rattle.protocol.specs.declared.Reply.{Reply}

-- a load of these fields
abbrev pub load_with : ℕ → ℕ → List ℕ → Load
load_with n flag uss = record { size = n; flag = flag; uss = uss }

-- a good load: a size from 1 to the RAM's length m, and a flag of 0 or 1 (change request 2)
pub record IsGood (m : ℕ) (l : Load) : Type 0 where
  pub some : 1 ≤ l.size
  pub fits : l.size ≤ m
  pub flag : (l.flag ≡ 0) ⊎ (l.flag ≡ 1)

-- a reply is as long as it says, with its header, and has at most 129 bytes
abbrev pub Framed : Reply → Type 0
Framed r = (r.len ≤ 128) × (length (sent r) ≡ r.len + 1)

-- bytes of a reply in which bit 2 of the header is set exactly when there is a status and it is 1 (change request 5)
abbrev pub StatusTold : List ℕ → Type 0
StatusTold r = (bit 2 (header_in r) ≡ 1) ↔ ((code_in r ≡ name_code → ⊥) × (status_in r ≡ 1))

-- one of the replies, whatever is in it
pub data IsReply : Reply → Type 0 where
  is_name : (h : ℕ) → IsReply (name_reply h)
  is_udi : (h : ℕ) (udi : List ℕ) → IsReply (udi_reply h udi)
  is_load : (h : ℕ) (good : Bool) → IsReply (load_reply h good)
  is_block : (h : ℕ) → IsReply (block_reply h)
  is_digest : (h : ℕ) (digest : List ℕ) → IsReply (digest_reply h digest)

pub record Protocol : Type 0 where
  -- the fields of a load one after the other: header, command, size (4), flag (1), USS (32), and what is ignored
  pub load : (h command flag : ℕ) (size uss rest : List ℕ) → length size ≡ 4 → length uss ≡ 32
      → load_in (h ∷ command ∷ size ++ flag ∷ uss ++ rest) ≡ load_with (word size 0) flag uss
  -- the user secret is used exactly when the flag is 1
  pub used : (l : Load) → (uses_uss l ≡ true) ↔ (l.flag ≡ 1)
  -- which loads are good
  pub good_load_exactly : (m : ℕ) (l : Load) → (good_load m l ≡ true) ↔ IsGood m l
  -- the blocks of a program are full but for the last, and with the last it is whole
  pub full : (n k : ℕ) → k < blocks_for n → is_last n k ≡ false → count_in n k ≡ 127
  pub last : (n k : ℕ) → 1 ≤ n → is_last n k ≡ true → place_of k + count_in n k ≡ n
  -- a reply has the command's frame ID, endpoint 2, bit 7 zero, the length of its body, and its status as bit 2
  pub header : (h n : ℕ) (s : Status) → (n ≡ 4) ⊎ ((n ≡ 32) ⊎ (n ≡ 128))
      → fields_at (reply_header h n s) ≡ fields (in_field frame_id h) 2 n (status_number s)
  -- every reply has the length that it says
  pub lengths : (r : Reply) → IsReply r → Framed r
  -- and tells its status in its header
  pub told : (r : Reply) → IsReply r → StatusTold (sent r)
