-- What is proved about the calls besides their promises. The proof is `client` in proofs/Proved.antt.
use Rattle.std.specs.Prelude.{ℕ, ◌^◌, ◌-◌, ◌<◌, ◌≤◌, ◌≡◌, ◌↔◌, Bool, true, false, cond, Option, None, Some, Result, List, [], ◌∷◌, ◌++◌, length, replicate}
use Rattle.framing.specs.Header.{good, header_at, header_byte}
use Rattle.framing.specs.Answers.{status_number}
use Rattle.framing.specs.Theorems.{bit}
use Rattle.framing.specs.declared.Status.{Status}
use Rattle.protocol.specs.Commands.{firmware, blocks_for, is_last}
use Rattle.protocol.specs.Replies.{written, sent, header_in, status_in, load_reply, block_reply, digest_reply}
use Rattle.endian.specs.Lists.{padded, zeros}
use Rattle.client.specs.Answers.{number_of, difference_number}
use Rattle.client.specs.Frames.{refusal, Secret, secret_of, command_header, command_frame}
use Rattle.client.specs.Replies.{Expected, expected_reply, taking_as, refused_with, taking, differing}
use Rattle.client.specs.declared.Refusal.{Refusal}
use Rattle.client.specs.declared.Difference.{Difference}
use Rattle.client.specs.declared.Difference.TheVariants as difference

-- r is the expected reply, written from its parts: a header with the status, the code, the status, a digest if it has one, and zeros
pub record Expects (x : Expected) (id : ℕ) (r : List ℕ) : Type 0 where
  pub status : Status
  pub digest : List ℕ
  pub digest_length : length digest ≡ x.digest
  pub bytes : r ≡ written (header_byte id firmware x.len (status_number status)) ∷ padded x.len (x.code ∷ status_number status ∷ digest)

pub record Client : Type 0 where
  -- the number settles the answer
  pub answers : (x y : Result (Unit {0}) Refusal) → number_of x ≡ number_of y → x ≡ y
  -- which programs, IDs and numbers are not refused
  pub accepts : (n id k : ℕ) → (refusal n id k ≡ 0) ↔ ((1 ≤ n) × (n ≤ 131072) × (id ≤ 3) × (k ≤ blocks_for n))
  -- a frame has 129 bytes; its header reads as the frame ID, endpoint 2 and a body of 128
  pub frame : (program : List ℕ) (id : ℕ) (s : Secret) (k : ℕ) → length s.uss ≡ 32 → length (command_frame program id s k) ≡ 129
  pub header : (id : ℕ) → id ≤ 3 → header_at (command_header id) ≡ good id firmware 128
  -- the frames of a program of one byte with ID 1, as literal bytes: the load with a user secret and with none, and the block
  pub example : (command_frame (0xaa ∷ []) 1 (secret_of true (replicate 32 0xbb)) 0 ≡ 0x33 ∷ 0x03 ∷ 1 ∷ 0 ∷ 0 ∷ 0 ∷ 1 ∷ replicate 32 0xbb ++ zeros 90)
      × (command_frame (0xaa ∷ []) 1 (secret_of false (replicate 32 0xbb)) 0 ≡ 0x33 ∷ 0x03 ∷ 1 ∷ zeros 126)
      × (command_frame (0xaa ∷ []) 1 (secret_of false (replicate 32 0xbb)) 1 ≡ 0x33 ∷ 0x05 ∷ 0xaa ∷ zeros 126)
  -- a reply is taken exactly when it is the expected one, and then its status is given, and the digest if it has one
  pub takes : (n id k : ℕ) (r : List ℕ) → header_in r < 2 ^ 8
      → ((taking n id k r).number ≡ 0) ↔ ((refusal n id k ≡ 0) × Expects (expected_reply n k) id r)
  pub gives : (n id k : ℕ) (r : List ℕ) → refusal n id k ≡ 0 → (e : Expects (expected_reply n k) id r)
      → taking n id k r ≡ taking_as 0 (status_number e.status) (padded 32 e.digest)
  -- a reply whose bit 2 is not its status byte is refused with 43, whichever of the two is set
  pub disagrees : (n id k : ℕ) (r : List ℕ) → refusal n id k ≡ 0 → (bit 2 (header_in r) ≡ status_in r → ⊥) → taking n id k r ≡ refused_with 43
  -- the replies that `protocol` writes to these frames are taken
  pub to_load : (n id : ℕ) (good : Bool) → refusal n id 0 ≡ 0
      → taking n id 0 (sent (load_reply (command_header id) good)) ≡ taking_as 0 (cond good 0 1) (zeros 32)
  pub to_block : (n id k : ℕ) → refusal n id k ≡ 0 → 1 ≤ k → is_last n (k - 1) ≡ false
      → taking n id k (sent (block_reply (command_header id))) ≡ taking_as 0 0 (zeros 32)
  pub to_last : (n id k : ℕ) (digest : List ℕ) → refusal n id k ≡ 0 → 1 ≤ k → is_last n (k - 1) ≡ true → length digest ≡ 32
      → taking n id k (sent (digest_reply (command_header id) digest)) ≡ taking_as 0 0 digest
  -- the number settles the difference; a reply is taken exactly when it differs in nothing
  pub differences : (x y : Option Difference) → difference_number x ≡ difference_number y → x ≡ y
  pub differs : (n id k : ℕ) (r : List ℕ) → refusal n id k ≡ 0 → (differing n id k r ≡ None) ↔ ((taking n id k r).number ≡ 0)
  -- which difference is which, and their order, in replies to the load of a program of one byte with ID 1: one without a byte, and one that
  -- differs in everything, made right place by place; status 1 in header and byte, and in one of them alone
  pub compared : (differing 1 1 0 [] ≡ Some difference.Header)
      × (differing 1 1 0 (0x51 ∷ 0x06 ∷ 2 ∷ 1 ∷ []) ≡ Some difference.Header)
      × (differing 1 1 0 (0x31 ∷ 0x06 ∷ 2 ∷ 1 ∷ []) ≡ Some difference.Length)
      × (differing 1 1 0 (0x31 ∷ 0x06 ∷ 2 ∷ 1 ∷ 0 ∷ []) ≡ Some difference.Code)
      × (differing 1 1 0 (0x31 ∷ 0x04 ∷ 2 ∷ 1 ∷ 0 ∷ []) ≡ Some difference.Status)
      × (differing 1 1 0 (0x31 ∷ 0x04 ∷ 0 ∷ 1 ∷ 0 ∷ []) ≡ Some difference.Filler)
      × (differing 1 1 0 (0x31 ∷ 0x04 ∷ 0 ∷ 0 ∷ 0 ∷ []) ≡ None)
      × (differing 1 1 0 (0x35 ∷ 0x04 ∷ 1 ∷ 0 ∷ 0 ∷ []) ≡ None)
      × (differing 1 1 0 (0x35 ∷ 0x04 ∷ 0 ∷ 0 ∷ 0 ∷ []) ≡ Some difference.Status)
      × (differing 1 1 0 (0x31 ∷ 0x04 ∷ 1 ∷ 0 ∷ 0 ∷ []) ≡ Some difference.Status)
