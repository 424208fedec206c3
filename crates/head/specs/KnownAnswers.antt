-- Known answers: loads, records, replies, strings, begins, calls and states as literal bytes, beside document 01. What a load, a record, a reply
-- and a string are no theorem about sessions can fix, since a head and a reading of the same bytes would share the mistake; begins and calls are
-- examples of what `flash_exactly`, `table` and `whole_when` of `session` say of all. The proof is `known_answers` in proofs/KnownAnswers.antt.
use Rattle.std.specs.Prelude.{ℕ, ◌+◌, ◌≡◌, true, false, List, [], ◌∷◌, ◌++◌, length, take}
use Rattle.std.proofs.Math.Option.{Option, none, some}
use Rattle.protocol.specs.Commands.{load_in, good_load}
use Rattle.endian.specs.Lists.{each, padded, zeros}
use Rattle.protocol.specs.Replies.{sent, name_reply, udi_reply, load_reply, block_reply, digest_reply}
use Rattle.protocol.specs.declared.Load.{Load}
use Rattle.record.specs.Record.{record_at}
use Rattle.record.specs.Types.{one_of}
use Rattle.record.specs.declared.Digests.{Digests}
use Rattle.cdi.specs.Theorems.{Strings}
use Rattle.head.specs.State.{in_range, idle, of_size, ended}
use Rattle.head.specs.Answers.{Report, refused, continues, whole, stopped, started, Result}
use Rattle.head.specs.Start.{ending}
use Rattle.head.specs.Begin.{Flash, flash_of, fits, beginning}
use Rattle.head.specs.Gather.{with_incoming, gathered}
use Rattle.head.specs.Act.{loaded, acted}
use Rattle.head.specs.Theorems.{gathered_on}
use Rattle.head.specs.declared.Phase.{Phase}
use Rattle.head.specs.declared.Phase.TheVariants as phase
use Rattle.head.specs.declared.Config.{Config}
use Rattle.head.specs.declared.State.{State}

-- a load of one byte, with a flag; its user secret is zeros
abbrev pub flagged : ℕ → Load
flagged flag = load_in (padded 129 (0x13 ∷ 0x03 ∷ 1 ∷ 0 ∷ 0 ∷ 0 ∷ flag ∷ []))

-- the type of a record whose first four bytes are these
abbrev pub type_of : ℕ → ℕ → ℕ → ℕ → Option ℕ
type_of a b c d = (record_at (padded 256 (a ∷ b ∷ c ∷ d ∷ []))).type

-- a record with these bytes for its mask
abbrev pub masked : ℕ → ℕ → ℕ → ℕ → List ℕ
masked a b c d = padded 256 (4 ∷ 0 ∷ 0 ∷ 0 ∷ a ∷ b ∷ c ∷ d ∷ [])

-- the digests of "abc" (RFC 7693, appendix B) and of one byte 0
abbrev pub digest_of_abc : List ℕ
digest_of_abc =
    0x50 ∷ 0x8c ∷ 0x5e ∷ 0x8c ∷ 0x32 ∷ 0x7c ∷ 0x14 ∷ 0xe2 ∷
    0xe1 ∷ 0xa7 ∷ 0x2b ∷ 0xa3 ∷ 0x4e ∷ 0xeb ∷ 0x45 ∷ 0x2f ∷
    0x37 ∷ 0x45 ∷ 0x8b ∷ 0x20 ∷ 0x9e ∷ 0xd6 ∷ 0x3a ∷ 0x29 ∷
    0x4d ∷ 0x99 ∷ 0x9b ∷ 0x4c ∷ 0x86 ∷ 0x67 ∷ 0x59 ∷ 0x82 ∷ []

abbrev pub digest_of_zero : List ℕ
digest_of_zero =
    0xe3 ∷ 0x4d ∷ 0x74 ∷ 0xdb ∷ 0xaf ∷ 0x4f ∷ 0xf4 ∷ 0xc6 ∷
    0xab ∷ 0xd8 ∷ 0x71 ∷ 0xcc ∷ 0x22 ∷ 0x04 ∷ 0x51 ∷ 0xd2 ∷
    0xea ∷ 0x26 ∷ 0x48 ∷ 0x84 ∷ 0x6c ∷ 0x77 ∷ 0x57 ∷ 0xfb ∷
    0xaa ∷ 0xc8 ∷ 0x2f ∷ 0xe5 ∷ 0x1a ∷ 0xd6 ∷ 0x4b ∷ 0xea ∷ []

-- "abcde" in slot 0 and one byte 0 in slot 1, the sizes of the programs in them, and a built-in digest
abbrev pub flashed : ℕ → ℕ → List ℕ → Flash
flashed n0 n1 built_in = flash_of (97 ∷ 98 ∷ 99 ∷ 100 ∷ 101 ∷ []) n0 (0 ∷ []) n1 built_in

-- begin on a record of which these are the first bytes, with four bytes of RAM and the UDS 1 to 8
abbrev pub begun_on : List ℕ → Flash → Result
begun_on rec f = beginning (padded 256 rec) (zeros 8) f (9 ∷ 9 ∷ 9 ∷ 9 ∷ []) (1 ∷ 2 ∷ 3 ∷ 4 ∷ 5 ∷ 6 ∷ 7 ∷ 8 ∷ [])

-- a record of this type with mask 0 and this first digest
abbrev pub typed : ℕ → List ℕ → List ℕ
typed type digest = type ∷ 0 ∷ 0 ∷ 0 ∷ 0 ∷ 0 ∷ 0 ∷ 0 ∷ digest

-- each type: its slot, and the digest that it allows
pub record BeginTypes : Type 0 where
  -- not the record's
  pub flash_0 : (begun_on (typed 0 digest_of_abc) (flashed 3 1 digest_of_zero)).report ≡ stopped 25
  -- any
  pub flash_1 : (begun_on (typed 1 digest_of_abc) (flashed 3 1 digest_of_abc)).report ≡ started 0x40000000 1
  -- the record's, and not the built-in one
  pub flash_0_ver : (begun_on (typed 2 digest_of_abc) (flashed 3 1 digest_of_zero)).report ≡ started 0x40000000 3
  pub flash_1_ver : (begun_on (typed 3 digest_of_zero) (flashed 3 1 digest_of_abc)).report ≡ started 0x40000000 1
  pub differs : (begun_on (typed 3 digest_of_abc) (flashed 3 1 digest_of_zero)).report ≡ stopped 25
  -- after stop 25 the program stays in RAM, and the UDS as it was
  pub stop : begun_on (typed 2 digest_of_zero) (flashed 3 1 digest_of_abc) ≡ ending (stopped 25) 4 (97 ∷ 98 ∷ 99 ∷ 9 ∷ []) (1 ∷ 2 ∷ 3 ∷ 4 ∷ 5 ∷ 6 ∷ 7 ∷ 8 ∷ [])
  -- the slots are not looked at
  pub client : (begun_on (typed 4 []) (flashed 0 0 [])).report ≡ continues
  pub client_ver : (begun_on (typed 5 []) (flashed 0 0 [])).report ≡ continues
  pub unknown : (begun_on (typed 6 []) (flashed 3 1 [])).report ≡ stopped 20

pub record Begins : Type 0 where
  -- a start from slot 0, of the first three bytes there
  pub start : begun_on (typed 0 []) (flashed 3 1 digest_of_abc) ≡ record {
    report = started 0x40000000 3;
    state = ended phase.Started 4;
    cdi =
        0x02 ∷ 0x41 ∷ 0x4a ∷ 0x90 ∷ 0xf4 ∷ 0x50 ∷ 0x8d ∷ 0xb6 ∷
        0x74 ∷ 0xc8 ∷ 0x59 ∷ 0x0c ∷ 0x7c ∷ 0xe0 ∷ 0x53 ∷ 0xd3 ∷
        0xe5 ∷ 0xb4 ∷ 0x0f ∷ 0xcd ∷ 0xb6 ∷ 0xf5 ∷ 0x24 ∷ 0x43 ∷
        0x7c ∷ 0x60 ∷ 0x3e ∷ 0xce ∷ 0x81 ∷ 0x21 ∷ 0xae ∷ 0x0d ∷ [];
    digest = digest_of_abc;
    ram = 97 ∷ 98 ∷ 99 ∷ 9 ∷ [];
    uds = zeros 8;
  }
  -- and a chained one from slot 1: mask 1, and 0xc0, 0xc1, .. for measured_id
  pub chained : (begun_on (1 ∷ 0 ∷ 0 ∷ 0 ∷ 1 ∷ 0 ∷ 0 ∷ 0 ∷ zeros 32 ++ each 32 (λ i. 0xc0 + i)) (flashed 3 1 [])).cdi ≡
      0x8c ∷ 0x8f ∷ 0xda ∷ 0x2d ∷ 0xfb ∷ 0x6a ∷ 0x03 ∷ 0x26 ∷
      0x79 ∷ 0x3c ∷ 0x23 ∷ 0xe3 ∷ 0xd6 ∷ 0x69 ∷ 0x9a ∷ 0xf8 ∷
      0xe3 ∷ 0x4a ∷ 0xe8 ∷ 0x69 ∷ 0x73 ∷ 0x40 ∷ 0xf1 ∷ 0x09 ∷
      0xa7 ∷ 0xe4 ∷ 0x07 ∷ 0x26 ∷ 0xfa ∷ 0x51 ∷ 0x78 ∷ 0x82 ∷ []
  pub types : BeginTypes
  -- sizes of 0, of the slot and one more, where the RAM is longer; of the RAM and one more, where the slot is
  pub sizes : (fits 0 3 4 ≡ false) × (fits 3 3 4 ≡ true) × (fits 4 3 4 ≡ false) × (fits 4 5 4 ≡ true) × (fits 5 5 4 ≡ false)
  -- a size over the RAM, as long as the slot: nothing is stored
  pub unfit : begun_on (typed 2 digest_of_abc) (flashed 5 1 [])
      ≡ ending (stopped 26) 4 (9 ∷ 9 ∷ 9 ∷ 9 ∷ []) (1 ∷ 2 ∷ 3 ∷ 4 ∷ 5 ∷ 6 ∷ 7 ∷ 8 ∷ [])
  -- refusals in their order, of record, RAM and UDS
  pub refusals : ((beginning [] [] (flashed 0 0 []) [] []).report ≡ refused 5) × ((beginning [] [] (flashed 0 0 []) [] (zeros 8)).report ≡ refused 6)
      × ((beginning (zeros 256) [] (flashed 0 0 []) [] (zeros 8)).report ≡ refused 7)

-- a head begun on a record of type 4 with one byte of RAM, after these bytes were gathered
abbrev pub having : List ℕ → State
having bs = (gathered_on bs (record { report = continues; state = (beginning (padded 256 (4 ∷ [])) (zeros 8) (flashed 0 0 []) (0 ∷ []) (zeros 8)).state })).state

-- its reply to a whole load of size 0 with this header
abbrev pub reply_to_size0 : ℕ → List ℕ
reply_to_size0 h =
    let o = acted (with_incoming (having []) (record { header = h; got = 129; body = padded 128 (0x03 ∷ []) })) (zeros 129) (0 ∷ []) (zeros 8) in
    take o.reply o.room

-- ---- two allowed digests: change request 6

-- a record of type 5 in which each byte after the mask is its own position
abbrev pub numbered : ℕ → List ℕ
numbered mask = (5 ∷ 0 ∷ 0 ∷ 0 ∷ mask ∷ 0 ∷ 0 ∷ 0 ∷ []) ++ each 248 (λ i. 8 + i)

-- a record of this type with this first byte of its mask and these digests in bytes 8 to 39 and 72 to 103
abbrev pub two_digests : ℕ → ℕ → List ℕ → List ℕ → List ℕ
two_digests type mask first second = type ∷ 0 ∷ 0 ∷ 0 ∷ mask ∷ 0 ∷ 0 ∷ 0 ∷ first ++ zeros 32 ++ second

-- begin with one byte of RAM; a load of one byte came then, and now the block that carries a byte 0
abbrev pub config_on : List ℕ → Config
config_on rec = (beginning (padded 256 rec) (zeros 8) (flashed 0 0 []) (0 ∷ []) (zeros 8)).state.config

abbrev pub at_last_block : Config → State
at_last_block c = record { incoming = record { header = 0x13; got = 129; body = padded 128 (0x05 ∷ []) }; config = c; progress = of_size phase.Loading 1 }

-- what comes of the program: begin's answer, and that of the acting on the last block
abbrev pub from_slots : List ℕ → Report
from_slots rec = (begun_on rec (flashed 3 1 [])).report

abbrev pub last_answer : Config → Report
last_answer c = (acted (at_last_block c) (zeros 129) (0 ∷ []) (zeros 8)).report

abbrev pub from_client : List ℕ → Report
from_client rec = last_answer (config_on rec)

-- a config with one byte of RAM that goes by these digests
abbrev pub verifying : Digests → Config
verifying a = record { ram_len = 1; measured_id = zeros 32; udi = zeros 8; digests = a; verify = true; chained = false }

-- a program of n bytes with the digest d, where x is another: the record allows it as the second only, as the first only, or not at all; and it has
-- it in the second's place with bit 1 clear: mask 0xFD has every other bit of the byte
abbrev pub EitherStarts : (List ℕ → Report) → ℕ → ℕ → List ℕ → List ℕ → Type 0
EitherStarts comesOf type n d x =
    (comesOf (two_digests type 2 x d) ≡ started 0x40000000 n) × (comesOf (two_digests type 2 d x) ≡ started 0x40000000 n)
    × (comesOf (two_digests type 2 x x) ≡ stopped 25) × (comesOf (two_digests type 0xfd x d) ≡ stopped 25)

pub record TwoDigests : Type 0 where
  -- where the digests stand, and that the second is zeros where bit 1 of the mask is clear
  pub set : record_at (numbered 2)
      ≡ record {
        type = some 5;
        reset_seed = false;
        digests = record { first = each 32 (λ i. 8 + i); second = each 32 (λ i. 72 + i); has_second = true };
        measured_id = each 32 (λ i. 40 + i);
      }
  pub clear : record_at (numbered 1)
      ≡ record {
        type = some 5;
        reset_seed = true;
        digests = record { first = each 32 (λ i. 8 + i); second = zeros 32; has_second = false };
        measured_id = each 32 (λ i. 40 + i);
      }
  -- either of the two, and only with the bit
  pub type_2 : EitherStarts from_slots 2 3 digest_of_abc digest_of_zero
  pub type_3 : EitherStarts from_slots 3 1 digest_of_zero digest_of_abc
  pub type_5 : EitherStarts from_client 5 1 digest_of_zero digest_of_abc
  -- the zeros of `clear` allow nothing
  pub zeros_allow_nothing : one_of (record_at (numbered 1)).digests (zeros 32) ≡ false
  -- type 0 has its built-in digest only
  pub type_0 : (begun_on (two_digests 0 2 digest_of_abc digest_of_abc) (flashed 3 1 digest_of_zero)).report ≡ stopped 25
  -- type 4 allows any digest
  pub type_4 : from_client (two_digests 4 2 digest_of_abc digest_of_abc) ≡ started 0x40000000 1
  -- what the state has: both digests and the bit, or zeros and no bit
  pub state_4 : ((config_on (two_digests 4 2 digest_of_abc digest_of_zero)).digests ≡ record { first = digest_of_abc; second = digest_of_zero; has_second = true })
      × ((config_on (two_digests 4 0xfd digest_of_abc digest_of_zero)).digests ≡ record { first = digest_of_abc; second = zeros 32; has_second = false })
  pub state_5 : ((config_on (two_digests 5 2 digest_of_abc digest_of_zero)).digests ≡ record { first = digest_of_abc; second = digest_of_zero; has_second = true })
      × ((config_on (two_digests 5 0xfd digest_of_abc digest_of_zero)).digests ≡ record { first = digest_of_abc; second = zeros 32; has_second = false })
  -- the digests have no range: any are taken, and without the bit a second one that is no zeros allows nothing
  pub any_digests : (a : Digests) → in_range (at_last_block (verifying a)) ≡ true
  pub bit_decides : last_answer (verifying (record { first = digest_of_abc; second = digest_of_zero; has_second = false })) ≡ stopped 25

pub record KnownAnswers : Type 0 where
  -- flags 0, 1, 2 and 255, in byte 6: 0 means that there is no user secret, 1 that it is used, also one of zeros, and a load with another is
  -- not good
  pub flags : (good_load 1 (flagged 0) ≡ true) × ((loaded (flagged 0)).uss_used ≡ false) × (good_load 1 (flagged 1) ≡ true)
      × ((loaded (flagged 1)).uss_used ≡ true) × (good_load 1 (flagged 2) ≡ false) × (good_load 1 (flagged 255) ≡ false)
  -- types 0 to 6, and 0x01000004 and 0x00000104, of which the first byte is 4
  pub types : (type_of 0 0 0 0 ≡ some 0) × (type_of 1 0 0 0 ≡ some 1) × (type_of 2 0 0 0 ≡ some 2) × (type_of 3 0 0 0 ≡ some 3)
      × (type_of 4 0 0 0 ≡ some 4) × (type_of 5 0 0 0 ≡ some 5) × (type_of 6 0 0 0 ≡ none) × (type_of 4 0 0 1 ≡ none) × (type_of 4 1 0 0 ≡ none)
  -- masks 1, 0xFFFFFFFE and 0x00000100: bit 0 is RESET_SEED; masks 2, 0xFFFFFFFD and 0x00000200: bit 1 says that there is a second digest; the
  -- other 30 are ignored
  pub masks : ((record_at (masked 1 0 0 0)).reset_seed ≡ true) × ((record_at (masked 254 255 255 255)).reset_seed ≡ false)
      × ((record_at (masked 0 1 0 0)).reset_seed ≡ false)
  pub second_masks : ((record_at (masked 2 0 0 0)).digests.has_second ≡ true)
      × ((record_at (masked 253 255 255 255)).digests.has_second ≡ false) × ((record_at (masked 0 2 0 0)).digests.has_second ≡ false)
  pub either_digest : TwoDigests
  -- each reply as bytes: the command's frame ID, endpoint 2, bit 2 zero; the one with status 1 is `not_taken`, below
  pub name : sent (name_reply 0x10)
      ≡ 0x12 ∷ 0x02 ∷ 0x74 ∷ 0x6b ∷ 0x31 ∷ 0x20 ∷ 0x6d ∷ 0x6b ∷ 0x64 ∷ 0x66 ∷ 0x01 ∷ 0 ∷ 0 ∷ 0 ∷ 0 ∷ 0 ∷ 0
      ∷ 0 ∷ 0 ∷ 0 ∷ 0 ∷ 0 ∷ 0 ∷ 0 ∷ 0 ∷ 0 ∷ 0 ∷ 0 ∷ 0 ∷ 0 ∷ 0 ∷ 0 ∷ 0 ∷ []
  pub udi : (u : List ℕ) → length u ≡ 8 → sent (udi_reply 0x30 u) ≡ 0x32 ∷ 0x09 ∷ 0 ∷ u ++ zeros 22
  pub taken : sent (load_reply 0x53 true) ≡ 0x51 ∷ 0x04 ∷ 0 ∷ 0 ∷ 0 ∷ []
  pub block : sent (block_reply 0x73) ≡ 0x71 ∷ 0x06 ∷ 0 ∷ 0 ∷ 0 ∷ []
  pub digest : (d : List ℕ) → length d ≡ 32 → sent (digest_reply 0x73 d) ≡ 0x73 ∷ 0x07 ∷ 0 ∷ d ++ zeros 94
  -- the string of the CDI as bytes, direct and chained, without and with a user secret
  pub strings : Strings
  -- begins
  pub begins : Begins
  -- the query 10 01 and the calls around it: when it is whole, and the refusals in their order
  pub gathering : ((gathered (having []) 0x10).report ≡ continues) × ((gathered (having (0x10 ∷ [])) 0x01).report ≡ whole)
      × ((gathered (having (0x10 ∷ 0x01 ∷ [])) 0x10).report ≡ refused 47)
  pub acting : ((acted (having (0x10 ∷ [])) [] [] []).report ≡ refused 47) × ((acted (having (0x10 ∷ 0x01 ∷ [])) [] [] []).report ≡ refused 3)
      × ((acted (having (0x10 ∷ 0x01 ∷ [])) (zeros 129) [] []).report ≡ refused 4)
      × ((acted (having (0x10 ∷ 0x01 ∷ [])) (zeros 129) (0 ∷ []) []).report ≡ refused 5)
      × ((acted (having (0x10 ∷ 0x01 ∷ [])) (zeros 129) (0 ∷ []) (zeros 8)).report ≡ continues)
      × ((acted (having (0x10 ∷ 0x01 ∷ [])) (zeros 129) (0 ∷ []) (zeros 8)).state ≡ having [])
  -- a load that is not taken, with each frame ID
  pub not_taken : (reply_to_size0 0x13 ≡ 0x15 ∷ 0x04 ∷ 1 ∷ 0 ∷ 0 ∷ []) × (reply_to_size0 0x33 ≡ 0x35 ∷ 0x04 ∷ 1 ∷ 0 ∷ 0 ∷ [])
      × (reply_to_size0 0x53 ≡ 0x55 ∷ 0x04 ∷ 1 ∷ 0 ∷ 0 ∷ []) × (reply_to_size0 0x73 ≡ 0x75 ∷ 0x04 ∷ 1 ∷ 0 ∷ 0 ∷ [])
  -- a frame for endpoint 3 leaves nothing, and there is nothing to act on
  pub foreign : (gathered (having (0x18 ∷ [])) 0x01 ≡ record { report = continues; state = having [] })
      × ((acted (having (0x18 ∷ 0x01 ∷ [])) [] [] []).report ≡ refused 47)
  -- a bad header ends the session
  pub after_stop : ((gathered (having []) 0x90).report ≡ stopped 22) × ((gathered (having (0x90 ∷ [])) 0x10).report ≡ refused 2)
      × ((acted (having (0x90 ∷ [])) [] [] []).report ≡ refused 2)
  -- nothing of a session is left in the state after a stop or a start
  pub ends : (p : Phase) (m : ℕ) → ((ended p m).incoming ≡ idle) × ((ended p m).config.digests.first ≡ zeros 32) × ((ended p m).config.digests.second ≡ zeros 32)
      × ((ended p m).config.digests.has_second ≡ false) × ((ended p m).config.measured_id ≡ zeros 32)
      × ((ended p m).config.udi ≡ zeros 8) × ((ended p m).progress.uss ≡ zeros 32) × ((ended p m).progress.phase ≡ p) × ((ended p m).config.ram_len ≡ m)
