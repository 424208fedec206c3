-- The shed bench of document 01: P1 to P13 as one list. Each is about the definitions that promises use. The proof is `checklist` in
-- proofs/Checked.antt.
use Rattle.std.specs.Prelude.{ℕ, ◌≡◌, true, false, List, [], ◌∷◌, length, get_or}
use Rattle.framing.specs.Header.{good, header_at}
use Rattle.rfc7693.specs.Rfc7693.{compressions}
use Rattle.protocol.specs.Commands.{blocks_for, count_in}
use Rattle.cdi.specs.Theorems.{Inputs, string_of}
use Rattle.head.specs.Answers.{continues, stopped}
use Rattle.head.specs.Gather.{gathered}
use Rattle.session.specs.Session.{Reset, begun, AsksClient, is_accepted}
use Rattle.head.specs.declared.State.{State}

-- the state of a head that was begun on a record of type 4 or 5
pub record Begun (s : State) : Type 0 where
  pub reset : Reset
  pub begins : is_accepted (begun reset).report ≡ true
  pub client : AsksClient reset
  pub state : s ≡ (begun reset).state

-- the bytes are gathered, none of them makes a frame whole, and they lead from s to s'
abbrev pub PassedOver : List ℕ → State → State → Type 0
PassedOver [] s s' = s ≡ s'
PassedOver (b ∷ bs) s s' = ((gathered s b).report ≡ continues) × PassedOver bs (gathered s b).state s'

pub record Checklist : Type 0 where
  pub p1 : header_at 0x10 ≡ good 0 2 1
  pub p2 : header_at 0x73 ≡ good 3 2 128
  -- endpoint 3: header and body leave the state as it was, and there is nothing to act on
  pub p3 : (header_at 0x1b ≡ good 0 3 128) × ((s : State) → Begun s → (body : List ℕ) → length body ≡ 128 → PassedOver (0x1b ∷ body) s s)
  pub p4 : (s : State) → Begun s → (gathered s 0x90).report ≡ stopped 22
  pub p5 : (s : State) → Begun s → (gathered s 0x14).report ≡ stopped 22
  pub p6 : blocks_for 127 ≡ 1
  pub p7 : blocks_for 128 ≡ 2
  pub p8 : blocks_for 254 ≡ 2
  pub p9 : blocks_for 255 ≡ 3
  pub p10 : (blocks_for 131072 ≡ 1033) × (count_in 131072 1032 ≡ 8)
  -- direct without a user secret, and chained with one: the domain is byte 32 of the string that is hashed
  pub p11 : (x : Inputs) → x.chained ≡ false → x.used ≡ false → (get_or (string_of x) 32 0 ≡ 0) × (length (string_of x) ≡ 65)
  pub p12 : (x : Inputs) → x.chained ≡ true → x.used ≡ true → (get_or (string_of x) 32 0 ≡ 3) × (length (string_of x) ≡ 97)
  pub p13 : ((msg : List ℕ) → length msg ≡ 64 → length (compressions [] msg) ≡ 1) × ((msg : List ℕ) → length msg ≡ 65 → length (compressions [] msg) ≡ 2)
