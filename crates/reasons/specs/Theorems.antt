-- What is proved of a diagnosis (change request 13): its reason is true of the bytes and the only one that is, and it is what the head did. The proof is
-- `diagnoses` in proofs/Proved.antt.
use Rattle.std.specs.Prelude.{ℕ, ◌+◌, ◌^◌, ◌<◌, ◌≤◌, ◌≡◌, ◌↔◌, ◌⊎◌, Bool, true, false, eqb, length, get_or, take, Result}
use mathlib.Core.List.{List, [], ◌∷◌, ◌++◌, flatten}
use Rattle.endian.specs.Lists.{zeros, All, Words}
use Rattle.framing.specs.Header.{header_at, body_len}
use Rattle.session.specs.Reading.{Good, own, digest_of, Loads, needed, Starting}
use Rattle.head.specs.Answers as head
use Rattle.head.specs.Answers.{Report, reports_whole}
use Rattle.session.specs.Session.{Reset, begun, AsksClient, Admitted, Loan, Entry, gathers, acts, Session, ram_len, all_of}
use Rattle.session.specs.Boot.{Started}
use Rattle.diagnosis.specs.Reasons.{Reason, refused, stopped, unfinished, waiting, missing, started, reason_of, number_of}
use Rattle.diagnosis.specs.Calls.{missing_in, diagnose_call}
use Rattle.diagnosis.specs.declared.Finding.{Finding}
use Rattle.diagnosis.specs.declared.Refusal.{Refusal}
use Rattle.diagnosis.specs.Monitor as monitor
use Rattle.diagnosis.specs.Monitor.{Monitor, heard, heard_part, diagnosis}
use Rattle.reasons.specs.Meaning.{Holds}
use Rattle.reasons.specs.Examples.{Told, examples}

-- the reason that a diagnosis tells
abbrev pub reason_for : List ℕ → ℕ → List ℕ → Reason
reason_for rec m bytes = (diagnosis rec m bytes).reason

-- the head goes on
abbrev pub goes_on : Reason → Bool
goes_on (refused k) = false
goes_on (stopped k i) = false
goes_on unfinished = true
goes_on waiting = true
goes_on (missing n) = true
goes_on started = false

-- where byte i stands: at this offset, from 0 for the header, of the frame with this number, from 1, those for other endpoints counted
pub record Stands (bytes : List ℕ) (i frame offset : ℕ) : Type 0 where
  -- whole good frames, and the bytes of the frame up to byte i
  pub before : List (List ℕ)
  pub part : List ℕ
  pub rest : List ℕ
  pub reads : bytes ≡ flatten before ++ (part ++ rest)
  pub all_good : All Good before
  pub one_frame : length part ≤ 1 + body_len (header_at (get_or part 0 0))
  pub place : i ≡ length (flatten before ++ part)
  pub number : frame ≡ length before + 1
  pub offset_is : offset + 1 ≡ length part

-- a program was measured
abbrev pub is_measured : Reason → Bool
is_measured (refused k) = false
is_measured (stopped k i) = eqb k 25
is_measured unfinished = false
is_measured waiting = false
is_measured (missing n) = false
is_measured started = true

-- ---- the session of change request 13

-- nothing that is lent to an acting is refused
pub record Fits (m : ℕ) (l : Loan) : Type 0 where
  pub room : 129 ≤ length l.room
  pub ram : length l.ram ≡ m
  pub uds : length l.uds ≡ 8

-- if a frame is whole, then an acting comes next, and after it calls of which P holds; otherwise P holds of the calls
abbrev pub Next : ℕ → Bool → (List Entry → Type 0) → List Entry → Type 0
Next m false P es = P es
Next m true P [] = ⊥
Next m true P (gathers b g ∷ es) = ⊥
Next m true P (acts l o ∷ es) = Fits m l × P es

-- these calls gather these bytes in order, and act at once on each whole frame
abbrev pub Hears : ℕ → List ℕ → List Entry → Type 0
Hears m [] [] = Unit {0}
Hears m [] (e ∷ es) = ⊥
Hears m (b ∷ bs) [] = ⊥
Hears m (b ∷ bs) (acts l o ∷ es) = ⊥
Hears m (b ∷ bs) (gathers c g ∷ es) = (c ≡ b) × Next m (reports_whole g.report) (Hears m bs) es

-- the stop or start that a call answered, as a reason, where i bytes were gathered by then
abbrev pub end_at : Report → ℕ → List Reason
end_at (head.refused k) i = []
end_at head.continues i = []
end_at head.whole i = []
end_at (head.stopped k) i = stopped k i ∷ []
end_at (head.started address size) i = started ∷ []

-- every one that these calls answered, where i bytes were gathered before them
abbrev pub ends_of : ℕ → List Entry → List Reason
ends_of i [] = []
ends_of i (gathers b g ∷ es) = end_at g.report (i + 1) ++ ends_of (i + 1) es
ends_of i (acts l o ∷ es) = end_at o.report i ++ ends_of i es

-- a stop or a start is the one end of a session, and every other reason is that of one without
abbrev pub end_in : Reason → List Reason
end_in (refused k) = []
end_in (stopped k i) = stopped k i ∷ []
end_in unfinished = []
end_in waiting = []
end_in (missing n) = []
end_in started = started ∷ []

-- a session on this reset that hears these bytes, with this RAM at its first acting
pub record SessionHearing (R : Reset) (ram bytes : List ℕ) : Type 0 where
  pub session : Session
  pub same_reset : session.reset ≡ R
  pub same_ram : session.ram ≡ ram
  pub hears : Hears (ram_len session) bytes (all_of session)

pub record Diagnoses : Type 0 where
  -- the reason is true of the bytes, and no other reason is
  pub holds : (rec : List ℕ) (m : ℕ) (bytes : List ℕ) → Holds rec m bytes (reason_for rec m bytes)
  pub only : (rec : List ℕ) (m : ℕ) (bytes : List ℕ) (r : Reason) → Holds rec m bytes r → r ≡ reason_for rec m bytes
  -- it is what the head did: of the calls of a session that hears these bytes, with whatever room, RAM, UDI and UDS, just that stop or start was
  -- answered, the stop by gathering byte i or by the acting at once after it; and none was where the reason is another
  pub did : (S : Session) (bytes : List ℕ) → Hears (ram_len S) bytes (all_of S)
      → ends_of 0 (all_of S) ≡ end_in (reason_for S.reset.rec (ram_len S) bytes)
  pub starts : (S : Session) (bytes : List ℕ) → Hears (ram_len S) bytes (all_of S)
      → (reason_for S.reset.rec (ram_len S) bytes ≡ started) ↔ Started S
  -- stop 20 comes at begin
  pub begins : (R : Reset) (bytes : List ℕ) → Admitted R
      → ((begun R).report ≡ head.stopped 20) ↔ (reason_for R.rec (length R.ram) bytes ≡ stopped 20 0)
  -- there are such sessions for all bytes, RAM and UDS, on every reset that asks for a client program, and there is a reset for each record and RAM
  -- length that 6 and 7 do not refuse
  pub exists : (R : Reset) (ram uds bytes : List ℕ) → Admitted R → AsksClient R → length ram ≡ length R.ram → length uds ≡ 8 → Words uds
      → SessionHearing R ram bytes
  pub resets : (rec : List ℕ) (m : ℕ) → length rec ≡ 256 → 1 ≤ m → m ≤ 131072 → (R : Reset) × (R.rec ≡ rec) × (length R.ram ≡ m) × Admitted R
  -- byte i of a stop is the last that was read, and so is the last byte of a start
  pub stop_byte : (rec : List ℕ) (m : ℕ) (bytes : List ℕ) (k i : ℕ) → reason_for rec m bytes ≡ stopped k i → (diagnosis rec m bytes).byte ≡ i
  pub start_byte : (rec : List ℕ) (m : ℕ) (bytes : List ℕ) → reason_for rec m bytes ≡ started → Starting rec [] m (take (diagnosis rec m bytes).byte bytes)
  -- no byte before it gave a stop or a start
  pub first : (rec : List ℕ) (m : ℕ) (bytes : List ℕ) (j : ℕ) → j < (diagnosis rec m bytes).byte → goes_on (reason_for rec m (take j bytes)) ≡ true
  -- and no byte after a stop or a start matters
  pub rest : (rec : List ℕ) (m : ℕ) (bytes others : List ℕ) → goes_on (reason_for rec m bytes) ≡ false
      → diagnosis rec m (take (diagnosis rec m bytes).byte bytes ++ others) ≡ diagnosis rec m bytes
  -- where the head goes on, all bytes were read
  pub all_read : (rec : List ℕ) (m : ℕ) (bytes : List ℕ) → goes_on (reason_for rec m bytes) ≡ true → (diagnosis rec m bytes).byte ≡ length bytes
  -- the last byte that was read stands where the diagnosis says; where none was, there is no place
  pub before_any : (rec : List ℕ) (m : ℕ) (bytes : List ℕ) → let d = diagnosis rec m bytes in d.byte ≡ 0 → (d.frame ≡ 0) × (d.offset ≡ 0)
  pub stands : (rec : List ℕ) (m : ℕ) (bytes : List ℕ) → let d = diagnosis rec m bytes in 1 ≤ d.byte → Stands bytes d.byte d.frame d.offset
  -- the digest, at a start and at stop 25, is that of the program which the bytes carry, however they are read as whole good frames with all of it
  pub measured : (rec : List ℕ) (m : ℕ) (bytes : List ℕ) → is_measured (reason_for rec m bytes) ≡ true
      → (fs : List (List ℕ)) (rest : List ℕ) → bytes ≡ flatten fs ++ rest → All Good fs → (l : Loads m (own fs)) → length l.blocks ≡ needed l
      → (diagnosis rec m bytes).digest ≡ digest_of l.load l.blocks
  -- and otherwise zeros
  pub unmeasured : (rec : List ℕ) (m : ℕ) (bytes : List ℕ) → is_measured (reason_for rec m bytes) ≡ false → (diagnosis rec m bytes).digest ≡ zeros 32
  -- bytes may be told in parts, and the counts have room for 2^64 - 1 of them
  pub parts : (w : Monitor) (xs ys : List ℕ) → heard w (xs ++ ys) ≡ heard (heard w xs) ys
  pub room : (rec : List ℕ) (m : ℕ) (xs ys : List ℕ) → length xs + length ys < 2 ^ 64
      → heard_part (heard (monitor.begun rec m) xs) ys ≡ record { taken = true; monitor = heard (monitor.begun rec m) (xs ++ ys) }
  -- what a C program is given tells the findings apart, and a call that answers the number of a refusal leaves what it was lent
  pub answers : (f g : Result Finding Refusal) (i : ℕ) → number_of (reason_of f i) ≡ number_of (reason_of g i) → missing_in (reason_of f i) ≡ missing_in (reason_of g i) → f ≡ g
  pub kept : (rec : List ℕ) (m : ℕ) (bytes counts digest : List ℕ) → let c = diagnose_call rec m bytes counts digest in
      (c.answer ≡ 6) ⊎ ((c.answer ≡ 7) ⊎ (c.answer ≡ 48)) → (c.counts ≡ counts) × (c.digest ≡ digest)
  -- each reason comes up
  pub comes_up : All Told examples
