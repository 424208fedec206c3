-- A reset and a session: an accepted begin, then calls of `gather` and `act` one after another, in any order. The definitions are those that the
-- promises of `begin`, `gather` and `act` cite (`beginning`, `gathered`, `acted`).
use Rattle.std.specs.Prelude.{ℕ, ◌≤◌, ◌≡◌, ◌⊎◌, Bool, true, false, not, cond, ◌||◌, List, [], ◌∷◌, ◌++◌, eqb, ltb, length, take}
use Rattle.endian.specs.Lists.{Words}
use Rattle.head.specs.Answers.{Report, refused, continues, whole, stopped, started, reports_whole, Gathering, Result, Outcome}
use Rattle.head.specs.Begin.{Flash, beginning}
use Rattle.head.specs.Gather.{gathered}
use Rattle.head.specs.Act.{acted}
use Rattle.head.specs.declared.State.{State}
use Rattle.session.specs.Reading.{type_of}

-- what begin gets: the record, the UDI, two slots with their sizes and the built-in digest, RAM and UDS. That a word of the UDS has 32 bits is its
-- type in the code
pub record Reset : Type 0 where
  pub rec : List ℕ
  pub udi : List ℕ
  pub flash : Flash
  pub ram : List ℕ
  pub uds : List ℕ
  pub typed : Words uds

abbrev pub begun : Reset → Result
begun R = beginning R.rec R.udi R.flash R.ram R.uds

-- it asks for a program from flash, or for a client program
abbrev pub AsksFlash : Reset → Type 0
AsksFlash R = type_of R.rec ≤ 3

abbrev pub AsksClient : Reset → Type 0
AsksClient R = (type_of R.rec ≡ 4) ⊎ (type_of R.rec ≡ 5)

-- none of begin's refusals applies: 5, 6 and 7
pub record Admitted (R : Reset) : Type 0 where
  pub eight : length R.uds ≡ 8
  pub record_length : length R.rec ≡ 256
  pub ram_some : 1 ≤ length R.ram
  pub ram_small : length R.ram ≤ 131072

-- what is lent to an acting: reply room, RAM and UDS may be anything. That a word of the UDS has 32 bits is its type in the code
pub record Loan : Type 0 where
  pub room : List ℕ
  pub ram : List ℕ
  pub uds : List ℕ
  pub words : Words uds

-- what a call gets besides the state: a gathering a byte, which may be anything, and an acting what is lent to it
pub data Call : Type 0 where
  gather : ℕ → Call
  act : Loan → Call

-- a call and what came of it
pub data Entry : Type 0 where
  gathers : ℕ → Gathering → Entry
  acts : Loan → Outcome → Entry

abbrev pub entry_of : State → Call → Entry
entry_of s (gather b) = gathers b (gathered s b)
entry_of s (act l) = acts l (acted s l.room l.ram l.uds)

abbrev pub call_of : Entry → Call
call_of (gathers b o) = gather b
call_of (acts l o) = act l

abbrev pub report_in : Entry → Report
report_in (gathers b o) = o.report
report_in (acts l o) = o.report

abbrev pub state_after : Entry → State
state_after (gathers b o) = o.state
state_after (acts l o) = o.state

-- e is one of these calls
pub record Among (e : Entry) (es : List Entry) : Type 0 where
  pub before : List Entry
  pub after : List Entry
  pub place : es ≡ before ++ e ∷ after

-- each call gets the state that the one before it handed back
abbrev pub log : State → List Call → List Entry
log s [] = []
log s (c ∷ cs) = entry_of s c ∷ log (state_after (entry_of s c)) cs

-- a call is accepted when it answers no number of refusal
abbrev pub is_accepted : Report → Bool
is_accepted (refused k) = false
is_accepted continues = true
is_accepted whole = true
is_accepted (stopped k) = true
is_accepted (started address size) = true

abbrev pub accepted : List Entry → List Entry
accepted [] = []
accepted (e ∷ es) = cond (is_accepted (report_in e)) (e ∷ accepted es) (accepted es)

-- the bytes that were gathered
abbrev pub gathered_bytes : List Entry → List ℕ
gathered_bytes [] = []
gathered_bytes (gathers b o ∷ es) = b ∷ gathered_bytes es
gathered_bytes (acts l o ∷ es) = gathered_bytes es

-- and those of the replies, which each acting leaves at the front of its room
abbrev pub replies_of : List Entry → List ℕ
replies_of [] = []
replies_of (gathers b o ∷ es) = replies_of es
replies_of (acts l o ∷ es) = take o.reply o.room ++ replies_of es

-- the RAM of the first acting holds r, and that of each later one what the acting before it left
abbrev pub OneRam : List ℕ → List Entry → Type 0
OneRam r [] = Unit {0}
OneRam r (gathers b o ∷ es) = OneRam r es
OneRam r (acts l o ∷ es) = (l.ram ≡ r) × OneRam o.ram es

pub record Session : Type 0 where
  -- an accepted begin on a record of type 4 or 5. What it was lent and given besides record and UDI may be anything, and need not be what the
  -- later calls are lent
  pub reset : Reset
  pub begins : is_accepted (begun reset).report ≡ true
  pub client : AsksClient reset
  -- the calls, of which the first gets begin's state, and the bytes in RAM at the first accepted acting
  pub calls : List Call
  pub ram : List ℕ
  pub one_ram : OneRam ram (accepted (log (begun reset).state calls))

-- the RAM's length at begin
abbrev pub ram_len : Session → ℕ
ram_len S = length S.reset.ram

-- every call of the list, and those that were accepted
abbrev pub all_of : Session → List Entry
all_of S = log (begun S.reset).state S.calls

abbrev pub accepted_of : Session → List Entry
accepted_of S = accepted (all_of S)

-- an accepted call answered a start or a stop
abbrev pub is_end : Report → Bool
is_end (refused k) = false
is_end continues = false
is_end whole = false
is_end (stopped k) = true
is_end (started address size) = true

abbrev pub has_ended : List Entry → Bool
has_ended [] = false
has_ended (e ∷ es) = is_end (report_in e) || has_ended es

-- p holds of the last of these calls; false if there is none
abbrev pub last_is : (Entry → Bool) → List Entry → Bool
last_is p [] = false
last_is p (e ∷ []) = p e
last_is p (e ∷ x ∷ es) = last_is p (x ∷ es)

abbrev pub is_acting : Entry → Bool
is_acting (gathers b o) = false
is_acting (acts l o) = true

-- a gathering that answered whole
abbrev pub completes : Entry → Bool
completes (gathers b o) = reports_whole o.report
completes (acts l o) = false

-- a frame is whole after these calls: the last accepted one was a gathering that answered whole
abbrev pub frame_is_whole : List Entry → Bool
frame_is_whole es = last_is completes (accepted es)

-- the table of refused calls in the words of a session, 0 for a call that is not refused: whether the head has ended, whether a frame is whole,
-- the RAM's length at begin, and the call. Number 1 is not in it: no state reached from a begin is out of range (specs/Ranges.antt)
abbrev pub refusal_in : Bool → Bool → ℕ → Call → ℕ
refusal_in ended wholeFrame m (gather b) = cond ended 2 (cond wholeFrame 47 0)
refusal_in ended wholeFrame m (act l) =
    cond ended 2
    (cond (not wholeFrame) 47
    (cond (ltb (length l.room) 129) 3
    (cond (not (eqb (length l.ram) m)) 4
    (cond (not (eqb (length l.uds) 8)) 5 0))))
