-- What a call reports and settles: document 01, "Numbers of refused calls and of stops", 47 of change request 8 and 26 of change request 3.
use Rattle.std.specs.Prelude.{ℕ, Bool, true, false, List, Ok, Err}
use Rattle.std.specs.Prelude.{Result as Tried}
use Rattle.endian.specs.Lists.{zeros}
use Rattle.head.specs.State.{ended}
use Rattle.head.specs.declared.Phase.TheVariants as phase
use Rattle.head.specs.declared.Refusal.{Refusal}
use Rattle.head.specs.declared.Refusal.TheVariants.{StateRange, Ended, ReplyRoom, RamLength, SecretLength, RecordLength, RamSize, OutOfTurn}
use Rattle.head.specs.declared.Stop.{Stop}
use Rattle.head.specs.declared.Stop.TheVariants.{UnknownType, HeaderBit, Command, BodyLength, Digest, ProgramSize}
use Rattle.head.specs.declared.Answer.{Answer}
use Rattle.head.specs.declared.Answer.TheVariants.{Continue, Whole, Stopped, Started}
use Rattle.head.specs.declared.State.{State}
use Rattle.head.specs.declared.Step.{Step}
use Rattle.head.specs.declared.Acted.{Acted}

-- the number of each refusal and of each stop
abbrev pub refusal_number : Refusal → ℕ
refusal_number StateRange = 1
refusal_number Ended = 2
refusal_number ReplyRoom = 3
refusal_number RamLength = 4
refusal_number SecretLength = 5
refusal_number RecordLength = 6
refusal_number RamSize = 7
refusal_number OutOfTurn = 47

abbrev pub stop_number : Stop → ℕ
stop_number UnknownType = 20
stop_number HeaderBit = 22
stop_number Command = 23
stop_number BodyLength = 24
stop_number Digest = 25
stop_number ProgramSize = 26

-- whether a call is admitted: 0, or the number of its refusal
abbrev pub admission_number : Tried (Unit {0}) Refusal → ℕ
admission_number (Ok _) = 0
admission_number (Err r) = refusal_number r

pub data Report : Type 0 where
  -- the number of the refusal
  refused : ℕ → Report
  -- the record or the byte is taken, or the frame was acted on, and the session goes on
  continues : Report
  -- the byte is taken, and with it a frame for the firmware is whole
  whole : Report
  -- the number of the stop
  stopped : ℕ → Report
  -- the program's address and size
  started : ℕ → ℕ → Report

-- a frame is whole
abbrev pub reports_whole : Report → Bool
reports_whole (refused k) = false
reports_whole continues = false
reports_whole whole = true
reports_whole (stopped k) = false
reports_whole (started address size) = false

abbrev pub report_of : Answer → Report
report_of Continue = continues
report_of Whole = whole
report_of (Stopped s) = stopped (stop_number s)
report_of (Started x) = started x.address x.size

-- what a call reports, refused or not
abbrev pub reported : Tried Answer Refusal → Report
reported (Ok a) = report_of a
reported (Err r) = refused (refusal_number r)

-- the CDI and the program's digest at a start; otherwise zeros
abbrev pub cdi_in : Answer → List ℕ
cdi_in Continue = zeros 32
cdi_in Whole = zeros 32
cdi_in (Stopped s) = zeros 32
cdi_in (Started x) = x.cdi

abbrev pub digest_in : Answer → List ℕ
digest_in Continue = zeros 32
digest_in Whole = zeros 32
digest_in (Stopped s) = zeros 32
digest_in (Started x) = x.digest

-- the CDI that a call gives: zeros where it is refused, too
abbrev pub cdi_given : Tried Answer Refusal → List ℕ
cdi_given (Ok a) = cdi_in a
cdi_given (Err r) = zeros 32

-- all that gathering a byte settles: the report and the next state
pub record Gathering : Type 0 where
  pub report : Report
  pub state : State

abbrev pub gathering_in : Step → Gathering
gathering_in x = record { report = report_of x.answer; state = x.state }

-- a refused call changes nothing
abbrev pub gathering_of : Tried Step Refusal → State → Gathering
gathering_of (Ok x) s = gathering_in x
gathering_of (Err r) s = record { report = refused (refusal_number r); state = s }

-- all that begin settles: the report, the state that the first call gets, CDI and digest, and what RAM and the UDS then hold
pub record Result : Type 0 where
  pub report : Report
  pub state : State
  pub cdi : List ℕ
  pub digest : List ℕ
  pub ram : List ℕ
  pub uds : List ℕ

abbrev pub result_in : Step → List ℕ → List ℕ → Result
result_in x ram uds = record { report = report_of x.answer; state = x.state; cdi = cdi_in x.answer; digest = digest_in x.answer; ram = ram; uds = uds }

-- a refused begin gives no state: the one here is that of an end, with a RAM of one byte
abbrev pub result_of : Tried Step Refusal → List ℕ → List ℕ → Result
result_of (Ok x) ram uds = result_in x ram uds
result_of (Err r) ram uds =
    record { report = refused (refusal_number r); state = ended phase.Stopped 1; cdi = zeros 32; digest = zeros 32; ram = ram; uds = uds }

-- all that acting on a frame settles: the same, how many bytes of the reply room are a reply, and what the room then holds
pub record Outcome : Type 0 where
  pub report : Report
  pub reply : ℕ
  pub state : State
  pub cdi : List ℕ
  pub digest : List ℕ
  pub room : List ℕ
  pub ram : List ℕ
  pub uds : List ℕ

-- a result with a reply of n bytes in the room
abbrev pub replied : ℕ → List ℕ → Result → Outcome
replied n room x =
    record {
      report = x.report;
      reply = n;
      state = x.state;
      cdi = x.cdi;
      digest = x.digest;
      room = room;
      ram = x.ram;
      uds = x.uds;
    }

-- what an outcome is without its reply
abbrev pub unreplied : Outcome → Result
unreplied o = record { report = o.report; state = o.state; cdi = o.cdi; digest = o.digest; ram = o.ram; uds = o.uds }

abbrev pub outcome_in : Acted → List ℕ → List ℕ → List ℕ → Outcome
outcome_in r room ram uds =
    record {
      report = report_of r.answer;
      reply = r.reply;
      state = r.state;
      cdi = cdi_in r.answer;
      digest = digest_in r.answer;
      room = room;
      ram = ram;
      uds = uds;
    }

-- a refused call changes nothing, and has no reply
abbrev pub outcome : Tried Acted Refusal → State → List ℕ → List ℕ → List ℕ → Outcome
outcome (Ok r) s room ram uds = outcome_in r room ram uds
outcome (Err r) s room ram uds =
    record {
      report = refused (refusal_number r);
      reply = 0;
      state = s;
      cdi = zeros 32;
      digest = zeros 32;
      room = room;
      ram = ram;
      uds = uds;
    }
