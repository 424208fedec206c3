-- A monitor, byte by byte: change request 13. The head's own gathering (`gathered`) and table of commands (`request_of`), and what acting does but for
-- replies, CDI and RAM: the bytes that blocks carry are hashed in parts. What comes of it is said by demand 3's reading in the crate `reasons`.
use Rattle.std.specs.Prelude.{ℕ, ◌+◌, ◌-◌, ◌^◌, Bool, true, false, not, cond, ◌&&◌, List, [], ◌∷◌, eqb, ltb, length, take, Result, Ok, Err}
use Rattle.endian.specs.Lists.{zeros}
use Rattle.blake2s.specs.Stream.{begin_context, update_context, finish_output}
use Rattle.blake2s.specs.declared.Context.{Context}
use Rattle.protocol.specs.Commands.{length_ok, blocks_for, carried_by, count_in, is_last}
use Rattle.record.specs.Record.{Contents, record_at}
use Rattle.record.specs.Types.{Source, slot0, slot1, client, unknown, source_of}
use Rattle.head.specs.State.{idle, ended}
use Rattle.head.specs.Answers.{Report, refused, continues, whole, stopped, started, stop_number}
use Rattle.head.specs.Start.{allowed}
use Rattle.head.specs.Begin.{config_of, waiting}
use Rattle.head.specs.Gather.{gathered}
use Rattle.head.specs.Act.{Request, asks_name, asks_udi, gives_load, gives_block, halts, request_of, frame_in, between, load_of, takes, loaded, next_block}
use Rattle.head.specs.declared.Phase.{Phase}
use Rattle.head.specs.declared.Phase.TheVariants as phase
use Rattle.head.specs.declared.Progress.{Progress}
use Rattle.head.specs.declared.State.{State}
use Rattle.head.specs.declared.Stop.{Stop}
use Rattle.head.specs.declared.Stop.TheVariants.{UnknownType, HeaderBit, Command, BodyLength, Digest}
use Rattle.diagnosis.specs.Reasons.{Reason, Explained, refusal_number}
use Rattle.diagnosis.specs.Reasons as reason
use Rattle.diagnosis.specs.declared.Refusal.TheVariants.{RecordLength, RamSize, FromFlash}
use Rattle.diagnosis.specs.declared.Refusal.{Refusal}
use Rattle.diagnosis.specs.declared.Position.{Position}
use Rattle.diagnosis.specs.declared.TooLong.{TooLong}
use Rattle.diagnosis.specs.declared.Verdict as code
use Rattle.diagnosis.specs.declared.Verdict.TheVariants as verdict
use Rattle.diagnosis.specs.declared.Monitor as code_monitor

-- ---- a monitor, one of a refused beginning among them

-- what has come of the bytes so far
pub data Verdict : Type 0 where
  Open : Verdict
  Refused : Refusal → Verdict
  Stopped : Stop → Verdict
  Started : Verdict

pub record Monitor : Type 0 where
  pub head : State
  pub hash : Context
  pub position : Position
  pub verdict : Verdict
  pub digest : List ℕ

-- a monitor that was told a part, and whether the part was taken
pub record Heard : Type 0 where
  pub taken : Bool
  pub monitor : Monitor

-- those of the code
abbrev pub verdict_of : code.Verdict → Verdict
verdict_of verdict.Open = Open
verdict_of (verdict.Stopped s) = Stopped s
verdict_of verdict.Started = Started

abbrev pub monitor_of : code_monitor.Monitor → Monitor
monitor_of w = record { head = w.head; hash = w.hash; position = w.position; verdict = verdict_of w.verdict; digest = w.digest }

abbrev pub heard_of : Result (Unit {0}) TooLong → Monitor → Heard
heard_of (Ok _) w = record { taken = true; monitor = w }
heard_of (Err _) w = record { taken = false; monitor = w }

-- ---- the beginning

abbrev pub nowhere : Position
nowhere = record { byte = 0; frame = 0; offset = 0 }

-- BLAKE2s-256, of nothing yet
abbrev pub fresh_hash : Context
fresh_hash = begin_context [] 32

-- a monitor that hears nothing, in the state of a head whose begin was refused, and one that waits for a load
unfoldable pub closed : Verdict → Monitor
closed v = record { head = ended phase.Stopped 1; hash = fresh_hash; position = nowhere; verdict = v; digest = zeros 32 }

unfoldable pub opened : Contents → ℕ → Monitor
opened r m =
    record {
      head = record { incoming = idle; config = config_of r (zeros 8) (zeros 32) m; progress = waiting };
      hash = fresh_hash;
      position = nowhere;
      verdict = Open;
      digest = zeros 32;
    }

-- a refused beginning gives no monitor: the one here hears nothing
abbrev pub begun_of : Result code_monitor.Monitor Refusal → Monitor
begun_of (Ok w) = monitor_of w
begun_of (Err r) = closed (Refused r)

-- types 0 to 3 have a program from flash, which no cable carries: 48
abbrev pub by_source : Source → Contents → ℕ → Monitor
by_source slot0 r m = closed (Refused FromFlash)
by_source slot1 r m = closed (Refused FromFlash)
by_source client r m = opened r m
by_source unknown r m = closed (Stopped UnknownType)

-- refusals 6 and 7 as at begin, the lowest first
unfoldable pub begun : List ℕ → ℕ → Monitor
begun rec m =
    cond (not (eqb (length rec) 256)) (closed (Refused RecordLength))
    (cond (not (length_ok m)) (closed (Refused RamSize))
    (by_source (source_of (record_at rec).type) (record_at rec) m))

-- ---- a whole frame for the firmware

-- the head has started or stopped
abbrev pub ruled : Monitor → Verdict → Monitor
ruled w v = record { head = w.head; hash = w.hash; position = w.position; verdict = v; digest = w.digest }

-- it goes on, with the load as far as this
abbrev pub onward : Monitor → Progress → Context → Monitor
onward w p c = record { head = between w.head p; hash = c; position = w.position; verdict = w.verdict; digest = w.digest }

unfoldable pub load_heard : Monitor → Monitor
load_heard w =
    cond (takes w.head) (onward w (loaded (load_of w.head)) fresh_hash) (onward w w.head.progress w.hash)

-- all of the program has come, and has the digest d
abbrev pub measured : Monitor → List ℕ → Monitor
measured w d =
    record {
      head = w.head;
      hash = w.hash;
      position = w.position;
      verdict = cond (allowed w.head.config d) Started (Stopped Digest);
      digest = d;
    }

-- the program bytes that the block carries, and no padding
abbrev pub carried_in : State → List ℕ
carried_in s = take (count_in s.progress.size s.progress.block) (carried_by (frame_in s))

unfoldable pub block_heard : Monitor → Monitor
block_heard w =
    let p = w.head.progress in
    let c = update_context w.hash (carried_in w.head) in
    cond (is_last p.size p.block) (measured w (finish_output c (zeros 32))) (onward w (next_block p) c)

-- stop 23 or 24
abbrev pub stop_of : ℕ → Stop
stop_of k = cond (eqb k 23) Command BodyLength

abbrev pub frame_heard : Request → Monitor → Monitor
frame_heard asks_name w = onward w w.head.progress w.hash
frame_heard asks_udi w = onward w w.head.progress w.hash
frame_heard gives_load w = load_heard w
frame_heard gives_block w = block_heard w
frame_heard (halts k) w = ruled w (Stopped (stop_of k))

-- ---- a byte

-- the next byte's number is one more; got bytes of its frame came before it
abbrev pub position_after : Position → ℕ → Position
position_after p got = record { byte = p.byte + 1; frame = cond (eqb got 0) (p.frame + 1) p.frame; offset = got }

-- a byte was read, and the head is in the state s
abbrev pub moved : Monitor → State → Monitor
moved w s =
    record {
      head = s;
      hash = w.hash;
      position = position_after w.position w.head.incoming.got;
      verdict = w.verdict;
      digest = w.digest;
    }

-- what gathering it answers; each whole frame is acted on at once. A gathering answers no start
abbrev pub by_report : Report → State → Monitor → Monitor
by_report (refused k) s w = w
by_report continues s w = moved w s
by_report whole s w = frame_heard (request_of s) (moved w s)
by_report (stopped k) s w = ruled (moved w w.head) (Stopped HeaderBit)
by_report (started address size) s w = w

abbrev pub is_open : Verdict → Bool
is_open Open = true
is_open (Refused r) = false
is_open (Stopped s) = false
is_open Started = false

-- no byte is read after a start or a stop
unfoldable pub heard_byte : Monitor → ℕ → Monitor
heard_byte w b =
    let g = gathered w.head b in
    cond (is_open w.verdict) (by_report g.report g.state w) w

unfoldable pub heard : Monitor → List ℕ → Monitor
heard w [] = w
heard w (b ∷ bs) = heard (heard_byte w b) bs

-- the counts of bytes and frames have 64 bits, and each byte may add one to both
abbrev pub counts_to : Position → ℕ → Bool
counts_to p n = ltb (p.byte + n) (2 ^ 64) && ltb (p.frame + n) (2 ^ 64)

unfoldable pub has_room : Monitor → ℕ → Bool
has_room w n = counts_to w.position n

-- a part that is not taken changes nothing
unfoldable pub heard_part : Monitor → List ℕ → Heard
heard_part w part =
    let t = has_room w (length part) in
    record { taken = t; monitor = cond t (heard w part) w }

-- ---- what is found

-- while the head goes on: an unfinished frame comes before the other two. Its phase is then one of the first two
abbrev pub by_phase : Phase → Progress → Reason
by_phase phase.Waiting p = reason.waiting
by_phase phase.Loading p = reason.missing (blocks_for p.size - p.block)
by_phase phase.Started p = reason.waiting
by_phase phase.Stopped p = reason.waiting

abbrev pub open_reason : State → Reason
open_reason s = cond (eqb s.incoming.got 0) (by_phase s.progress.phase s.progress) reason.unfinished

abbrev pub by_verdict : Verdict → State → ℕ → Reason
by_verdict Open s i = open_reason s
by_verdict (Refused r) s i = reason.refused (refusal_number r)
by_verdict (Stopped k) s i = reason.stopped (stop_number k) i
by_verdict Started s i = reason.started

unfoldable pub explained : Monitor → Explained
explained w =
    record {
      reason = by_verdict w.verdict w.head w.position.byte;
      byte = w.position.byte;
      frame = w.position.frame;
      offset = w.position.offset;
      digest = w.digest;
    }

-- why the loom did not start that has this record and a RAM of m bytes, and has heard these bytes
unfoldable pub diagnosis : List ℕ → ℕ → List ℕ → Explained
diagnosis rec m bytes = explained (heard (begun rec m) bytes)
