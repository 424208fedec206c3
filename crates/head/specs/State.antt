-- The state of a head between two calls, and the range of each field: refusal 1 of document 01, docs/STATES.md. Its parts and their fields:
-- incoming, the frame that is being gathered or is whole: header, got (how many of its bytes have come, the header among them), body;
-- config, what begin fixed: ram_len, measured_id, udi, digests (the allowed ones: first, second and has_second, which for types 4 and 5 is mask
-- bit 1 as it came), verify, chained;
-- progress, how far the load is: phase, size, block (the number of the next), uss_used, uss.
use Rattle.std.specs.Prelude.{ℕ, ◌+◌, Bool, true, false, cond, ◌&&◌, ◌||◌, eqb, leb, ltb}
use Rattle.endian.specs.Lists.{zeros}
use Rattle.framing.specs.Header.{Reading, good, stop, header_at, body_len}
use Rattle.record.specs.Types.{alone}
use Rattle.protocol.specs.Commands.{firmware, length_ok, blocks_for}
use Rattle.head.specs.declared.Phase.{Phase}
use Rattle.head.specs.declared.Phase.TheVariants.{Waiting, Loading, Started, Stopped}
use Rattle.head.specs.declared.Incoming.{Incoming}
use Rattle.head.specs.declared.Progress.{Progress}
use Rattle.head.specs.declared.State.{State}

-- a frame for the firmware is whole when all of its body is there; got counts the header. One for another endpoint never is
abbrev pub whole_by : Reading → ℕ → Bool
whole_by (good id ep n) got = eqb ep firmware && eqb got (n + 1)
whole_by (stop k) got = false

abbrev pub is_whole : Incoming → Bool
is_whole i = whole_by (header_at i.header) i.got

-- between frames header and got are 0; in a frame the header is good, and got is at most its body's length, or one more where it is whole
abbrev pub frame_ok : ℕ → ℕ → Bool
frame_ok header got = cond (eqb got 0) (eqb header 0) (leb got (body_len (header_at header)) || whole_by (header_at header) got)

abbrev pub incoming_ok : Incoming → Bool
incoming_ok i = frame_ok i.header i.got

-- while loading the size n is good for a RAM of m bytes, and block k is one of the program's
abbrev pub load_ok : ℕ → ℕ → ℕ → Bool
load_ok n k m = leb 1 n && (leb n m && ltb k (blocks_for n))

abbrev pub loading_ok : Progress → ℕ → Bool
loading_ok p m = load_ok p.size p.block m

-- while waiting nothing of a load is read, so any of it is in range
abbrev pub progress_in : Phase → Progress → ℕ → Bool
progress_in Waiting p m = true
progress_in Loading p m = loading_ok p m
progress_in Started p m = true
progress_in Stopped p m = true

abbrev pub progress_ok : Progress → ℕ → Bool
progress_ok p m = progress_in p.phase p m

-- each field is in its range
unfoldable pub in_range : State → Bool
in_range s = length_ok s.config.ram_len && (incoming_ok s.incoming && progress_ok s.progress s.config.ram_len)

-- the head has neither started nor stopped
abbrev pub live : Phase → Bool
live Waiting = true
live Loading = true
live Started = false
live Stopped = false

-- no frame is being gathered, and none is whole
abbrev pub idle : Incoming
idle = record { header = 0; got = 0; body = zeros 128 }

-- a program of n bytes, no block of which has come, and no user secret
abbrev pub of_size : Phase → ℕ → Progress
of_size p n = record { phase = p; size = n; block = 0; uss_used = false; uss = zeros 32 }

-- the state after a start or a stop: the phase and the RAM's length, and zeros
unfoldable pub ended : Phase → ℕ → State
ended p m =
    record {
      incoming = idle;
      config = record { ram_len = m; measured_id = zeros 32; udi = zeros 8; digests = alone (zeros 32); verify = false; chained = false };
      progress = of_size p 0;
    }
