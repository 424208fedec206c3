-- Gathering a byte, the first of the two calls that change request 8 makes of document 01's hearing: "Header byte", refusals 1, 2 and 47, stop 22.
use Rattle.std.specs.Prelude.{ℕ, ◌+◌, ◌-◌, not, cond, ◌&&◌, eqb, set}
use Rattle.framing.specs.Header.{Reading, good, stop, header_at}
use Rattle.protocol.specs.Commands.{firmware}
use Rattle.head.specs.State.{is_whole, in_range, live, idle, ended}
use Rattle.head.specs.Answers.{refused, continues, whole, stopped, Gathering}
use Rattle.head.specs.declared.Phase.TheVariants as phase
use Rattle.head.specs.declared.Incoming.{Incoming}
use Rattle.head.specs.declared.State.{State}

-- what a byte leads to
pub data Step : Type 0 where
  -- it is taken: the frame so far, or none (`idle`) after the last byte of one for another endpoint
  taken : Incoming → Step
  -- a header with bit 7 or bit 2 set
  bad : Step

-- a header, whatever its endpoint
abbrev pub opened : Reading → Incoming → ℕ → Step
opened (good id ep n) i b = taken (record { header = b; got = 1; body = i.body })
opened (stop k) i b = bad

-- with a byte of its body: only that of a frame for the firmware is kept
abbrev pub with_byte : Incoming → ℕ → ℕ → Incoming
with_byte i ep b = record { header = i.header; got = i.got + 1; body = cond (eqb ep firmware) (set i.body (i.got - 1) b) i.body }

-- a frame for another endpoint is passed over: after the last byte of its body nothing is left of it
abbrev pub in_body : Incoming → ℕ → ℕ → ℕ → Incoming
in_body i ep n b = cond (not (eqb ep firmware) && eqb i.got n) idle (with_byte i ep b)

-- no state in range has a bad header here
abbrev pub continued : Reading → Incoming → ℕ → Step
continued (good id ep n) i b = taken (in_body i ep n b)
continued (stop k) i b = bad

unfoldable pub byte_step : Incoming → ℕ → Step
byte_step i b = cond (eqb i.got 0) (opened (header_at b) i b) (continued (header_at i.header) i b)

-- ---- a call

-- the first refusal that applies, 0 for none; 47 is gathering while a frame is whole
unfoldable pub gather_refusal : State → ℕ
gather_refusal s =
    cond (not (in_range s)) 1
    (cond (not (live s.progress.phase)) 2
    (cond (is_whole s.incoming) 47 0))

abbrev pub with_incoming : State → Incoming → State
with_incoming s i = record { incoming = i; config = s.config; progress = s.progress }

-- a bad header stops the head with 22
abbrev pub after_step : Step → State → Gathering
after_step (taken i) s = record { report = cond (is_whole i) whole continues; state = with_incoming s i }
after_step bad s = record { report = stopped 22; state = ended phase.Stopped s.config.ram_len }

-- a refused call changes nothing
unfoldable pub gathered : State → ℕ → Gathering
gathered s b =
    let k = gather_refusal s in
    cond (eqb k 0) (after_step (byte_step s.incoming b) s) (record { report = refused k; state = s })
