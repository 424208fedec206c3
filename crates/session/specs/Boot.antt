-- Verified boot (document 01: demand 3, with change requests 3 and 6): when a session has started, when begin starts a program from flash, what a start
-- gives, what two starts with one string share, when a call is refused, when a frame is whole, and that there are starts. docs/PROMISES.md reads it
-- beside document 01. The proof is `verified_boot` in proofs/Proved.antt.
use Rattle.std.specs.Prelude.{ℕ, ◌≤◌, ◌≡◌, ◌↔◌, Bool, true, false, cond, ◌||◌, eqb, length, get_or, take, drop}
use Rattle.std.proofs.Math.Option.{Option, none, some}
use mathlib.Core.List.{List, [], ◌∷◌, ◌++◌, flatten}
use Rattle.rfc7693.specs.Rfc7693.{blake2s}
use Rattle.record.specs.Record.{record_at}
use Rattle.endian.specs.Endian.{bytes}
use Rattle.cdi.specs.Cdi.{domain_of, measurement_of, cdi_string}
use Rattle.protocol.specs.Commands.{load_in, uses_uss}
use Rattle.protocol.specs.Replies.{sent, digest_reply, put_in}
use Rattle.endian.specs.Lists.{zeros, All, Words}
use Rattle.head.specs.Answers.{refused, continues, whole, stopped, started, Gathering, Result, Outcome, unreplied}
use Rattle.head.specs.Start.{unstarted}
use Rattle.head.specs.Begin.{Slot, program_in}
use Rattle.session.specs.Reading.{Good, for_firmware, size_of, program_of, type_of, Allowed, chained, measured_id, Starting}
use Rattle.session.specs.Session.{Reset, begun, AsksFlash, AsksClient, Admitted, Loan, Entry, gathers, acts, call_of, report_in, Among, is_accepted, gathered_bytes, Session, ram_len, all_of, accepted_of, has_ended, last_is, is_acting, completes, frame_is_whole, refusal_in}

-- an accepted acting of the session answered a start
pub record StartedAt (S : Session) (l : Loan) (o : Outcome) : Type 0 where
  pub among : Among (acts l o) (accepted_of S)
  pub address : ℕ
  pub size : ℕ
  pub answers : o.report ≡ started address size

-- the head has started
abbrev pub Started : Session → Type 0
Started S = (l : Loan) × (o : Outcome) × StartedAt S l o

-- the bytes of accepted gatherings read as those of a start
abbrev pub Reads : Session → Type 0
Reads S = Starting S.reset.rec S.reset.flash.built_in (ram_len S) (gathered_bytes (accepted_of S))

-- and the last block was acted on: the last accepted call is an acting. Where the bytes read as those of a start, the last of them made the last
-- block whole (`whole_when`), and while it is whole only an acting is accepted (`table`): so this one is on that block
abbrev pub ActedOn : Session → Type 0
ActedOn S = last_is is_acting (accepted_of S) ≡ true

-- ---- what a start is made from, whether a client sent the program or it was in flash

pub record Basis : Type 0 where
  pub rec : List ℕ
  -- at entry to the starting call
  pub uds : List ℕ
  pub program : List ℕ
  -- whether there is a user secret, and which
  pub used : Bool
  pub uss : List ℕ

module _ (b : Basis) where
  abbrev pub digest : List ℕ
  digest = blake2s [] b.program 32

  abbrev pub measurement : List ℕ
  measurement = measurement_of (chained b.rec) (measured_id b.rec) digest

  -- the user secret, or none
  abbrev pub user_secret : Option (List ℕ)
  user_secret = cond b.used (some b.uss) none

  -- the string of the start
  abbrev pub start_string : List ℕ
  start_string = cdi_string (bytes b.uds) (chained b.rec) (measured_id b.rec) digest b.used b.uss

  -- what the starting call gives and leaves
  pub record GivesStart (x : Result) : Type 0 where
    -- address and size, the CDI and the digest
    pub report : x.report ≡ started 0x40000000 (length b.program)
    pub cdi : x.cdi ≡ blake2s [] start_string 32
    pub string_length : length start_string ≡ cond b.used 97 65
    pub domain : get_or start_string 32 0 ≡ domain_of b.used (chained b.rec)
    pub digests : x.digest ≡ digest
    -- the program at the front of its RAM
    pub front : take (length b.program) x.ram ≡ b.program
    -- eight words at entry, and each of them zero at exit
    pub eight : length b.uds ≡ 8
    pub cleared : x.uds ≡ zeros 8

-- what two starts with one string share
pub record Same (b b' : Basis) : Type 0 where
  pub uds : b.uds ≡ b'.uds
  pub chaining : chained b.rec ≡ chained b'.rec
  pub measured : measurement b ≡ measurement b'
  pub secret : user_secret b ≡ user_secret b'

-- ---- a client's start

-- by the reading of its session: the first n bytes carried, and flag and user secret of the good load
abbrev pub carried_basis : {rec built_in : List ℕ} {m : ℕ} {received : List ℕ} → Starting rec built_in m received → List ℕ → Basis
carried_basis {rec = rec} w uds =
    record {
      rec = rec;
      uds = uds;
      program = program_of w.loading.load w.loading.blocks;
      used = uses_uss (load_in w.loading.load);
      uss = (load_in w.loading.load).uss;
    }

pub record Start (S : Session) : Type 0 where
  pub loan : Loan
  pub out : Outcome
  pub started_at : StartedAt S loan out
  pub reading : Reads S

abbrev pub basis_of : {S : Session} → Start S → Basis
basis_of t = carried_basis t.reading t.loan.uds

-- what the starting call gives and leaves
pub record Gives {S : Session} (t : Start S) : Type 0 where
  pub start : GivesStart (basis_of t) (unreplied t.out)
  -- the program has the size that the load gave
  pub size : length (basis_of t).program ≡ size_of t.reading.loading.load
  -- the reply to the last block, and no other byte of the room
  pub reply : t.out.reply ≡ 129
  pub room : t.out.room ≡ put_in t.loan.room (sent (digest_reply (get_or t.reading.last 0 0) (digest (basis_of t))))
  -- it is the last accepted call; the one before it made the last block whole, and so every byte had come before the start
  pub last_call : t.started_at.among.after ≡ []
  pub block_whole : last_is completes t.started_at.among.before ≡ true

-- a start of this program with this user secret or none, on a head that was reset so, with this RAM at the first acting and this UDS at the last
pub record StartOf (R : Reset) (ram uds prog : List ℕ) (secret : Option (List ℕ)) : Type 0 where
  pub session : Session
  pub start : Start session
  pub same_reset : session.reset ≡ R
  pub same_ram : session.ram ≡ ram
  pub same_uds : start.loan.uds ≡ uds
  pub same_program : (basis_of start).program ≡ prog
  pub same_secret : user_secret (basis_of start) ≡ secret
  -- no call of it is refused
  pub none_refused : accepted_of session ≡ all_of session

-- ---- flash: change request 3

-- types 0 and 2 load slot 0, types 1 and 3 slot 1
abbrev pub in_slot0 : List ℕ → Bool
in_slot0 rec = eqb (type_of rec) 0 || eqb (type_of rec) 2

module _ (R : Reset) where
  abbrev pub chosen : Slot
  chosen = cond (in_slot0 R.rec) R.flash.slot0 R.flash.slot1

  -- the chosen slot's front part; there is no user secret
  abbrev pub flash_basis : Basis
  flash_basis = record { rec = R.rec; uds = R.uds; program = program_in chosen; used = false; uss = [] }

  -- begin answered a start
  abbrev pub FlashStarted : Type 0
  FlashStarted = (address : ℕ) × (size : ℕ) × ((begun R).report ≡ started address size)

  -- the size is good for slot and RAM
  pub record Fits : Type 0 where
    pub not_empty : 1 ≤ chosen.size
    pub in_slot : chosen.size ≤ length chosen.bytes
    pub in_ram : chosen.size ≤ length R.ram

  -- the digest is allowed
  abbrev pub FlashAllowed : Type 0
  FlashAllowed = Allowed R.rec R.flash.built_in (digest flash_basis)

  -- what a start from flash gives and leaves
  pub record FlashGives : Type 0 where
    pub start : GivesStart flash_basis (begun R)
    pub size : length flash_basis.program ≡ chosen.size
    -- RAM beyond the program
    pub beyond : drop chosen.size (begun R).ram ≡ drop chosen.size R.ram
    -- the digest is also that of what is now at the front of RAM
    pub stored : (begun R).digest ≡ blake2s [] (take chosen.size (begun R).ram) 32

  -- when begin stops; at 25 the program is in RAM, and at no stop is anything else changed
  pub record BeginStops : Type 0 where
    pub stop_20 : ((begun R).report ≡ stopped 20) ↔ (Admitted R × (6 ≤ type_of R.rec))
    pub stop_25 : ((begun R).report ≡ stopped 25) ↔ (Admitted R × AsksFlash R × Fits × (FlashAllowed → ⊥))
    pub stop_26 : ((begun R).report ≡ stopped 26) ↔ (Admitted R × AsksFlash R × (Fits → ⊥))
    pub leaves : (k : ℕ) → (begun R).report ≡ stopped k
        → ((begun R).ram ≡ cond (eqb k 25) (put_in R.ram flash_basis.program) R.ram) × ((begun R).uds ≡ R.uds)

-- that there are starts is said of resets written out: one of a head that has this program, and more bytes after it, in the slot that the record
-- asks for
abbrev pub reset_holding : (rec udi built_in ram uds prog rest : List ℕ) → Slot → Words uds → Reset
reset_holding rec udi built_in ram uds prog rest other typed =
    let program : Slot = record { bytes = prog ++ rest; size = length prog } in
    record {
      rec = rec;
      udi = udi;
      flash = record { slot0 = cond (in_slot0 rec) program other; slot1 = cond (in_slot0 rec) other program; built_in = built_in };
      ram = ram;
      uds = uds;
      typed = typed;
    }

-- a start of either kind
pub data AnyStart : Type 0 where
  from_client : (S : Session) → Start S → AnyStart
  from_flash : (R : Reset) → FlashStarted R → AnyStart

abbrev pub basis : AnyStart → Basis
basis (from_client S t) = basis_of t
basis (from_flash R t) = flash_basis R

-- the bytes are whole good frames one after the other, and the last has endpoint 2: the first fields of `Starting`, without the block
pub record EndsWhole (received : List ℕ) : Type 0 where
  pub before : List (List ℕ)
  pub last : List ℕ
  pub all_good : All Good (before ++ last ∷ [])
  pub nothing_left : received ≡ flatten (before ++ last ∷ [])
  pub last_own : for_firmware last ≡ true

pub record VerifiedBoot : Type 0 where
  -- a head has started exactly when its accepted bytes read as those of a start and the last block was acted on
  pub exactly : (S : Session) → Started S ↔ (Reads S × ActedOn S)
  -- every start gives what it should, and the reading of its bytes is one
  pub gives : (S : Session) (t : Start S) → Gives t
  pub one_reading : (S : Session) (w w' : Reads S) → (w.loading.opening ≡ w'.loading.opening) × (w.loading.load ≡ w'.loading.load) × (w.loading.blocks ≡ w'.loading.blocks)
      × ((uds : List ℕ) → carried_basis w uds ≡ carried_basis w' uds)
  -- begin is accepted exactly when none of its refusals applies, and a session begins exactly when a client program is then asked for
  pub begin_accepted : (R : Reset) → (is_accepted (begun R).report ≡ true) ↔ Admitted R
  pub begin_waits : (R : Reset) → ((begun R).report ≡ continues) ↔ (Admitted R × AsksClient R)
  -- where one is asked for, nothing but the lengths of RAM and UDS matters of what begin is lent and given besides record and UDI; RAM and UDS
  -- stay, and neither CDI nor digest is given
  pub client_begins : (R R' : Reset) → AsksClient R → R'.rec ≡ R.rec → R'.udi ≡ R.udi → length R'.ram ≡ length R.ram
      → length R'.uds ≡ length R.uds → begun R' ≡ unstarted (begun R).report (begun R).state R'.ram R'.uds
  -- and the state then has the allowed digests of the record, and mask bit 1, as they came
  pub client_digests : (R : Reset) → Admitted R → AsksClient R → (begun R).state.config.digests ≡ (record_at R.rec).digests
  -- begin answers a start exactly when a program from flash is asked for, fits and is allowed; every such start gives what it should
  pub flash_exactly : (R : Reset) → FlashStarted R ↔ (Admitted R × AsksFlash R × Fits R × FlashAllowed R)
  pub flash_gives : (R : Reset) → FlashStarted R → FlashGives R
  -- and when it stops
  pub begin_stops : (R : Reset) → BeginStops R
  -- two starts of either kind, of one head or of two, the strings of which are equal
  pub injective : (t t' : AnyStart) → start_string (basis t) ≡ start_string (basis t') → Same (basis t) (basis t')
  -- every call of the list answers a number of refusal exactly when the table says so
  pub table : (S : Session) (e : Entry) (i : Among e (all_of S)) (k : ℕ)
      → (report_in e ≡ refused k) ↔ ((k ≡ refusal_in (has_ended i.before) (frame_is_whole i.before) (ram_len S) (call_of e)) × (k ≡ 0 → ⊥))
  -- an accepted gathering answers whole exactly when the accepted bytes, its own the last of them, are whole good frames of which the last has
  -- endpoint 2; so the last byte of a frame for another endpoint is never answered with whole
  pub whole_when : (S : Session) (b : ℕ) (g : Gathering) (i : Among (gathers b g) (accepted_of S))
      → (g.report ≡ whole) ↔ EndsWhole (gathered_bytes i.before ++ b ∷ [])
  -- every program of 1 byte to the RAM's length starts, if the record allows it, with any user secret or none, whatever RAM and UDS hold
  pub exists : (R : Reset) (ram uds prog : List ℕ) (flag : Bool) (uss : List ℕ)
      → Admitted R → AsksClient R → length ram ≡ length R.ram
      → length uds ≡ 8 → Words uds → 1 ≤ length prog → length prog ≤ length ram → Allowed R.rec R.flash.built_in (blake2s [] prog 32)
      → length uss ≡ 32 → StartOf R ram uds prog (cond flag (some uss) none)
  -- and from flash, where the record or, for type 0, the built-in digest allows it: it starts from the front of its slot, whatever follows it
  -- there, and whatever the other slot holds
  pub flash_exists : (rec udi built_in ram uds prog rest : List ℕ) (other : Slot) (typed : Words uds)
      → let R = reset_holding rec udi built_in ram uds prog rest other typed in
      Admitted R → AsksFlash R → 1 ≤ length prog → length prog ≤ length ram → Allowed rec built_in (blake2s [] prog 32)
      → FlashStarted R × ((flash_basis R).program ≡ prog)
