-- The server's half against the head: change request 1. The frames are those that the promise of `make_frame` cites, the replies are read as that of
-- `read_reply` says, and the head is a session of specs/Session.antt. The proof is `client_load` in proofs/Client.antt.
use Rattle.std.specs.Prelude.{ℕ, zero, suc, ◌≤◌, ◌≡◌, ◌↔◌, true, false, cond, eqb, length, get_or, take, drop}
use mathlib.Core.List.{List, [], ◌∷◌, ◌++◌, flatten}
use Rattle.rfc7693.specs.Rfc7693.{blake2s}
use Rattle.endian.specs.Endian.{bytes}
use Rattle.cdi.specs.Cdi.{cdi_string}
use Rattle.framing.specs.Header.{good, header_at}
use Rattle.protocol.specs.Commands.{firmware, load_in, carried_by, blocks_for, place_of}
use Rattle.endian.specs.Lists.{padded, Bytes, Words, zeros}
use Rattle.protocol.specs.Theorems.{load_with}
use Rattle.head.specs.Answers.{started, Outcome}
use Rattle.client.specs.Frames.{refusal, Secret, command_frame}
use Rattle.client.specs.Replies.{taking_as, taking}
use Rattle.upload.specs.Upload.{job_of, Loaded, opening, bytes_of, runs}
use Rattle.upload.specs.declared.Job.{Job}
use Rattle.session.specs.Reading.{LoadFrame, GoodLoad, BlockFrame, Allowed, chained, measured_id}
use Rattle.session.specs.Session.{Reset, AsksClient, Admitted, Loan, Entry, gathers, acts, Among, gathered_bytes, replies_of, Session, ram_len, all_of, accepted_of, has_ended, last_is, is_acting}
use Rattle.session.specs.Boot.{Start}

-- how many of these calls are actings
abbrev pub actings : List Entry → ℕ
actings [] = 0
actings (gathers b o ∷ es) = actings es
actings (acts l o ∷ es) = suc (actings es)

module _ (program : List ℕ) (id : ℕ) (secret : Secret) where
  -- the frames that are made: frame 0 is the load, frame k block k - 1
  abbrev pub frame : ℕ → List ℕ
  frame k = command_frame program id secret k

  -- those before frame k, in order
  abbrev pub frames_to : ℕ → List (List ℕ)
  frames_to zero = []
  frames_to (suc k) = frames_to k ++ frame k ∷ []

  abbrev pub frames : List (List ℕ)
  frames = frames_to (suc (blocks_for (length program)))

  abbrev pub program_digest : List ℕ
  program_digest = blake2s [] program 32

  -- a program, an ID and a secret that no call refuses; that a secret has 32 bytes is its type in the code
  pub record Made : Type 0 where
    pub accepted : refusal (length program) id 0 ≡ 0
    pub uss_length : length secret.uss ≡ 32

  -- ---- the frames by document 01's reading

  -- the load of this program: size, flag and user secret, which is zeros where it is not used, as is all that is ignored
  pub record ProgramLoad (f : List ℕ) : Type 0 where
    pub header : header_at (get_or f 0 0) ≡ good id firmware 128
    pub load : LoadFrame f
    pub says : load_in f ≡ load_with (length program) (cond secret.used 1 0) (cond secret.used secret.uss (zeros 32))
    pub ignored : drop 39 f ≡ zeros 90

  -- its block k: it carries the program from the block's place on, filled up with zeros
  pub record ProgramBlock (k : ℕ) (f : List ℕ) : Type 0 where
    pub header : header_at (get_or f 0 0) ≡ good id firmware 128
    pub block : BlockFrame f
    pub carries : carried_by f ≡ padded 127 (take 127 (drop (place_of k) program))

  -- the frames that are made are these, and no other bytes are
  pub record ReadAs : Type 0 where
    pub load : (f : List ℕ) → Bytes f → (f ≡ frame 0) ↔ ProgramLoad f
    pub block : (k : ℕ) (f : List ℕ) → Bytes f → (f ≡ frame (suc k)) ↔ ProgramBlock k f
    -- the load is good exactly where RAM has room for the program: no flag that is made is a bad one
    pub taken : (m : ℕ) → GoodLoad m (frame 0) ↔ (length program ≤ m)

  -- ---- the frames on a head

  -- a session of a fresh head of type 4 or 5 in which it gathered these frames, no call was refused and the last was an acting: RAM has room for
  -- the program, and the record allows its digest
  pub record ReceivesFrames (S : Session) : Type 0 where
    pub fits : length program ≤ ram_len S
    pub allowed : Allowed S.reset.rec S.reset.flash.built_in program_digest
    pub bytes : gathered_bytes (all_of S) ≡ flatten frames
    pub none_refused : accepted_of S ≡ all_of S
    pub acted_on : last_is is_acting (all_of S) ≡ true

  -- the digest that the reply to frame k gives: the program's with the last one, and otherwise none, which is zeros
  abbrev pub digest_at : ℕ → List ℕ
  digest_at k = cond (eqb k (blocks_for (length program))) program_digest (zeros 32)

  -- what an acting finds, and what it leaves in its room, where k others and these bytes came before it
  pub record Replied (k : ℕ) (received : List ℕ) (o : Outcome) : Type 0 where
    -- frame k has come whole, and nothing after it
    pub frame_whole : received ≡ flatten (frames_to (suc k))
    -- the client takes the reply as the one to that frame, with status 0
    pub taken : taking (length program) id k (take o.reply o.room) ≡ taking_as 0 0 (digest_at k)

  -- what a laptop is told that loads this program, with so many ticks to wait
  abbrev pub job : ℕ → Job
  job wait = job_of program id wait

  pub record Loads (S : Session) : Type 0 where
    -- the head starts when it acts on the last frame, and not before; what every start gives (`Gives`) holds of this one
    pub start : Start S
    pub before : List Entry
    pub last : all_of S ≡ before ++ acts start.loan start.out ∷ []
    pub not_before : has_ended before ≡ false
    -- with this program at the front of RAM, and this user secret or none in the string of the CDI
    pub report : start.out.report ≡ started 0x40000000 (length program)
    pub front : take (length program) start.out.ram ≡ program
    pub cdi : start.out.cdi
        ≡ blake2s [] (cdi_string (bytes start.loan.uds) (chained S.reset.rec) (measured_id S.reset.rec) program_digest secret.used secret.uss) 32
    -- each acting, by the number of actings and the bytes before it
    pub replies : (l : Loan) (o : Outcome) (i : Among (acts l o) (all_of S)) → Replied (actings i.before) (gathered_bytes i.before) o
    -- the laptop that is given these replies, one after the other, says that the program is loaded
    pub laptop : (wait : ℕ) → (runs (job wait) (opening (job wait)) (bytes_of (replies_of (all_of S)))).next ≡ Loaded

pub record ClientLoad : Type 0 where
  pub reads : (program : List ℕ) (id : ℕ) (secret : Secret) → Made program id secret → ReadAs program id secret
  pub loads : (program : List ℕ) (id : ℕ) (secret : Secret) → Made program id secret → (S : Session) → ReceivesFrames program id secret S → Loads program id secret S
  -- there is such a session for every reset, RAM and UDS that allow it; each acting of it is lent this UDS
  pub exists : (program : List ℕ) (id : ℕ) (secret : Secret) → Made program id secret → (R : Reset) (ram uds : List ℕ)
      → Admitted R → AsksClient R → length ram ≡ length R.ram
      → length uds ≡ 8 → Words uds → length program ≤ length ram → Allowed R.rec R.flash.built_in (blake2s [] program 32)
      → (S : Session) × ReceivesFrames program id secret S × (S.reset ≡ R) × (S.ram ≡ ram)
      × ((l : Loan) (o : Outcome) → Among (acts l o) (all_of S) → l.uds ≡ uds)
