-- What each reason of a diagnosis (change request 13) says of the bytes from the cable, by demand 3's reading (`session`, Reading) and document 01's stops.
-- Nothing here knows of a head or of its state. rec is the record, m the RAM's length, and a frame is the list of its bytes.
use Rattle.std.specs.Prelude.{ℕ, ◌+◌, ◌<◌, ◌≤◌, ◌≡◌, ◌⊎◌, true, length, get_or}
use mathlib.Core.List.{List, [], ◌∷◌, ◌++◌, flatten}
use Rattle.endian.specs.Lists.{All}
use Rattle.framing.specs.Header.{good, stop, header_at}
use Rattle.protocol.specs.Commands.{command_in}
use Rattle.session.specs.Reading.{Good, for_firmware, own, QueryFrame, LoadFrame, Opens, BlockFrame, digest_of, type_of, Allowed, Loads, needed, Starting}
use Rattle.diagnosis.specs.Reasons.{Reason, refused, stopped, unfinished, waiting, missing, started}

-- ---- how far frames bring a load: os are those with endpoint 2

module _ (m : ℕ) where
  -- a load is waited for: all are queries and bad loads
  abbrev pub Waits : List (List ℕ) → Type 0
  Waits os = All (Opens m) os

  -- blocks are waited for: a good load has come, and too few of them
  pub record Misses (os : List (List ℕ)) : Type 0 where
    pub so_far : Loads m os
    pub fewer : length so_far.blocks < needed so_far

-- ---- the table of commands

-- the frames that are taken while a load is waited for; while blocks are waited for, those are `BlockFrame`
abbrev pub TakenWaiting : List ℕ → Type 0
TakenWaiting f = QueryFrame f ⊎ LoadFrame f

-- no frame with the command of f is taken
abbrev pub NotAllowed : (List ℕ → Type 0) → List ℕ → Type 0
NotAllowed T f = (g : List ℕ) → command_in g ≡ command_in f → T g → ⊥

-- one is, and f is not: it has another body length
abbrev pub OtherLength : (List ℕ → Type 0) → List ℕ → Type 0
OtherLength T f = ((g : List ℕ) × (command_in g ≡ command_in f) × T g) × (T f → ⊥)

-- ---- the reasons

-- refusals 6 and 7 do not apply
pub record LengthsOk (rec : List ℕ) (m : ℕ) : Type 0 where
  pub record_length : length rec ≡ 256
  pub ram_some : 1 ≤ m
  pub ram_small : m ≤ 131072

-- and a program from the cable is asked for
pub record Asks (rec : List ℕ) (m : ℕ) : Type 0 where
  pub lent : LengthsOk rec m
  pub client : (type_of rec ≡ 4) ⊎ (type_of rec ≡ 5)

-- whole good frames one after the other, with nothing left over
pub record Whole (bytes : List ℕ) : Type 0 where
  pub frames : List (List ℕ)
  pub reads : bytes ≡ flatten frames
  pub all_good : All Good frames

-- whole good frames, and then one for the firmware, the last byte of which is byte i
pub record FrameAt (bytes : List ℕ) (i : ℕ) : Type 0 where
  pub before : List (List ℕ)
  pub frame : List ℕ
  pub rest : List ℕ
  pub reads : bytes ≡ flatten (before ++ frame ∷ []) ++ rest
  pub all_good : All Good (before ++ frame ∷ [])
  pub to_firmware : for_firmware frame ≡ true
  pub place : i ≡ length (flatten (before ++ frame ∷ []))

module _ (m : ℕ) (bytes : List ℕ) where
  -- whole good frames, after which the head goes on, and what comes then
  pub record Frames : Type 0 where
    pub before : List (List ℕ)
    pub rest : List ℕ
    pub reads : bytes ≡ flatten before ++ rest
    pub all_good : All Good before
    pub goes_on : Waits m (own before) ⊎ Misses m (own before)

  -- stop 22 at byte i: a header with bit 7 or bit 2 set, whatever its endpoint
  pub record BadHeader (i : ℕ) : Type 0 where
    pub frames : Frames
    pub header : ℕ
    pub after : List ℕ
    pub next : frames.rest ≡ header ∷ after
    pub bad : header_at header ≡ stop 22
    pub place : i ≡ length (flatten frames.before) + 1

  -- stop 23 at byte i: a command that is not allowed then, unknown ones included
  pub record BadCommand (i : ℕ) : Type 0 where
    pub at : FrameAt bytes i
    pub not_allowed : (Waits m (own at.before) × NotAllowed TakenWaiting at.frame) ⊎ (Misses m (own at.before) × NotAllowed BlockFrame at.frame)

  -- stop 24 at byte i: a command that is, with another body length
  pub record BadLength (i : ℕ) : Type 0 where
    pub at : FrameAt bytes i
    pub other_length : (Waits m (own at.before) × OtherLength TakenWaiting at.frame) ⊎ (Misses m (own at.before) × OtherLength BlockFrame at.frame)

  -- the bytes end in a frame that is not whole
  pub record Unfinished : Type 0 where
    pub frames : Frames
    pub id : ℕ
    pub ep : ℕ
    pub n : ℕ
    pub header : header_at (get_or frames.rest 0 0) ≡ good id ep n
    pub begun : 1 ≤ length frames.rest
    pub short : length frames.rest < 1 + n

  -- whole frames, and no good load
  pub record Waiting : Type 0 where
    pub whole : Whole bytes
    pub waits : Waits m (own whole.frames)

  -- whole frames, and k blocks too few
  pub record Missing (k : ℕ) : Type 0 where
    pub whole : Whole bytes
    pub misses : Misses m (own whole.frames)
    pub count : length misses.so_far.blocks + k ≡ needed misses.so_far

module _ (rec : List ℕ) (m : ℕ) (bytes : List ℕ) where
  -- stop 25 at byte i: the last block, and a program whose digest is not allowed. For types 4 and 5 the built-in digest is not looked at
  pub record BadDigest (i : ℕ) : Type 0 where
    pub at : FrameAt bytes i
    pub load : Loads m (own (at.before ++ at.frame ∷ []))
    pub all_came : length load.blocks ≡ needed load
    pub barred : Allowed rec [] (digest_of load.load load.blocks) → ⊥

  -- the bytes, up to some, read as those of a start
  pub record Started : Type 0 where
    pub received : List ℕ
    pub rest : List ℕ
    pub reads : bytes ≡ received ++ rest
    pub starting : Starting rec [] m received

  -- what each reason says
  pub data Holds : Reason → Type 0 where
    record_length : (length rec ≡ 256 → ⊥) → Holds (refused 6)
    ram_size : length rec ≡ 256 → ((1 ≤ m) × (m ≤ 131072) → ⊥) → Holds (refused 7)
    from_flash : LengthsOk rec m → type_of rec ≤ 3 → Holds (refused 48)
    unknown_type : LengthsOk rec m → 6 ≤ type_of rec → Holds (stopped 20 0)
    bad_header : Asks rec m → (i : ℕ) → BadHeader m bytes i → Holds (stopped 22 i)
    bad_command : Asks rec m → (i : ℕ) → BadCommand m bytes i → Holds (stopped 23 i)
    bad_length : Asks rec m → (i : ℕ) → BadLength m bytes i → Holds (stopped 24 i)
    bad_digest : Asks rec m → (i : ℕ) → BadDigest i → Holds (stopped 25 i)
    is_unfinished : Asks rec m → Unfinished m bytes → Holds unfinished
    is_waiting : Asks rec m → Waiting m bytes → Holds waiting
    is_missing : Asks rec m → (k : ℕ) → Missing m bytes k → Holds (missing k)
    has_started : Asks rec m → Started → Holds started
