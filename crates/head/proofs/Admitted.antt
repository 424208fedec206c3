-- A call by the number of its refusal: refused, or not.
use Prim.Native.Nat.{ℕ, ◌≤◌}
use mathlib.Core.Bool.{Bool, true, false, not, cond}
use mathlib.Core.Path.{◌≡◌, refl}
use mathlib.Core.List.{List}
use native.Mathlib.Omega.{arith}
use lib.Dec.{eqb, ltb}
use lib.ListN.{length}
use borrow.Author.Tests.{ltb-false, eqb-true, not-false}
use Rattle.record.specs.Record.{record_at}
use Rattle.protocol.specs.Commands.{length_ok}
use Rattle.head.specs.State.{is_whole, in_range, live}
use Rattle.head.specs.Answers.{refused, refusal_number, Gathering}
use Rattle.head.specs.Start.{ending}
use Rattle.head.specs.Begin.{Flash, by_type, begin_refusal, beginning}
use Rattle.head.specs.Gather.{byte_step, gather_refusal, after_step, gathered}
use Rattle.head.specs.Act.{request_of, performed, act_refusal, acted}
use Rattle.head.specs.declared.Refusal.{Refusal}
use Rattle.head.specs.declared.Refusal.TheVariants.{StateRange, Ended, ReplyRoom, RamLength, SecretLength, RecordLength, RamSize, OutOfTurn}
use Rattle.head.specs.declared.State.{State}

pub begin_admitted_as : (bytes udi : List ℕ) (f : Flash) (ram uds : List ℕ) → 0 ≡ begin_refusal (length bytes) (length ram) (length uds)
    → by_type (record_at bytes) udi f ram uds ≡ beginning bytes udi f ram uds
unfolding beginning
begin_admitted_as bytes udi f ram uds e = rw (← e)

pub gather_admitted_as : (s : State) (b : ℕ) → 0 ≡ gather_refusal s → after_step (byte_step s.incoming b) s ≡ gathered s b
unfolding gathered
gather_admitted_as s b e = rw (← e)

pub act_admitted_as : (s : State) (room ram uds : List ℕ) → 0 ≡ act_refusal s (length room) (length ram) (length uds)
    → performed (request_of s) s room ram uds ≡ acted s room ram uds
unfolding acted
act_admitted_as s room ram uds e = rw (← e)

-- a refused call
pub numbered : (w : Refusal) → eqb (refusal_number w) 0 ≡ false
numbered StateRange = refl
numbered Ended = refl
numbered ReplyRoom = refl
numbered RamLength = refl
numbered SecretLength = refl
numbered RecordLength = refl
numbered RamSize = refl
numbered OutOfTurn = refl

pub begin_refused_as : (bytes udi : List ℕ) (f : Flash) (ram uds : List ℕ) (w : Refusal) → refusal_number w ≡ begin_refusal (length bytes) (length ram) (length uds)
    → ending (refused (refusal_number w)) 1 ram uds ≡ beginning bytes udi f ram uds
unfolding beginning
begin_refused_as bytes udi f ram uds w e = rw (← e, numbered w)

pub gather_refused_as : (s : State) (b : ℕ) (w : Refusal) → refusal_number w ≡ gather_refusal s
    → ◌≡◌ {A = Gathering} (record { report = refused (refusal_number w); state = s }) (gathered s b)
unfolding gathered
gather_refused_as s b w e = rw (← e, numbered w)

-- what a gathering that is not refused has
pub record GatherAdmitted (s : State) : Type 0 where
  pub range : in_range s ≡ true
  pub goes : live s.progress.phase ≡ true
  pub unfinished : is_whole s.incoming ≡ false

-- and an acting
pub record ActAdmitted (s : State) (room ram uds : ℕ) : Type 0 where
  pub range : in_range s ≡ true
  pub goes : live s.progress.phase ≡ true
  pub complete : is_whole s.incoming ≡ true
  pub room_fits : 129 ≤ room
  pub ram_same : ram ≡ s.config.ram_len
  pub words : uds ≡ 8

not_then : (t : Bool) (k x : ℕ) → (k ≡ 0 → ⊥) → cond t k x ≡ 0 → (t ≡ false) × (x ≡ 0)
not_then true k x h e = absurd (h e)
not_then false k x h e = (refl, e)

-- a begin that is not refused: eight words, 256 bytes of a record, and RAM
pub begin_admitted : (n m w : ℕ) → begin_refusal n m w ≡ 0 → (w ≡ 8) × (n ≡ 256) × (length_ok m ≡ true)
begin_admitted n m w e =
    let a = not_then (not (eqb w 8)) 5 _ (omega arith) e in
    let b = not_then (not (eqb n 256)) 6 _ (omega arith) a.1 in
    let c = not_then (not (length_ok m)) 7 0 (omega arith) b.1 in
    (eqb-true w 8 (not-false (eqb w 8) a.0), eqb-true n 256 (not-false (eqb n 256) b.0), not-false (length_ok m) c.0)

pub gather_admitted : (s : State) → gather_refusal s ≡ 0 → GatherAdmitted s
unfolding gather_refusal
gather_admitted s e =
    let a = not_then (not (in_range s)) 1 _ (omega arith) e in
    let b = not_then (not (live s.progress.phase)) 2 _ (omega arith) a.1 in
    let c = not_then (is_whole s.incoming) 47 0 (omega arith) b.1 in
    record {
      range = not-false (in_range s) a.0;
      goes = not-false (live s.progress.phase) b.0;
      unfinished = c.0;
    }

pub act_admitted : (s : State) (room ram uds : ℕ) → act_refusal s room ram uds ≡ 0 → ActAdmitted s room ram uds
unfolding act_refusal
act_admitted s room ram uds e =
    let a = not_then (not (in_range s)) 1 _ (omega arith) e in
    let b = not_then (not (live s.progress.phase)) 2 _ (omega arith) a.1 in
    let w = not_then (not (is_whole s.incoming)) 47 _ (omega arith) b.1 in
    let c = not_then (ltb room 129) 3 _ (omega arith) w.1 in
    let d = not_then (not (eqb ram s.config.ram_len)) 4 _ (omega arith) c.1 in
    let f = not_then (not (eqb uds 8)) 5 0 (omega arith) d.1 in
    record {
      range = not-false (in_range s) a.0;
      goes = not-false (live s.progress.phase) b.0;
      complete = not-false (is_whole s.incoming) w.0;
      room_fits = ltb-false room 129 c.0;
      ram_same = eqb-true ram s.config.ram_len (not-false (eqb ram s.config.ram_len) d.0);
      words = eqb-true uds 8 (not-false (eqb uds 8) f.0);
    }
