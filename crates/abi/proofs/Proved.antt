-- The theorem of specs/Theorems.antt.
use Prim.Native.Nat.{ℕ, ◌+◌, ◌≤◌}
use mathlib.Core.Path.{◌≡◌, refl, sym, ap, ◌∙◌}
use mathlib.Core.Bool.{Bool, true, false, not, cond, ◌&&◌}
use mathlib.Core.List.{List, [], ◌∷◌, map}
use mathlib.Core.Logic.{◌⊎◌, inl, inr, ⊎_elim}
use native.Mathlib.Omega.{arith}
use lib.Dec.{eqb}
use lib.ListN.{length, take, drop, length-set, length-drop}
use lib.Seq.{length-take-le}
use Rattle.endian.specs.Endian.{word}
use Rattle.framing.specs.Header.{Reading, good, stop, header_at, fields_at, header_byte}
use Rattle.record.specs.Record.{record_at}
use Rattle.record.specs.Types.{is_type, digests_of}
use Rattle.record.specs.declared.Digests.{Digests}
use Rattle.protocol.specs.Commands.{load_in, is_last}
use Rattle.protocol.specs.Replies.{name_reply, reply_header, put_in}
use Rattle.head.specs.State.{is_whole, in_range, ended}
use Rattle.std.specs.Prelude.{Result as Tried, Ok, Err}
use Rattle.head.specs.Answers.{refused, continues, whole, stopped, refusal_number, stop_number, reported, Gathering, Result, Outcome}
use Rattle.head.specs.Start.{allowed, decided, starting}
use Rattle.head.specs.Begin.{Flash, beginning}
use Rattle.head.specs.Gather.{Step, opened, continued, byte_step, with_incoming, after_step, gathered, gather_refusal}
use Rattle.head.specs.Act.{Request, asks_name, asks_udi, gives_load, gives_block, halts, request_of, between, takes, after_load, load_of, acted_block, finished_with, performed, acted, act_refusal}
use Rattle.head.specs.declared.Phase.{Phase}
use Rattle.head.specs.declared.Answer.{Answer}
use Rattle.head.specs.declared.Answer.TheVariants.{Continue, Whole, Stopped, Started}
use Rattle.head.specs.declared.Refusal.{Refusal}
use Rattle.head.specs.declared.Refusal.TheVariants.{StateRange, Ended, ReplyRoom, RamLength, SecretLength, RecordLength, RamSize, OutOfTurn}
use Rattle.head.specs.declared.Stop.{Stop}
use Rattle.head.specs.declared.Stop.TheVariants.{UnknownType, HeaderBit, Command, BodyLength, Digest, ProgramSize}
use Rattle.head.specs.declared.Config.{Config}
use Rattle.head.specs.declared.Incoming.{Incoming}
use Rattle.head.specs.declared.Progress.{Progress}
use Rattle.head.specs.declared.State.{State}
use Rattle.head.proofs.Ranges.{never, by_test}
use Rattle.head.proofs.Ways.{by_gather, by_begin, by_act}
use Rattle.head.proofs.Proved.{head_theorems}
use Rattle.session.specs.Session.{Call, gather, act, Entry, report_in, state_after, log}
use Rattle.abi.specs.Layout.{Memory, holds, memory_of, state_in}
use Rattle.abi.specs.Calls.{answer_number, start_of, Start, start_in, GatherCall, gather_told, after_gather, gather_call, begin_told, after_begin, begin_call, act_told, after_act, act_call}
use Rattle.abi.specs.Theorems.{Sized, Lengths, is_refusal, calls_on, Example, AbiTheorems}
use Rattle.abi.proofs.RoundTrip.{lengths, back, sized, forth}

-- ---- the numbers

refusal_range : (r : Refusal) → (1 ≤ refusal_number r) × ((refusal_number r ≤ 7) ⊎ (refusal_number r ≡ 47))
refusal_range StateRange = (omega arith, inl (omega arith))
refusal_range Ended = (omega arith, inl (omega arith))
refusal_range ReplyRoom = (omega arith, inl (omega arith))
refusal_range RamLength = (omega arith, inl (omega arith))
refusal_range SecretLength = (omega arith, inl (omega arith))
refusal_range RecordLength = (omega arith, inl (omega arith))
refusal_range RamSize = (omega arith, inl (omega arith))
refusal_range OutOfTurn = (omega arith, inr refl)

stop_range : (s : Stop) → (20 ≤ stop_number s) × (stop_number s ≤ 26)
stop_range UnknownType = (omega arith, omega arith)
stop_range HeaderBit = (omega arith, omega arith)
stop_range Command = (omega arith, omega arith)
stop_range BodyLength = (omega arith, omega arith)
stop_range Digest = (omega arith, omega arith)
stop_range ProgramSize = (omega arith, omega arith)

-- a refusal has no other answer's number, and neither has a stop
not_refused : {A : Type 0} (r : Refusal) (k : ℕ) → (k ≡ 0) ⊎ ((8 ≤ k) × (k ≡ 47 → ⊥)) → refusal_number r ≡ k → A
not_refused r k h e =
    let b = refusal_range r in
    absurd (⊎_elim (λ z. omega (arith, b.0)) (λ z. ⊎_elim (λ s. omega arith) (λ s. z.1 (sym e ∙ s)) b.1) h)

not_stopped : {A : Type 0} (s : Stop) (k : ℕ) → (k ≡ 0) ⊎ (27 ≤ k) → stop_number s ≡ k → A
not_stopped s k h e = let b = stop_range s in absurd (⊎_elim (λ z. omega (arith, b.0)) (λ z. omega (arith, b.1)) h)

report : (x y : Tried Answer Refusal) → answer_number (reported x) ≡ answer_number (reported y) → start_of (reported x) ≡ start_of (reported y) → reported x ≡ reported y
report (Err r) (Err q) e f = ap refused e
report (Err r) (Ok Continue) e f = not_refused r 0 (inl refl) e
report (Err r) (Ok Whole) e f = not_refused r 64 (inr (omega arith, λ z. omega arith)) e
report (Err r) (Ok (Stopped s)) e f = let b = stop_range s in not_refused r (stop_number s) (inr (omega arith, λ z. omega arith)) e
report (Err r) (Ok (Started a)) e f = not_refused r 65 (inr (omega arith, λ z. omega arith)) e
report (Ok Continue) (Err r) e f = not_refused r 0 (inl refl) (sym e)
report (Ok Continue) (Ok Continue) e f = refl
report (Ok Continue) (Ok Whole) e f = absurd (omega arith)
report (Ok Continue) (Ok (Stopped s)) e f = not_stopped s 0 (inl refl) (sym e)
report (Ok Continue) (Ok (Started a)) e f = absurd (omega arith)
report (Ok Whole) (Err r) e f = not_refused r 64 (inr (omega arith, λ z. omega arith)) (sym e)
report (Ok Whole) (Ok Continue) e f = absurd (omega arith)
report (Ok Whole) (Ok Whole) e f = refl
report (Ok Whole) (Ok (Stopped s)) e f = not_stopped s 64 (inr (omega arith)) (sym e)
report (Ok Whole) (Ok (Started a)) e f = absurd (omega arith)
report (Ok (Stopped s)) (Err r) e f = let b = stop_range s in not_refused r (stop_number s) (inr (omega arith, λ z. omega arith)) (sym e)
report (Ok (Stopped s)) (Ok Continue) e f = not_stopped s 0 (inl refl) e
report (Ok (Stopped s)) (Ok Whole) e f = not_stopped s 64 (inr (omega arith)) e
report (Ok (Stopped s)) (Ok (Stopped t)) e f = ap stopped e
report (Ok (Stopped s)) (Ok (Started a)) e f = not_stopped s 65 (inr (omega arith)) e
report (Ok (Started a)) (Err r) e f = not_refused r 65 (inr (omega arith, λ z. omega arith)) (sym e)
report (Ok (Started a)) (Ok Continue) e f = absurd (omega arith)
report (Ok (Started a)) (Ok Whole) e f = absurd (omega arith)
report (Ok (Started a)) (Ok (Stopped s)) e f = not_stopped s 65 (inr (omega arith)) (sym e)
report (Ok (Started a)) (Ok (Started b)) e f = cc

-- ---- the arrays keep their lengths

ended_sized : (p : Phase) (m : ℕ) → Sized (ended p m)
unfolding ended
ended_sized p m = record { body = refl; first = refl; measured = refl; udi = refl; uss = refl; second = refl }

module _ (s : State) (z : Sized s) where
  -- with another frame, or another progress, of which the arrays have their lengths
  framed : (i : Incoming) → length i.body ≡ 128 → Sized (with_incoming s i)
  framed i l = record { body = l; first = z.first; measured = z.measured; udi = z.udi; uss = z.uss; second = z.second }

  going_on : (p : Progress) → length p.uss ≡ 32 → Sized (between s p)
  going_on p l = record { body = refl; first = z.first; measured = z.measured; udi = z.udi; uss = l; second = z.second }

  opened_sized : (b : ℕ) (r : Reading) → Sized (after_step (opened r s.incoming b) s).state
  opened_sized b (good id ep n) = framed _ z.body
  opened_sized b (stop k) = ended_sized _ s.config.ram_len

  continued_sized : (b : ℕ) (r : Reading) → Sized (after_step (continued r s.incoming b) s).state
  continued_sized b (good id ep n) =
      let i = s.incoming in
      framed _
      (by_test (λ (j : Incoming). length j.body ≡ 128) (not (eqb ep 2) && eqb i.got n) _ _ (λ t. refl)
      (λ t. by_test (λ (l : List ℕ). length l ≡ 128) (eqb ep 2) _ _ (λ u. rw length-set z.body) (λ u. z.body)))
  continued_sized b (stop k) = ended_sized _ s.config.ram_len

  gathered_sized : (b : ℕ) → Sized (gathered s b).state
  unfolding gathered byte_step
  gathered_sized b =
      by_test (λ (g : Gathering). Sized g.state) (eqb (gather_refusal s) 0) _ _
      (λ t.
      by_test (λ (x : Step). Sized (after_step x s).state) (eqb s.incoming.got 0) _ _ (λ u. opened_sized b (header_at b))
      (λ u. continued_sized b (header_at s.incoming.header)))
      (λ t. z)

  -- a load's user secret has 32 bytes
  load_sized : length (load_of s).uss ≡ 32
  unfolding load_in
  load_sized = let l = z.body in length-take-le 32 (drop 6 s.incoming.body) (rw length-drop (omega arith))

  decided_sized : (c : Config) (p : Progress) (d ram uds : List ℕ) → Sized (decided c p d ram uds).state
  unfolding decided starting
  decided_sized c p d ram uds =
      by_test (λ (x : Result). Sized x.state) (allowed c d) _ _ (λ t. ended_sized _ c.ram_len) (λ t. ended_sized _ c.ram_len)

  module _ (room ram uds : List ℕ) where
    performed_sized : (r : Request) → Sized (performed r s room ram uds).state
    unfolding after_load acted_block finished_with
    performed_sized asks_name = going_on _ z.uss
    performed_sized asks_udi = going_on _ z.uss
    performed_sized gives_load = going_on _ (by_test (λ (p : Progress). length p.uss ≡ 32) (takes s) _ _ (λ t. load_sized) (λ t. z.uss))
    performed_sized gives_block =
        by_test (λ (o : Outcome). Sized o.state) (is_last s.progress.size s.progress.block) _ _
        (λ t. decided_sized s.config s.progress _ _ uds) (λ t. going_on _ z.uss)
    performed_sized (halts k) = ended_sized _ s.config.ram_len

    acted_sized : Sized (acted s room ram uds).state
    unfolding acted
    acted_sized =
        by_test (λ (o : Outcome). Sized o.state) (eqb (act_refusal s (length room) (length ram) (length uds)) 0) _ _ (λ t. performed_sized (request_of s)) (λ t. z)

begun_sized : (bytes udi : List ℕ) (f : Flash) (ram uds : List ℕ) → length bytes ≡ 256 → length udi ≡ 8 → length f.built_in ≡ 32
    → Sized (beginning bytes udi f ram uds).state
unfolding record_at starting
begun_sized bytes udi f ram uds l u d =
    by_begin bytes udi f ram uds (λ (x : Result). Sized x.state)
    (record {
      refused = λ k e n. ended_sized _ 1;
      wait = λ h.
          record {
            body = refl;
            first = allowed_sized.0;
            measured = long 40 (omega arith);
            udi = u;
            uss = refl;
            second = allowed_sized.1;
          };
      unknown = λ h. ended_sized _ (length ram);
      unfit = λ h. ended_sized _ (length ram);
      start = λ h x g. ended_sized _ (length ram);
      fail = λ h x g. ended_sized _ (length ram);
    })
  where
    long : (from : ℕ) → from + 32 ≤ 256 → length (take 32 (drop from bytes)) ≡ 32
    long from h = length-take-le 32 (drop from bytes) (rw length-drop (omega arith))

    -- the built-in digest, or those of the record
    allowed_sized : let a = digests_of (record_at bytes).type f.built_in (record_at bytes).digests in (length a.first ≡ 32) × (length a.second ≡ 32)
    allowed_sized =
        by_test (λ (a : Digests). (length a.first ≡ 32) × (length a.second ≡ 32)) (is_type (record_at bytes).type 0) _ _ (λ t. (d, refl))
        (λ t. (long 8 (omega arith), by_test (λ (x : List ℕ). length x ≡ 32) (record_at bytes).digests.has_second _ _ (λ u. long 72 (omega arith)) (λ u. refl)))

-- ---- the calls on the memory of a state

module _ (s : State) (z : Sized s) where
  gathers_as : (b : ℕ) → gather_call (memory_of s) b ≡ after_gather (gathered s b)
  unfolding gather_call
  gathers_as b = rw ((back s z).0, (back s z).1)

  acts_as : (room ram uds : List ℕ) (reply : ℕ) (old : Start) → act_call (memory_of s) room ram uds reply old ≡ after_act (acted s room ram uds) reply old
  unfolding act_call
  acts_as room ram uds reply old = rw ((back s z).0, (back s z).1)

-- ---- a refused call

neither : {A : Type 0} (t : Bool) → is_refusal (answer_number (cond t whole continues)) ≡ true → A
neither true e = never (sym e)
neither false e = never (sym e)

-- a stop's number is none of a refusal
stops_with : {A : Type 0} (k n : ℕ) → k ≡ n → is_refusal n ≡ false → is_refusal k ≡ true → A
stops_with k n e f h = never (sym h ∙ ap is_refusal e ∙ f)

begin_kept : (m : Memory) (bytes udi : List ℕ) (f : Flash) (ram uds : List ℕ) (old : Start) → is_refusal (begin_call m bytes udi f ram uds old).answer ≡ true
    → begin_call m bytes udi f ram uds old ≡ begin_told (begin_call m bytes udi f ram uds old).answer m old ram uds
unfolding begin_call starting
begin_kept m bytes udi f ram uds old =
    by_begin bytes udi f ram uds (λ (x : Result). is_refusal (answer_number x.report) ≡ true → after_begin x m old ≡ begin_told (answer_number x.report) m old ram uds)
    (record {
      refused = λ k e z h. refl;
      wait = λ l h. never (sym h);
      unknown = λ l h. never (sym h);
      unfit = λ l h. never (sym h);
      start = λ l x g h. never (sym h);
      fail = λ l x g h. never (sym h);
    })

module _ (m : Memory) (l : Lengths m) where
  gather_kept : (b : ℕ) → is_refusal (gather_call m b).answer ≡ true → gather_call m b ≡ gather_told (gather_call m b).answer m
  unfolding gather_call
  gather_kept b = go (holds m.bytes) refl
    where
      held : holds m.bytes ≡ true → Gathering → Type 0
      held e g = is_refusal (answer_number g.report) ≡ true → after_gather g ≡ gather_told (answer_number g.report) m

      go : (t : Bool) → holds m.bytes ≡ t
          → is_refusal (cond t (after_gather (gathered (state_in m) b)) (gather_told 1 m)).answer ≡ true
          → cond t (after_gather (gathered (state_in m) b)) (gather_told 1 m) ≡ gather_told (cond t (after_gather (gathered (state_in m) b)) (gather_told 1 m)).answer m
      go false e = λ h. refl
      go true e =
          by_gather (state_in m) b (held e)
          (record {
            refused = λ k q z h. ap (gather_told k) (forth m l e);
            takes = λ i o v h. neither (is_whole i) h;
            fails = λ h. never (sym h);
          })

  module _ (room ram uds : List ℕ) (reply : ℕ) (old : Start) where
    abbrev Kept : Outcome → Type 0
    Kept o = is_refusal (answer_number o.report) ≡ true → after_act o reply old ≡ act_told (answer_number o.report) m reply old room ram uds

    acted_kept : holds m.bytes ≡ true → Kept (acted (state_in m) room ram uds)
    unfolding starting
    acted_kept e =
        by_act (state_in m) room ram uds Kept
        (record {
          refused = λ k q z h. ap (λ (x : Memory). act_told k x reply old room ram uds) (forth m l e);
          halt = λ k q h. ⊎_elim (λ z. stops_with k 23 z refl h) (λ z. stops_with k 24 z refl h) q;
          reply = λ r f h. never (sym h);
          progress = λ r f p ram1 o v w h. never (sym h);
          start = λ d ram1 w h. never (sym h);
          fail = λ d ram1 w h. never (sym h);
        })

    act_kept : is_refusal (act_call m room ram uds reply old).answer ≡ true
        → act_call m room ram uds reply old ≡ act_told (act_call m room ram uds reply old).answer m reply old room ram uds
    unfolding act_call
    act_kept = go (holds m.bytes) refl
      where
        go : (t : Bool) → holds m.bytes ≡ t
            → is_refusal (cond t (after_act (acted (state_in m) room ram uds) reply old) (act_told 1 m reply old room ram uds)).answer ≡ true
            → cond t (after_act (acted (state_in m) room ram uds) reply old) (act_told 1 m reply old room ram uds)
            ≡ act_told (cond t (after_act (acted (state_in m) room ram uds) reply old) (act_told 1 m reply old room ram uds)).answer m reply old room ram uds
        go false e = λ h. refl
        go true e = acted_kept e

-- ---- calls one after another

lists : (s : State) → Sized s → (calls : List Call)
    → calls_on (memory_of s) calls ≡ map (λ (e : Entry). gather_told (answer_number (report_in e)) (memory_of (state_after e))) (log s calls)
lists s z [] = refl
lists s z (gather b ∷ cs) = rw (gathers_as s z b) (ap (λ (x : List GatherCall). after_gather (gathered s b) ∷ x) (lists (gathered s b).state (gathered_sized s z b) cs))
lists s z (act l ∷ cs) =
    let o = acted s l.room l.ram l.uds in
    rw (acts_as s z l.room l.ram l.uds 0 (start_in [] [] []))
    (ap (λ (x : List GatherCall). gather_told (answer_number o.report) (memory_of o.state) ∷ x)
    (lists o.state (acted_sized s z l.room l.ram l.uds) cs))

example : Example
unfolding begin_call gather_call act_call state_in memory_of beginning record_at gathered gather_refusal in_range byte_step header_at fields_at header_byte ended acted act_refusal
    word name_reply reply_header put_in
example = record { begins = λ m old. refl; flags = (refl, refl, refl, refl); header = refl; query = refl; reply = λ old. refl; stop = refl }

pub abi_theorems : AbiTheorems
abi_theorems =
    record {
      lengths = lengths;
      back = back;
      forth = λ m l h. (sized m l, forth m l h);
      answers = λ x y e f. head_theorems.answers x y (report x y e f);
      begin_kept = begin_kept;
      gather_kept = gather_kept;
      act_kept = act_kept;
      begins = begun_sized;
      gathers = λ s z b. (gathers_as s z b, gathered_sized s z b);
      acts = λ s z room ram uds reply old. (acts_as s z room ram uds reply old, acted_sized s z room ram uds);
      lists = lists;
      example = example;
    }
