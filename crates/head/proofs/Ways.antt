-- The ways that a call can go, as one law for each call: what holds of each way holds of the call. A way of begin and of acting is a function of
-- the words lent as UDS.
use Prim.Native.Nat.{ℕ, ◌+◌, ◌/◌, ◌<◌, ◌≤◌}
use mathlib.Core.Bool.{Bool, true, false, not, cond, ◌&&◌, or-true}
use mathlib.Core.Logic.{◌⊎◌, inl, inr}
use mathlib.Core.Path.{◌≡◌, refl}
use mathlib.Core.List.{List, [], ◌++◌, append_assoc}
use native.Mathlib.Omega.{arith}
use lib.Dec.{eqb, leb}
use lib.ListN.{length, take, drop, length-drop}
use lib.Seq.{paste, length-paste, drop-paste, take_at, length-take-le}
use borrow.Author.Tests.{eqb-true, eqb-false, eq-eqb, lt-ltb, le-leb, ne_eqb}
use Rattle.endian.proofs.Cases.{impossible}
use Rattle.framing.specs.Header.{Reading, good, stop, header_at, body_len}
use Rattle.rfc7693.specs.Rfc7693.{blake2s}
use Rattle.record.specs.Record.{record_at}
use Rattle.record.specs.Types.{Source, slot0, slot1, client, unknown, source_of}
use Rattle.protocol.specs.Commands.{length_ok, place_of, count_in, is_last}
use Rattle.protocol.specs.Replies.{sent, name_reply, udi_reply, block_reply, digest_reply, put_in}
use Rattle.protocol.specs.Theorems.{IsReply, is_name, is_udi, is_load, is_block}
use Rattle.protocol.proofs.Proved.{protocol}
use Rattle.protocol.specs.declared.Reply.{Reply}
use Rattle.head.specs.State.{is_whole, incoming_ok, loading_ok, progress_in, progress_ok, live, idle, of_size, ended}
use Rattle.head.specs.Answers.{refused, stopped, Gathering, Result, Outcome, replied}
use Rattle.head.specs.Start.{ending, allowed, starting, decided}
use Rattle.head.specs.Begin.{Slot, Flash, program_in, fits, config_of, waiting_with, from_flash, by_source, by_type, begin_refusal, beginning}
use Rattle.head.specs.Gather.{Step, taken, bad, opened, with_byte, continued, byte_step, gather_refusal, after_step, gathered}
use Rattle.head.specs.Act.{Request, asks_name, asks_udi, gives_load, gives_block, halts, request_in, frame_in, request_of, plain, stopping, replying, between, load_of, takes, load_answer, loaded, after_load, stored_in, next_block, finished_with, acted_block, performed, act_refusal, refusing, acted}
use Rattle.head.specs.Theorems.{SameButBlock}
use Rattle.head.proofs.Ranges.{by_test, length_some, incoming_got, Loaded, loading_facts, block_within, no_block, block_loading, range_facts}
use Rattle.head.proofs.Admitted.{begin_admitted, gather_admitted, act_admitted}
use Rattle.head.specs.declared.Phase.{Phase}
use Rattle.head.specs.declared.Phase.TheVariants as phase
use Rattle.head.specs.declared.Config.{Config}
use Rattle.head.specs.declared.Incoming.{Incoming}
use Rattle.head.specs.declared.Progress.{Progress}
use Rattle.head.specs.declared.State.{State}

-- ---- gathering

-- what is taken is in range
abbrev StepOk : Step → Type 0
StepOk (taken i) = incoming_ok i ≡ true
StepOk bad = Unit {0}

opened_ok : (i : Incoming) (b : ℕ) (r : Reading) → header_at b ≡ r → StepOk (opened r i b)
opened_ok i b (good id ep n) e = rw (e, le-leb 1 n (length_some b id ep n e))
opened_ok i b (stop k) e = tt

continued_ok : (i : Incoming) (b : ℕ) (r : Reading) → header_at i.header ≡ r → i.got ≤ body_len r → StepOk (continued r i b)
continued_ok i b (good id ep n) e l = go (eqb ep 2) (eqb i.got n) refl refl
  where
    go : (x y : Bool) → eqb ep 2 ≡ x → eqb i.got n ≡ y → incoming_ok (cond (not x && y) idle (with_byte i ep b)) ≡ true
    go true true p q =
        let g : i.got + 1 ≡ n + 1 = let h = eqb-true i.got n q in omega arith in
        rw (ne_eqb (i.got + 1) 0 (λ z. omega arith), e, p, eq-eqb (i.got + 1) (n + 1) g, or-true (leb (i.got + 1) n))
    go true false p q = rw (ne_eqb (i.got + 1) 0 (λ z. omega arith), e, le-leb (i.got + 1) n (omega (arith, eqb-false i.got n q)))
    go false true p q = refl
    go false false p q = rw (ne_eqb (i.got + 1) 0 (λ z. omega arith), e, le-leb (i.got + 1) n (omega (arith, eqb-false i.got n q)))
continued_ok i b (stop k) e l = tt

step_ok : (i : Incoming) (b : ℕ) → incoming_ok i ≡ true → is_whole i ≡ false → StepOk (byte_step i b)
unfolding byte_step
step_ok i b o w =
    by_test StepOk (eqb i.got 0) _ _ (λ x. opened_ok i b (header_at b) refl)
    (λ x. continued_ok i b (header_at i.header) refl (incoming_got i o w (eqb-false i.got 0 x)).1)

module _ (s : State) (b : ℕ) (P : Gathering → Type 0) where
  pub record GatherWays : Type 0 where
    pub refused : (k : ℕ) → k ≡ gather_refusal s → (k ≡ 0 → ⊥) → P (record { report = refused k; state = s })
    pub takes : (i : Incoming) → incoming_ok i ≡ true → live s.progress.phase ≡ true → P (after_step (taken i) s)
    pub fails : P (after_step bad s)

  module _ (w : GatherWays) where
    step_ways : (x : Step) → StepOk x → live s.progress.phase ≡ true → P (after_step x s)
    step_ways (taken i) o l = w.takes i o l
    step_ways bad o l = w.fails

    -- what holds of each way holds of the call
    pub by_gather : P (gathered s b)
    unfolding gathered
    by_gather =
        let k = gather_refusal s in
        by_test P (eqb k 0) _ _
        (λ z.
        let a = gather_admitted s (eqb-true k 0 z) in
        step_ways (byte_step s.incoming b) (step_ok s.incoming b (range_facts s a.range).incoming a.unfinished) a.goes)
        (λ z. w.refused k refl (eqb-false k 0 z))

-- by cases on a test that does not look at the words
by_either : {A : Type 0} (P : (List ℕ → A) → Type 0) (t : Bool) (x y : List ℕ → A) → (t ≡ true → P x) → (t ≡ false → P y) → P (λ u. cond t (x u) (y u))
by_either P true x y f g = f refl
by_either P false x y f g = g refl

-- ---- begin

-- a begin with the number of its refusal
abbrev pub begun_with : List ℕ → List ℕ → Flash → List ℕ → ℕ → List ℕ → Result
begun_with bytes udi f ram k uds = cond (eqb k 0) (by_type (record_at bytes) udi f ram uds) (ending (refused k) 1 ram uds)

-- a begin that lends n words, as a function of these: no test looks at what they are
module _ (bytes udi : List ℕ) (f : Flash) (ram : List ℕ) (n : ℕ) (P : (List ℕ → Result) → Type 0) where
  abbrev config : Config
  config = config_of (record_at bytes) udi f.built_in (length ram)

  -- the program in a slot
  abbrev digest_in : Slot → List ℕ
  digest_in x = blake2s [] (program_in x) 32

  pub record BeginWays : Type 0 where
    pub refused : (k : ℕ) → k ≡ begin_refusal (length bytes) (length ram) n → (k ≡ 0 → ⊥) → P (ending (refused k) 1 ram)
    pub wait : length_ok (length ram) ≡ true → P (waiting_with config ram)
    pub unknown : length_ok (length ram) ≡ true → P (ending (stopped 20) (length ram) ram)
    pub unfit : length_ok (length ram) ≡ true → P (ending (stopped 26) (length ram) ram)
    pub start : length_ok (length ram) ≡ true → (x : Slot) → fits x.size (length x.bytes) (length ram) ≡ true
        → P (starting config (of_size phase.Loading x.size) (digest_in x) (put_in ram (program_in x)))
    pub fail : length_ok (length ram) ≡ true → (x : Slot) → fits x.size (length x.bytes) (length ram) ≡ true
        → P (ending (stopped 25) (length ram) (put_in ram (program_in x)))

  module _ (w : BeginWays) where
    slot_ways : length_ok (length ram) ≡ true → (x : Slot) → P (from_flash x config ram)
    unfolding from_flash decided
    slot_ways l x =
        by_either P (fits x.size (length x.bytes) (length ram)) _ _
        (λ h. by_either P (allowed config (digest_in x)) _ _ (λ a. w.start l x h) (λ a. w.fail l x h)) (λ h. w.unfit l)

    source_ways : length_ok (length ram) ≡ true → (p : Source) → P (by_source p f config ram)
    source_ways l slot0 = slot_ways l f.slot0
    source_ways l slot1 = slot_ways l f.slot1
    source_ways l client = w.wait l
    source_ways l unknown = w.unknown l

    pub by_secret : P (begun_with bytes udi f ram (begin_refusal (length bytes) (length ram) n))
    by_secret =
        let k = begin_refusal (length bytes) (length ram) n in
        by_either P (eqb k 0) _ _
        (λ z. source_ways (begin_admitted (length bytes) (length ram) n (eqb-true k 0 z)).2 (source_of (record_at bytes).type))
        (λ z. w.refused k refl (eqb-false k 0 z))

-- the call, with words of this number
pub begin_called : (bytes udi : List ℕ) (f : Flash) (ram : List ℕ) (n : ℕ) (uds : List ℕ) → length uds ≡ n
    → beginning bytes udi f ram uds ≡ begun_with bytes udi f ram (begin_refusal (length bytes) (length ram) n) uds
unfolding beginning
begin_called bytes udi f ram n uds e = rw e

-- what holds of each way holds of the call
pub by_begin : (bytes udi : List ℕ) (f : Flash) (ram uds : List ℕ) (P : Result → Type 0) → BeginWays bytes udi f ram (length uds) (λ g. P (g uds))
    → P (beginning bytes udi f ram uds)
unfolding beginning
by_begin bytes udi f ram uds P w = by_secret bytes udi f ram (length uds) (λ g. P (g uds)) w

-- ---- what is loaded stays in range

-- a load that is taken
loaded_ok : (s : State) → takes s ≡ true → loading_ok (loaded (load_of s)) s.config.ram_len ≡ true
loaded_ok s e =
    let n = (load_of s).size in
    let m = s.config.ram_len in
    let g = (protocol.good_load_exactly m (load_of s)).0 e in
    simp (le-leb 1 n g.some, le-leb n m g.fits) (lt-ltb 0 ((n + 126) / 127) (omega arith))

-- a block that is not the last
next_ok : (ph : Phase) (c n : ℕ) (p : Progress) (m : ℕ) → request_in ph c n ≡ gives_block → progress_in ph p m ≡ true → is_last p.size p.block ≡ false
    → progress_in ph (next_block p) m ≡ true
next_ok phase.Loading c n p m e r l =
    let f = loading_facts p m r in
    let d : p.block < (p.size + 126) / 127 = f.due in
    let o = eqb-false ((p.size + 126) / 127) (p.block + 1) l in
    simp (le-leb 1 p.size f.some, le-leb p.size m f.fits) (lt-ltb (p.block + 1) ((p.size + 126) / 127) (omega (arith, o)))
next_ok phase.Waiting c n p m e r l = absurd (no_block c n e)
next_ok phase.Started c n p m e r l = refl
next_ok phase.Stopped c n p m e r l = refl

-- ---- what is stored is the block

stored : (s : State) (ram : List ℕ) → Loaded s.progress (length ram) → length s.incoming.body ≡ 128
    → SameButBlock s (stored_in ram (frame_in s) s.progress.size s.progress.block) ram
stored s ram l e =
    let k = place_of s.progress.block in
    let n = count_in s.progress.size s.progress.block in
    let f = drop 1 s.incoming.body in
    let h : k + n ≤ length ram = block_within s.progress (length ram) l in
    let m : n ≤ length f = rw (length-drop, e) (omega arith) in
    (length-paste ram k f n h m, take_before ram k f n (omega arith), drop-paste ram k f n (omega arith) m)
  where
    take_before : (d : List ℕ) (k : ℕ) (f : List ℕ) (n : ℕ) → k ≤ length d → take k (paste d k f n) ≡ take k d
    take_before d k f n h = rw (append_assoc (take k d)) (take_at (take k d) (take n f ++ drop (k + n) d) k (length-take-le k d h))

-- the stops of a frame
pub halt_number : (ph : Phase) (c n k : ℕ) → request_in ph c n ≡ halts k → (k ≡ 23) ⊎ (k ≡ 24)
halt_number phase.Waiting c n k = go (eqb c 0x01) (eqb c 0x08) (eqb c 0x03) (eqb n 1) (eqb n 128)
  where
    go : (x y z t u : Bool)
        → cond x (cond t asks_name (halts 24)) (cond y (cond t asks_udi (halts 24)) (cond z (cond u gives_load (halts 24)) (halts 23))) ≡ halts k
        → (k ≡ 23) ⊎ (k ≡ 24)
    go true y z true u e = impossible cc
    go true y z false u e = inr cc
    go false true z true u e = impossible cc
    go false true z false u e = inr cc
    go false false true t true e = impossible cc
    go false false true t false e = inr cc
    go false false false t u e = inl cc
halt_number phase.Loading c n k = go (eqb c 0x05) (eqb n 128)
  where
    go : (x u : Bool) → cond x (cond u gives_block (halts 24)) (halts 23) ≡ halts k → (k ≡ 23) ⊎ (k ≡ 24)
    go true true e = impossible cc
    go true false e = inr cc
    go false u e = inl cc
halt_number phase.Started c n k = λ e. inl cc
halt_number phase.Stopped c n k = λ e. inl cc

-- ---- acting

-- what a call may write of RAM
abbrev pub Writes : State → List ℕ → List ℕ → Type 0
Writes s ram1 ram = length s.incoming.body ≡ 128 → SameButBlock s ram1 ram

-- a call with the number of its refusal
abbrev pub called : ℕ → State → List ℕ → List ℕ → List ℕ → Outcome
called k s room ram uds = cond (eqb k 0) (performed (request_of s) s room ram uds) (refusing k s room ram uds)

-- a call that lends n words, as a function of these: no test looks at what they are
module _ (s : State) (room ram : List ℕ) (n : ℕ) (P : (List ℕ → Outcome) → Type 0) where
  pub record ActWays : Type 0 where
    pub refused : (k : ℕ) → k ≡ act_refusal s (length room) (length ram) n → (k ≡ 0 → ⊥) → P (refusing k s room ram)
    pub halt : (k : ℕ) → (k ≡ 23) ⊎ (k ≡ 24) → P (stopping k s room ram)
    -- a query, or a load that is not taken
    pub reply : (r : Reply) → IsReply r → P (replying r (between s s.progress) room ram)
    -- a load that is taken, or a block that is not the last
    pub progress : (r : Reply) → IsReply r → (p : Progress) (ram1 : List ℕ) → progress_ok p s.config.ram_len ≡ true
        → (live s.progress.phase ≡ true → live p.phase ≡ true) → Writes s ram1 ram → P (replying r (between s p) room ram1)
    -- the last block
    pub start : (d ram1 : List ℕ) → Writes s ram1 ram → P (λ u. replied 129 (put_in room (sent (digest_reply s.incoming.header d))) (starting s.config s.progress d ram1 u))
    pub fail : (d ram1 : List ℕ) → Writes s ram1 ram
        → P (plain (stopped 25) 129 (ended phase.Stopped s.config.ram_len) (put_in room (sent (digest_reply s.incoming.header d))) ram1)

  module _ (w : ActWays) where
    abbrev h : ℕ
    h = s.incoming.header

    finish_ways : (d ram1 : List ℕ) → Writes s ram1 ram → P (finished_with d s room ram1)
    unfolding finished_with decided
    finish_ways d ram1 z =
        let reply = put_in room (sent (digest_reply h d)) in
        by_either (λ (g : List ℕ → Result). P (λ u. replied 129 reply (g u))) (allowed s.config d) _ _ (λ a. w.start d ram1 z) (λ a. w.fail d ram1 z)

    block_ways : Writes s (stored_in ram (frame_in s) s.progress.size s.progress.block) ram
        → (is_last s.progress.size s.progress.block ≡ false → progress_ok (next_block s.progress) s.config.ram_len ≡ true)
        → P (acted_block s room ram)
    unfolding acted_block
    block_ways z next =
        by_either P (is_last s.progress.size s.progress.block) _ _
        (λ l. finish_ways _ _ z)
        (λ l. w.progress (block_reply h) (is_block h) (next_block s.progress) _ (next l) (λ v. v) z)

    load_ways : P (performed gives_load s room ram)
    unfolding after_load load_answer
    load_ways =
        let f = is_load h (takes s) in
        by_test (λ (p : Progress). P (replying (load_answer s) (between s p) room ram)) (takes s) _ _
        (λ g. w.progress (load_answer s) f (loaded (load_of s)) ram (loaded_ok s g) (λ v. refl) (λ e. (refl, refl, refl)))
        (λ g. w.reply (load_answer s) f)

    module _ (fits : length ram ≡ s.config.ram_len) (ok : progress_ok s.progress s.config.ram_len ≡ true) where
      request_ways : (c l : ℕ) (r : Request) → request_in s.progress.phase c l ≡ r → P (performed r s room ram)
      request_ways c l asks_name e = w.reply (name_reply h) (is_name h)
      request_ways c l asks_udi e = w.reply (udi_reply h s.config.udi) (is_udi h s.config.udi)
      request_ways c l gives_load e = load_ways
      request_ways c l gives_block e =
          let m = s.config.ram_len in
          let f = loading_facts s.progress m (block_loading s.progress.phase c l s.progress m e ok) in
          block_ways (stored s ram (rw fits f)) (next_ok s.progress.phase c l s.progress m e ok)
      request_ways c l (halts k) e = w.halt k (halt_number s.progress.phase c l k e)

    pub by_words : P (called (act_refusal s (length room) (length ram) n) s room ram)
    by_words =
        let k = act_refusal s (length room) (length ram) n in
        by_either P (eqb k 0) _ _
        (λ z.
        let a = act_admitted s (length room) (length ram) n (eqb-true k 0 z) in
        request_ways a.ram_same (range_facts s a.range).progress _ _ _ refl)
        (λ z. w.refused k refl (eqb-false k 0 z))

-- the call, with words of this number
pub act_called : (s : State) (room ram : List ℕ) (n : ℕ) (uds : List ℕ) → length uds ≡ n
    → acted s room ram uds ≡ called (act_refusal s (length room) (length ram) n) s room ram uds
unfolding acted
act_called s room ram n uds e = rw e

-- what holds of each way holds of the call
pub by_act : (s : State) (room ram uds : List ℕ) (P : Outcome → Type 0) → ActWays s room ram (length uds) (λ f. P (f uds))
    → P (acted s room ram uds)
unfolding acted
by_act s room ram uds P w = by_words s room ram (length uds) (λ f. P (f uds)) w
