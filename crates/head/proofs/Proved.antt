-- The theorem of specs/Theorems.antt. Each claim about a call is shown for each way that it can go (`by_begin`, `by_gather`, `by_act`).
use Prim.Native.Nat.{ℕ, ◌+◌, ◌≤◌}
use mathlib.Core.Bool.{Bool, true, false, cond}
use mathlib.Core.Path.{◌≡◌, refl, sym, ap, ◌∙◌}
use mathlib.Core.Logic.{◌⊎◌, inl, inr, ⊎_elim}
use mathlib.Core.List.{List, []}
use native.Mathlib.Omega.{arith}
use Rattle.std.specs.Prelude.{Result as Tried, Ok, Err}
use lib.ListN.{length, take, drop, length-append, length-drop}
use lib.Seq.{take_at, drop_at, length-take-le}
use lib.Dec.{eqb}
use borrow.Author.Tests.{ne_eqb, eq-eqb, eqb-true, eqb-false}
use Rattle.endian.specs.Lists.{zeros}
use Rattle.endian.proofs.Cases.{impossible}
use Rattle.rfc7693.specs.Rfc7693.{blake2s}
use Rattle.protocol.specs.Commands.{length_ok}
use Rattle.head.specs.State.{is_whole, in_range, live, idle, ended}
use Rattle.head.specs.Answers.{Report, refused, continues, whole, stopped, started, refusal_number, stop_number, reported, cdi_in, digest_in, Gathering, Result, Outcome}
use Rattle.head.specs.Start.{unstarted, ending, starting}
use Rattle.head.specs.Begin.{Slot, Flash, program_in, fits as fitting, begin_refusal, beginning}
use Rattle.head.specs.Gather.{gather_refusal, with_incoming, gathered}
use Rattle.head.specs.Act.{act_refusal, refusing, acted}
use Rattle.head.specs.Theorems.{bare_of, given_by, HeadTheorems, with_uds, with_cdi, changed}
use Rattle.head.proofs.Ranges.{never, by_test, fit_facts, range_facts, is_in_range, ram_ok}
use Rattle.head.proofs.Admitted.{act_admitted}
use Rattle.head.proofs.Ways.{begun_with, by_secret, begin_called, by_begin, by_gather, Writes, called, by_words, act_called, by_act}
use Rattle.protocol.specs.Theorems.{is_digest}
use Rattle.protocol.proofs.Proved.{protocol}
use Rattle.protocol.specs.Replies.{sent, digest_reply, put_in}
use Rattle.protocol.specs.declared.Reply.{Reply}
use Rattle.head.proofs.Frames.{frame_whole, passed_over}
use Rattle.head.proofs.Statuses.{told, shows}
use Rattle.head.specs.declared.Phase.{Phase}
use Rattle.head.specs.declared.Phase.TheVariants as phase
use Rattle.head.specs.declared.Incoming.{Incoming}
use Rattle.head.specs.declared.State.{State}
use Rattle.head.specs.declared.Refusal.{Refusal}
use Rattle.head.specs.declared.Refusal.TheVariants.{StateRange, Ended, ReplyRoom, RamLength, SecretLength, RecordLength, RamSize, OutOfTurn}
use Rattle.head.specs.declared.Stop.{Stop}
use Rattle.head.specs.declared.Stop.TheVariants.{UnknownType, HeaderBit, Command, BodyLength, Digest, ProgramSize}
use Rattle.head.specs.declared.Answer.{Answer}
use Rattle.head.specs.declared.Answer.TheVariants.{Continue, Whole, Stopped, Started}

-- ---- the numbers settle the answer

abbrev refusal_of : ℕ → Refusal
refusal_of k =
    cond (eqb k 1) StateRange
    (cond (eqb k 2) Ended
    (cond (eqb k 3) ReplyRoom
    (cond (eqb k 4) RamLength
    (cond (eqb k 5) SecretLength
    (cond (eqb k 6) RecordLength
    (cond (eqb k 7) RamSize OutOfTurn))))))

refusal_back : (x : Refusal) → refusal_of (refusal_number x) ≡ x
refusal_back StateRange = refl
refusal_back Ended = refl
refusal_back ReplyRoom = refl
refusal_back RamLength = refl
refusal_back SecretLength = refl
refusal_back RecordLength = refl
refusal_back RamSize = refl
refusal_back OutOfTurn = refl

abbrev stop_of : ℕ → Stop
stop_of k =
    cond (eqb k 20) UnknownType
    (cond (eqb k 22) HeaderBit
    (cond (eqb k 23) Command
    (cond (eqb k 24) BodyLength
    (cond (eqb k 25) Digest ProgramSize))))

stop_back : (x : Stop) → stop_of (stop_number x) ≡ x
stop_back UnknownType = refl
stop_back HeaderBit = refl
stop_back Command = refl
stop_back BodyLength = refl
stop_back Digest = refl
stop_back ProgramSize = refl

-- the answer that reports this, and gives the CDI c and the digest d where it is a start
abbrev answer_of : Report → List ℕ → List ℕ → Tried Answer Refusal
answer_of (refused k) c d = Err (refusal_of k)
answer_of continues c d = Ok Continue
answer_of whole c d = Ok Whole
answer_of (stopped k) c d = Ok (Stopped (stop_of k))
answer_of (started a n) c d = Ok (Started (record { address = a; size = n; cdi = c; digest = d }))

answer_back : (x : Tried Answer Refusal) → answer_of (reported x) (given_by cdi_in x) (given_by digest_in x) ≡ x
answer_back (Err r) = ap Err (refusal_back r)
answer_back (Ok Continue) = refl
answer_back (Ok Whole) = refl
answer_back (Ok (Stopped s)) = ap (λ (k : Stop). Ok (Stopped k)) (stop_back s)
answer_back (Ok (Started x)) = refl

bare_back : (x : Tried Answer Refusal) → answer_of (reported x) [] [] ≡ bare_of x
bare_back (Err r) = ap Err (refusal_back r)
bare_back (Ok Continue) = refl
bare_back (Ok Whole) = refl
bare_back (Ok (Stopped s)) = ap (λ (k : Stop). Ok (Stopped k)) (stop_back s)
bare_back (Ok (Started x)) = refl

same_answer : (x y : Tried Answer Refusal) → reported x ≡ reported y
    → (bare_of x ≡ bare_of y) × (given_by cdi_in x ≡ given_by cdi_in y → given_by digest_in x ≡ given_by digest_in y → x ≡ y)
same_answer x y e = (
  sym (bare_back x) ∙ ap (λ (r : Report). answer_of r [] []) e ∙ bare_back y,
  λ c d. sym (answer_back x) ∙ ap (λ (r : Report). answer_of r (given_by cdi_in x) (given_by digest_in x)) e
      ∙ ap (λ (z : List ℕ). answer_of (reported y) z (given_by digest_in x)) c
      ∙ ap (λ (z : List ℕ). answer_of (reported y) (given_by cdi_in y) z) d ∙ answer_back y,
)

-- ---- the range

started_ok : (m : ℕ) → length_ok m ≡ true → in_range (ended phase.Started m) ≡ true
unfolding ended
started_ok m r = is_in_range (ended phase.Started m) r refl refl

stopped_ok : (m : ℕ) → length_ok m ≡ true → in_range (ended phase.Stopped m) ≡ true
unfolding ended
stopped_ok m r = is_in_range (ended phase.Stopped m) r refl refl

-- ---- gathering

module _ (s : State) (b : ℕ) where
  gather_stays : in_range s ≡ true → in_range (gathered s b).state ≡ true
  gather_stays =
      by_gather s b (λ (g : Gathering). in_range s ≡ true → in_range g.state ≡ true)
      (record {
        refused = λ k e n r. r;
        takes = λ i o l r. is_in_range _ (ram_ok s r) o (range_facts s r).progress;
        fails = λ r. stopped_ok s.config.ram_len (ram_ok s r);
      })

  -- what is reported of a byte that was taken
  taken_report : (i : Incoming) (P : Report → Type 0) → (is_whole i ≡ true → P whole) → (is_whole i ≡ false → P continues) → P (cond (is_whole i) whole continues)
  taken_report i P = by_test P (is_whole i) whole continues

  gather_refused : (k : ℕ) → (gathered s b).report ≡ refused k → (k ≡ gather_refusal s) × (k ≡ 0 → ⊥) × ((gathered s b).state ≡ s)
  gather_refused k =
      by_gather s b (λ (g : Gathering). g.report ≡ refused k → (k ≡ gather_refusal s) × (k ≡ 0 → ⊥) × (g.state ≡ s))
      (record {
        refused = λ j e n q. let z : k ≡ j = cc in (z ∙ e, λ x. n (sym z ∙ x), refl);
        takes = λ i o l.
            taken_report i (λ (x : Report). x ≡ refused k → (k ≡ gather_refusal s) × (k ≡ 0 → ⊥) × (with_incoming s i ≡ s)) (λ w q. impossible cc)
            (λ w q. impossible cc);
        fails = λ q. impossible cc;
      })

  gather_refused_when : (k : ℕ) → (k ≡ gather_refusal s) × (k ≡ 0 → ⊥) → (gathered s b).report ≡ refused k
  unfolding gathered
  gather_refused_when k h = rw (← h.0, ne_eqb k 0 h.1)

  abbrev GoesOn : Gathering → Type 0
  GoesOn g = (g.report ≡ continues) ⊎ (g.report ≡ whole) → (g.state ≡ with_incoming s g.state.incoming) × (live g.state.progress.phase ≡ true)

  gather_goes_on : GoesOn (gathered s b)
  gather_goes_on =
      by_gather s b GoesOn
      (record {
        refused = λ j e n q. ⊎_elim (λ (x : refused j ≡ continues). impossible cc) (λ (x : refused j ≡ whole). impossible cc) q;
        takes = λ i o l q. (refl, l);
        fails = λ q. ⊎_elim (λ (x : stopped 22 ≡ continues). impossible cc) (λ (x : stopped 22 ≡ whole). impossible cc) q;
      })

  gather_not_whole : (gathered s b).report ≡ continues → is_whole (gathered s b).state.incoming ≡ false
  gather_not_whole =
      by_gather s b (λ (g : Gathering). g.report ≡ continues → is_whole g.state.incoming ≡ false)
      (record {
        refused = λ j e n q. impossible cc;
        takes = λ i o l. taken_report i (λ (x : Report). x ≡ continues → is_whole i ≡ false) (λ w q. impossible cc) (λ w q. w);
        fails = λ q. impossible cc;
      })

  gather_is_whole : (gathered s b).report ≡ whole → is_whole (gathered s b).state.incoming ≡ true
  gather_is_whole =
      by_gather s b (λ (g : Gathering). g.report ≡ whole → is_whole g.state.incoming ≡ true)
      (record {
        refused = λ j e n q. impossible cc;
        takes = λ i o l. taken_report i (λ (x : Report). x ≡ whole → is_whole i ≡ true) (λ w q. w) (λ w q. impossible cc);
        fails = λ q. impossible cc;
      })

  abbrev GatherStops : ℕ → Gathering → Type 0
  GatherStops k g = g.report ≡ stopped k → (k ≡ 22) × (g.state ≡ ended phase.Stopped s.config.ram_len)

  gather_stops : (k : ℕ) → GatherStops k (gathered s b)
  gather_stops k =
      by_gather s b (GatherStops k)
      (record {
        refused = λ j e n q. impossible cc;
        takes = λ i o l.
            taken_report i (λ (x : Report). x ≡ stopped k → (k ≡ 22) × (with_incoming s i ≡ ended phase.Stopped s.config.ram_len))
            (λ w q. impossible cc) (λ w q. impossible cc);
        fails = λ q. (cc, refl);
      })

  gather_no_start : (a n : ℕ) → (gathered s b).report ≡ started a n → ⊥
  gather_no_start a n =
      by_gather s b (λ (g : Gathering). g.report ≡ started a n → ⊥)
      (record {
        refused = λ j e n q. impossible cc;
        takes = λ i o l. taken_report i (λ (x : Report). x ≡ started a n → ⊥) (λ w q. impossible cc) (λ w q. impossible cc);
        fails = λ q. impossible cc;
      })

-- ---- acting

module _ (s : State) (room ram uds : List ℕ) where
  abbrev m : ℕ
  m = s.config.ram_len

  -- the number that the call is refused with, 0 for none
  abbrev due : ℕ
  due = act_refusal s (length room) (length ram) (length uds)

  abbrev out : Outcome
  out = acted s room ram uds

  stays : in_range s ≡ true → in_range out.state ≡ true
  unfolding starting
  stays =
      by_act s room ram uds (λ (o : Outcome). in_range s ≡ true → in_range o.state ≡ true)
      (record {
        refused = λ k e n r. r;
        halt = λ w n r. stopped_ok m (ram_ok s r);
        reply = λ q f r. is_in_range _ (ram_ok s r) refl (range_facts s r).progress;
        progress = λ q f p ram1 o v y r. is_in_range _ (ram_ok s r) refl o;
        start = λ d ram1 y r. started_ok m (ram_ok s r);
        fail = λ d ram1 y r. stopped_ok m (ram_ok s r);
      })

  refused_only : (k : ℕ) → out.report ≡ refused k → (k ≡ due) × (k ≡ 0 → ⊥)
  unfolding starting
  refused_only k =
      by_act s room ram uds (λ (o : Outcome). o.report ≡ refused k → (k ≡ due) × (k ≡ 0 → ⊥))
      (record {
        refused = λ j e n q. let z : k ≡ j = cc in (z ∙ e, λ x. n (sym z ∙ x));
        halt = λ w n q. impossible cc;
        reply = λ r f q. impossible cc;
        progress = λ r f p ram1 o v y q. impossible cc;
        start = λ d ram1 y q. impossible cc;
        fail = λ d ram1 y q. impossible cc;
      })

  refused_when : (k : ℕ) → (k ≡ due) × (k ≡ 0 → ⊥) → out.report ≡ refused k
  unfolding acted
  refused_when k h = rw (← h.0, ne_eqb k 0 h.1)

  kept : (k : ℕ) → out.report ≡ refused k → out ≡ refusing k s room ram uds
  unfolding starting
  kept k =
      by_act s room ram uds (λ (o : Outcome). o.report ≡ refused k → o ≡ refusing k s room ram uds)
      (record {
        refused = λ j e n q. let z : j ≡ k = cc in ap (λ (x : ℕ). refusing x s room ram uds) z;
        halt = λ w n q. impossible cc;
        reply = λ r f q. impossible cc;
        progress = λ r f p ram1 o v y q. impossible cc;
        start = λ d ram1 y q. impossible cc;
        fail = λ d ram1 y q. impossible cc;
      })

  fits : out.reply ≤ 129
  unfolding starting
  fits =
      by_act s room ram uds (λ (o : Outcome). o.reply ≤ 129)
      (record {
        refused = λ k e n. omega arith;
        halt = λ k n. omega arith;
        reply = λ r f. let l = (protocol.lengths r f).0 in omega arith;
        progress = λ r f p ram1 o v y. let l = (protocol.lengths r f).0 in omega arith;
        start = λ d ram1 y. omega arith;
        fail = λ d ram1 y. omega arith;
      })

  abbrev Beyond : Outcome → Type 0
  Beyond o = drop o.reply o.room ≡ drop o.reply room

  after_reply : (r : Reply) (n : ℕ) → length (sent r) ≡ n → drop n (put_in room (sent r)) ≡ drop n room
  unfolding put_in
  after_reply r n e = drop_at (sent r) (drop (length (sent r)) room) n e ∙ ap (λ (k : ℕ). drop k room) e

  after_digest : (h : ℕ) (d : List ℕ) → drop 129 (put_in room (sent (digest_reply h d))) ≡ drop 129 room
  unfolding digest_reply
  after_digest h d = after_reply (digest_reply h d) 129 (protocol.lengths _ (is_digest h d)).1

  beyond : Beyond out
  unfolding starting
  beyond =
      by_act s room ram uds Beyond
      (record {
        refused = λ k e n. refl;
        halt = λ k n. refl;
        reply = λ r f. after_reply r (r.len + 1) (protocol.lengths r f).1;
        progress = λ r f p ram1 o v y. after_reply r (r.len + 1) (protocol.lengths r f).1;
        start = λ d ram1 y. after_digest s.incoming.header d;
        fail = λ d ram1 y. after_digest s.incoming.header d;
      })

  goes_on : out.report ≡ continues
      → (1 ≤ out.reply) × (out.state.incoming ≡ idle) × (out.state.config ≡ s.config) × (out.uds ≡ uds)
      × (out.cdi ≡ zeros 32) × (out.digest ≡ zeros 32)
  unfolding starting
  goes_on =
      by_act s room ram uds
      (λ (o : Outcome). o.report ≡ continues → (1 ≤ o.reply) × (o.state.incoming ≡ idle) × (o.state.config ≡ s.config) × (o.uds ≡ uds) × (o.cdi ≡ zeros 32) × (o.digest ≡ zeros 32))
      (record {
        refused = λ j e n q. impossible cc;
        halt = λ w n q. impossible cc;
        reply = λ r f q. (omega arith, refl, refl, refl, refl, refl);
        progress = λ r f p ram1 o v y q. (omega arith, refl, refl, refl, refl, refl);
        start = λ d ram1 y q. impossible cc;
        fail = λ d ram1 y q. impossible cc;
      })

  -- while the session goes on, the head is live
  was_live : out.report ≡ continues → live s.progress.phase ≡ true
  was_live q = go (eqb (due) 0) refl
    where
      go : (t : Bool) → eqb (due) 0 ≡ t → live s.progress.phase ≡ true
      go true z = (act_admitted s (length room) (length ram) (length uds) (eqb-true (due) 0 z)).goes
      go false z = let e = sym (refused_when (due) (refl, eqb-false (due) 0 z)) ∙ q in impossible cc

  lives : out.report ≡ continues → live out.state.progress.phase ≡ true
  unfolding starting
  lives r =
      by_act s room ram uds (λ (o : Outcome). o.report ≡ continues → live o.state.progress.phase ≡ true)
      (record {
        refused = λ j e n q. impossible cc;
        halt = λ w n q. impossible cc;
        reply = λ x f q. was_live r;
        progress = λ x f p ram1 o v y q. v (was_live r);
        start = λ d ram1 y q. impossible cc;
        fail = λ d ram1 y q. impossible cc;
      }) r

  no_whole : out.report ≡ whole → ⊥
  unfolding starting
  no_whole =
      by_act s room ram uds (λ (o : Outcome). o.report ≡ whole → ⊥)
      (record {
        refused = λ j e n q. impossible cc;
        halt = λ w n q. impossible cc;
        reply = λ r f q. impossible cc;
        progress = λ r f p ram1 o v y q. impossible cc;
        start = λ d ram1 y q. impossible cc;
        fail = λ d ram1 y q. impossible cc;
      })

  abbrev Stops : ℕ → Outcome → Type 0
  Stops k o =
      (23 ≤ k) × (k ≤ 25) × (o.state ≡ ended phase.Stopped m) × (o.uds ≡ uds) × (o.cdi ≡ zeros 32) × (o.digest ≡ zeros 32)
      × (o.reply ≡ cond (eqb k 25) 129 0) × ((k ≡ 25 → ⊥) → (o.room ≡ room) × (o.ram ≡ ram))

  stops : (k : ℕ) → out.report ≡ stopped k → Stops k out
  unfolding starting
  stops k =
      by_act s room ram uds (λ (o : Outcome). o.report ≡ stopped k → Stops k o)
      (record {
        refused = λ j e n q. impossible cc;
        halt = λ j n q.
            let z : k ≡ j = cc in
            let b : (23 ≤ k) × (k ≤ 24) = ⊎_elim (λ (x : j ≡ 23). (omega arith, omega arith)) (λ (x : j ≡ 24). (omega arith, omega arith)) n in
            (b.0, omega (arith, b.1), refl, refl, refl, refl, rw (ne_eqb k 25 (λ x. omega (arith, b.1))), λ x. (refl, refl));
        reply = λ r f q. impossible cc;
        progress = λ r f p ram1 o v y q. impossible cc;
        start = λ d ram1 y q. impossible cc;
        fail = λ d ram1 y q.
            let z : k ≡ 25 = cc in
            (omega arith, omega arith, refl, refl, refl, refl, rw (eq-eqb k 25 z), λ x. absurd (x z));
      })

  starts : (address size : ℕ) → out.report ≡ started address size
      → (address ≡ 0x40000000) × (size ≡ s.progress.size) × (out.state ≡ ended phase.Started m)
      × (out.uds ≡ zeros 8) × (out.reply ≡ 129)
  unfolding starting
  starts a n =
      by_act s room ram uds
      (λ (o : Outcome). o.report ≡ started a n
      → (a ≡ 0x40000000) × (n ≡ s.progress.size) × (o.state ≡ ended phase.Started m) × (o.uds ≡ zeros 8) × (o.reply ≡ 129))
      (record {
        refused = λ j e n q. impossible cc;
        halt = λ w n q. impossible cc;
        reply = λ r f q. impossible cc;
        progress = λ r f p ram1 o v y q. impossible cc;
        start = λ d ram1 y q. (cc, cc, refl, refl, refl);
        fail = λ d ram1 y q. impossible cc;
      })

  beyond_block : Writes s out.ram ram
  unfolding starting
  beyond_block =
      by_act s room ram uds (λ (o : Outcome). Writes s o.ram ram)
      (record {
        refused = λ k e n h. (refl, refl, refl);
        halt = λ k n h. (refl, refl, refl);
        reply = λ r f h. (refl, refl, refl);
        progress = λ r f p ram1 o v y. y;
        start = λ d ram1 y. y;
        fail = λ d ram1 y. y;
      })

  without_reply : out.reply ≡ 0 → out.ram ≡ ram
  unfolding starting
  without_reply =
      by_act s room ram uds (λ (o : Outcome). o.reply ≡ 0 → o.ram ≡ ram)
      (record {
        refused = λ k e n q. refl;
        halt = λ k n q. refl;
        reply = λ r f q. refl;
        progress = λ r f p ram1 o v y q. absurd (omega arith);
        start = λ d ram1 y q. absurd (omega arith);
        fail = λ d ram1 y q. absurd (omega arith);
      })

  abbrev Unread : (List ℕ → Outcome) → Type 0
  Unread f =
      ((a n : ℕ) → (f uds).report ≡ started a n → ⊥) → ((f uds).uds ≡ uds) × ((other : List ℕ) → f other ≡ changed (with_uds other) (f uds))

  unread : Unread (called (due) s room ram)
  unfolding starting
  unread =
      by_words s room ram (length uds) Unread
      (record {
        refused = λ j e n q. (refl, λ o. refl);
        halt = λ w n q. (refl, λ o. refl);
        reply = λ r f q. (refl, λ o. refl);
        progress = λ r f p ram1 o v y q. (refl, λ o. refl);
        start = λ d ram1 y q. absurd (q 0x40000000 s.progress.size refl);
        fail = λ d ram1 y q. (refl, λ o. refl);
      })

  secret : ((a n : ℕ) → out.report ≡ started a n → ⊥)
      → (out.uds ≡ uds)
      × ((other : List ℕ) → length other ≡ length uds → acted s room ram other ≡ changed (with_uds other) out)
  unfolding acted
  secret r = let u = unread r in (u.0, λ o e. act_called s room ram (length uds) o e ∙ u.1 o)

  abbrev OnlyCdi : ℕ → ℕ → (List ℕ → Outcome) → Type 0
  OnlyCdi a n f = (f uds).report ≡ started a n → (other : List ℕ) → f other ≡ changed (with_cdi (f other).cdi) (f uds)

  only_cdi : (a n : ℕ) → OnlyCdi a n (called (due) s room ram)
  unfolding starting
  only_cdi a n =
      by_words s room ram (length uds) (OnlyCdi a n)
      (record {
        refused = λ j e k q. impossible cc;
        halt = λ w k q. impossible cc;
        reply = λ r f q. impossible cc;
        progress = λ r f p ram1 o v y q. impossible cc;
        start = λ d ram1 y q o. refl;
        fail = λ d ram1 y q. impossible cc;
      })

  identity : (a n : ℕ) → out.report ≡ started a n → (other : List ℕ) → length other ≡ length uds
      → acted s room ram other ≡ changed (with_cdi (acted s room ram other).cdi) out
  unfolding acted
  identity a n r o e =
      let c = act_called s room ram (length uds) o e in
      c ∙ only_cdi a n r o ∙ ap (λ (x : Outcome). changed (with_cdi x.cdi) out) (sym c)

-- ---- after an end

ended_ok : (p : Phase) (m : ℕ) → live p ≡ false → length_ok m ≡ true → in_range (ended p m) ≡ true
ended_ok phase.Started m n r = started_ok m r
ended_ok phase.Stopped m n r = stopped_ok m r
ended_ok phase.Waiting m n r = never n
ended_ok phase.Loading m n r = never n

-- every call is refused with 2
abbrev Over : State → Type 0
Over s =
    ((b : ℕ) → gathered s b ≡ record { report = refused 2; state = s })
    × ((room ram uds : List ℕ) → acted s room ram uds ≡ refusing 2 s room ram uds)

over : (p : Phase) (m : ℕ) → live p ≡ false → length_ok m ≡ true → Over (ended p m)
unfolding gathered gather_refusal acted act_refusal ended
over p m n e = let r = ended_ok p m n e in (λ b. rw (r, n), λ room ram uds. rw (r, n))

-- ---- begin

-- a program in front of RAM
module _ (ram : List ℕ) (x : Slot) (h : fitting x.size (length x.bytes) (length ram) ≡ true) where
  fit : (1 ≤ x.size) × (x.size ≤ length x.bytes) × (x.size ≤ length ram)
  fit = fit_facts x.size (length x.bytes) (length ram) h

  program_length : length (program_in x) ≡ x.size
  program_length = length-take-le x.size x.bytes fit.1

  pub front_is : take x.size (put_in ram (program_in x)) ≡ program_in x
  unfolding put_in
  front_is = take_at (program_in x) (drop (length (program_in x)) ram) x.size program_length

  pub beyond_is : drop x.size (put_in ram (program_in x)) ≡ drop x.size ram
  unfolding put_in
  beyond_is = drop_at (program_in x) (drop (length (program_in x)) ram) x.size program_length ∙ ap (λ (k : ℕ). drop k ram) program_length

  pub put_length : length (put_in ram (program_in x)) ≡ length ram
  unfolding put_in
  put_length = let f = fit.2 in let l = program_length in rw (length-append, length-drop) (omega arith)

module _ (bytes udi : List ℕ) (f : Flash) (ram uds : List ℕ) where
  abbrev begun : Result
  begun = beginning bytes udi f ram uds

  -- the number that the call is refused with, 0 for none
  abbrev begin_due : ℕ
  begin_due = begin_refusal (length bytes) (length ram) (length uds)

  begin_range : in_range begun.state ≡ true
  unfolding starting
  begin_range =
      by_begin bytes udi f ram uds (λ (x : Result). in_range x.state ≡ true)
      (record {
        refused = λ k e n. stopped_ok 1 refl;
        wait = λ l. is_in_range _ l refl refl;
        unknown = λ l. stopped_ok (length ram) l;
        unfit = λ l. stopped_ok (length ram) l;
        start = λ l x h. started_ok (length ram) l;
        fail = λ l x h. stopped_ok (length ram) l;
      })

  begin_refused : (k : ℕ) → begun.report ≡ refused k → (k ≡ begin_due) × (k ≡ 0 → ⊥) × (begun ≡ ending (refused k) 1 ram uds)
  unfolding starting
  begin_refused k =
      by_begin bytes udi f ram uds
      (λ (x : Result). x.report ≡ refused k → (k ≡ begin_due) × (k ≡ 0 → ⊥) × (x ≡ ending (refused k) 1 ram uds))
      (record {
        refused = λ j e n q. let z : j ≡ k = cc in (sym z ∙ e, λ y. n (z ∙ y), ap (λ (y : ℕ). ending (refused y) 1 ram uds) z);
        wait = λ l q. impossible cc;
        unknown = λ l q. impossible cc;
        unfit = λ l q. impossible cc;
        start = λ l x h q. impossible cc;
        fail = λ l x h q. impossible cc;
      })

  begin_refused_when : (k : ℕ) → (k ≡ begin_due) × (k ≡ 0 → ⊥) → begun.report ≡ refused k
  unfolding beginning
  begin_refused_when k h = rw (← h.0, ne_eqb k 0 h.1)

  begin_goes_on : begun.report ≡ continues → begun ≡ unstarted continues begun.state ram uds
  unfolding starting
  begin_goes_on =
      by_begin bytes udi f ram uds (λ (x : Result). x.report ≡ continues → x ≡ unstarted continues x.state ram uds)
      (record {
        refused = λ j e n q. impossible cc;
        wait = λ l q. refl;
        unknown = λ l q. impossible cc;
        unfit = λ l q. impossible cc;
        start = λ l x h q. impossible cc;
        fail = λ l x h q. impossible cc;
      })

  begin_no_whole : begun.report ≡ whole → ⊥
  unfolding starting
  begin_no_whole =
      by_begin bytes udi f ram uds (λ (x : Result). x.report ≡ whole → ⊥)
      (record {
        refused = λ j e n q. impossible cc;
        wait = λ l q. impossible cc;
        unknown = λ l q. impossible cc;
        unfit = λ l q. impossible cc;
        start = λ l x h q. impossible cc;
        fail = λ l x h q. impossible cc;
      })

  abbrev BeginStops : ℕ → Result → Type 0
  BeginStops k x =
      ((k ≡ 20) ⊎ ((k ≡ 25) ⊎ (k ≡ 26))) × (x ≡ ending (stopped k) (length ram) x.ram uds) × ((k ≡ 25 → ⊥) → x.ram ≡ ram)

  stop_as : (j k : ℕ) (ram1 : List ℕ) → j ≡ k → ending (stopped j) (length ram) ram1 uds ≡ ending (stopped k) (length ram) ram1 uds
  stop_as j k ram1 e = ap (λ (y : ℕ). ending (stopped y) (length ram) ram1 uds) e

  begin_stops : (k : ℕ) → begun.report ≡ stopped k → BeginStops k begun
  unfolding starting
  begin_stops k =
      by_begin bytes udi f ram uds (λ (x : Result). x.report ≡ stopped k → BeginStops k x)
      (record {
        refused = λ j e n q. impossible cc;
        wait = λ l q. impossible cc;
        unknown = λ l q. let z : k ≡ 20 = cc in (inl z, stop_as 20 k ram (sym z), λ y. refl);
        unfit = λ l q. let z : k ≡ 26 = cc in (inr (inr z), stop_as 26 k ram (sym z), λ y. refl);
        start = λ l x h q. impossible cc;
        fail = λ l x h q. let z : k ≡ 25 = cc in (inr (inl z), stop_as 25 k _ (sym z), λ y. absurd (y z));
      })

  abbrev BeginStarts : ℕ → ℕ → Result → Type 0
  BeginStarts a n x =
      (a ≡ 0x40000000) × (1 ≤ n) × (n ≤ length ram) × (x.state ≡ ended phase.Started (length ram)) × (x.uds ≡ zeros 8)
      × (x.digest ≡ blake2s [] (take n x.ram) 32) × (drop n x.ram ≡ drop n ram)

  begin_starts : (a n : ℕ) → begun.report ≡ started a n → BeginStarts a n begun
  unfolding starting
  begin_starts a n =
      by_begin bytes udi f ram uds (λ (x : Result). x.report ≡ started a n → BeginStarts a n x)
      (record {
        refused = λ j e n q. impossible cc;
        wait = λ l q. impossible cc;
        unknown = λ l q. impossible cc;
        unfit = λ l q. impossible cc;
        start = λ l x h q.
            let z : x.size ≡ n = cc in
            let g = fit ram x h in
            rw (← z) (cc, g.0, g.2, refl, refl, ap (λ (p : List ℕ). blake2s [] p 32) (sym (front_is ram x h)), beyond_is ram x h);
        fail = λ l x h q. impossible cc;
      })

  begin_length : length begun.ram ≡ length ram
  unfolding starting
  begin_length =
      by_begin bytes udi f ram uds (λ (x : Result). length x.ram ≡ length ram)
      (record {
        refused = λ j e n. refl;
        wait = λ l. refl;
        unknown = λ l. refl;
        unfit = λ l. refl;
        start = λ l x h. put_length ram x h;
        fail = λ l x h. put_length ram x h;
      })

  abbrev BeginUnread : (List ℕ → Result) → Type 0
  BeginUnread g =
      ((a n : ℕ) → (g uds).report ≡ started a n → ⊥) → ((g uds).uds ≡ uds) × ((other : List ℕ) → g other ≡ with_uds other (g uds))

  begin_unread : BeginUnread (begun_with bytes udi f ram begin_due)
  unfolding starting
  begin_unread =
      by_secret bytes udi f ram (length uds) BeginUnread
      (record {
        refused = λ j e n q. (refl, λ o. refl);
        wait = λ l q. (refl, λ o. refl);
        unknown = λ l q. (refl, λ o. refl);
        unfit = λ l q. (refl, λ o. refl);
        start = λ l x h q. absurd (q 0x40000000 x.size refl);
        fail = λ l x h q. (refl, λ o. refl);
      })

  begin_secret : ((a n : ℕ) → begun.report ≡ started a n → ⊥)
      → (begun.uds ≡ uds) × ((other : List ℕ) → length other ≡ length uds → beginning bytes udi f ram other ≡ with_uds other begun)
  unfolding beginning
  begin_secret r = let u = begin_unread r in (u.0, λ o e. begin_called bytes udi f ram (length uds) o e ∙ u.1 o)

  abbrev BeginOnlyCdi : ℕ → ℕ → (List ℕ → Result) → Type 0
  BeginOnlyCdi a n g = (g uds).report ≡ started a n → (other : List ℕ) → g other ≡ with_cdi (g other).cdi (g uds)

  begin_only_cdi : (a n : ℕ) → BeginOnlyCdi a n (begun_with bytes udi f ram begin_due)
  unfolding starting
  begin_only_cdi a n =
      by_secret bytes udi f ram (length uds) (BeginOnlyCdi a n)
      (record {
        refused = λ j e k q. impossible cc;
        wait = λ l q. impossible cc;
        unknown = λ l q. impossible cc;
        unfit = λ l q. impossible cc;
        start = λ l x h q o. refl;
        fail = λ l x h q. impossible cc;
      })

  begin_identity : (a n : ℕ) → begun.report ≡ started a n → (other : List ℕ) → length other ≡ length uds
      → beginning bytes udi f ram other ≡ with_cdi (beginning bytes udi f ram other).cdi begun
  unfolding beginning
  begin_identity a n r o e =
      let c = begin_called bytes udi f ram (length uds) o e in
      c ∙ begin_only_cdi a n r o ∙ ap (λ (x : Result). with_cdi x.cdi begun) (sym c)

  begin_over : (begun.report ≡ continues → ⊥) → Over begun.state
  unfolding starting
  begin_over =
      by_begin bytes udi f ram uds (λ (x : Result). (x.report ≡ continues → ⊥) → Over x.state)
      (record {
        refused = λ j e n q. over phase.Stopped 1 refl refl;
        wait = λ l q. absurd (q refl);
        unknown = λ l q. over phase.Stopped (length ram) refl l;
        unfit = λ l q. over phase.Stopped (length ram) refl l;
        start = λ l x h q. over phase.Started (length ram) refl l;
        fail = λ l x h q. over phase.Stopped (length ram) refl l;
      })

pub head_theorems : HeadTheorems
head_theorems = record {
  answers = same_answer;
  begin = λ bytes udi f ram uds. record {
    range = begin_range bytes udi f ram uds;
    refuses = λ k. (λ e. let r = begin_refused bytes udi f ram uds k e in (r.0, r.1), begin_refused_when bytes udi f ram uds k);
    kept = λ k e. (begin_refused bytes udi f ram uds k e).2;
    goes_on = begin_goes_on bytes udi f ram uds;
    no_whole = begin_no_whole bytes udi f ram uds;
    stops = begin_stops bytes udi f ram uds;
    starts = begin_starts bytes udi f ram uds;
    ram_length = begin_length bytes udi f ram uds;
    secret = begin_secret bytes udi f ram uds;
    identity = begin_identity bytes udi f ram uds;
    over = begin_over bytes udi f ram uds;
  };
  gather = λ s b. record {
    stays = gather_stays s b;
    refuses = λ k. (λ e. let r = gather_refused s b k e in (r.0, r.1), gather_refused_when s b k);
    kept = λ k e. (gather_refused s b k e).2;
    goes_on = λ q. (gather_goes_on s b q).0;
    not_whole = gather_not_whole s b;
    has_whole = gather_is_whole s b;
    lives = λ q. (gather_goes_on s b q).1;
    stops = gather_stops s b;
    no_start = gather_no_start s b;
  };
  act = λ s room ram uds. record {
    stays = stays s room ram uds;
    refuses = λ k. (refused_only s room ram uds k, refused_when s room ram uds k);
    kept = kept s room ram uds;
    fits = fits s room ram uds;
    beyond = beyond s room ram uds;
    told = told s room ram uds;
    shows = shows s room ram uds;
    beyond_block = beyond_block s room ram uds;
    without_reply = without_reply s room ram uds;
    goes_on = goes_on s room ram uds;
    lives = lives s room ram uds;
    no_whole = no_whole s room ram uds;
    stops = stops s room ram uds;
    starts = starts s room ram uds;
    secret = secret s room ram uds;
    identity = identity s room ram uds;
  };
  frame = frame_whole;
  passed_over = passed_over;
}
