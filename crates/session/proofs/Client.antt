-- The client's frames on a head (specs/Client.antt): each call in turn, from begin's state to the start.
use Prim.Native.Nat.{ℕ, zero, suc, ◌-◌, ◌+◌, ◌<◌, ◌≤◌}
use mathlib.Core.Path.{◌≡◌, refl, sym, ap, ◌∙◌, subst}
use mathlib.Core.Bool.{Bool, true, false, cond}
use mathlib.Core.List.{List, [], ◌∷◌, ◌++◌, append_assoc, append-nil, tail-eq_of_cons-eq, flatten}
use native.Mathlib.Nat.{zero-add}
use native.Mathlib.Omega.{arith}
use lib.Dec.{eqb}
use lib.ListN.{length, get_or, take, replicate, length-drop}
use lib.Seq.{take_at}
use borrow.Author.Tests.{eqb-true, eqb-false, eq-eqb, ne_eqb}
use Rattle.rfc7693.proofs.Lengths.{digest_length}
use Rattle.rfc7693.specs.Rfc7693.{blake2s}
use Rattle.endian.specs.Endian.{bytes}
use Rattle.cdi.specs.Cdi.{cdi_string}
use Rattle.protocol.specs.Commands.{command_in, load_in, uses_uss, good_load, blocks_for}
use Rattle.protocol.specs.Replies.{sent, put_in, digest_reply}
use Rattle.protocol.specs.Theorems.{Framed, load_with, is_load, is_block, is_digest}
use Rattle.protocol.proofs.Proved.{protocol}
use Rattle.protocol.specs.declared.Load.{Load}
use Rattle.protocol.specs.declared.Reply.{Reply}
use Rattle.head.specs.Answers.{started, Gathering, Outcome}
use Rattle.head.specs.Gather.{gathered}
use Rattle.head.specs.Act.{acted}
use Rattle.head.proofs.Ranges.{never}
use Rattle.client.specs.Frames.{refusal, Secret, command_header}
use Rattle.client.specs.Replies.{taking_as, taking}
use Rattle.client.proofs.Proved.{client}
use Rattle.upload.proofs.Proved.{uploads}
use Rattle.upload.proofs.Jobs.{job_is}
use Rattle.session.specs.Reading.{body_of, size_of, program_of, digest_of, chained, measured_id}
use Rattle.session.specs.Session.{Reset, Loan, Call, gather, act, Entry, gathers, acts, report_in, log, is_accepted, accepted, gathered_bytes, OneRam, Session, all_of, accepted_of, is_end, is_acting}
use Rattle.session.specs.Boot.{Start}
use Rattle.session.specs.Client.{actings, frame, frames_to, frames, program_digest, Made, ReceivesFrames, Replied, Loads, ClientLoad}
use Rattle.session.proofs.Resets.{ReadsOn, AllowedOn}
use Rattle.session.proofs.Acting.{Leaves, ReplyTo, to_query, to_load, to_block, Replies}
use Rattle.session.proofs.Proved.{one_reading, one_last, first_live, begins, gives, session, sent_accepted, all_acted}
use Rattle.session.proofs.Calls.{ends_whole, Live, not_live, AfterGather, unfinished, complete, bad_header, AfterAct, goes_on, has_started, has_stopped}
use Rattle.session.proofs.Entries.{last_from, last_from_is, number_zero, nothing_started}
use Rattle.session.proofs.Walk.{Stands, is_live, is_full, gathering, acting_on}
use Rattle.session.proofs.ClientFrames as made
use Rattle.session.proofs.Positions.{Next, next}
use Rattle.session.proofs.Trace.{digest_none, digest_last, LoadTrace, gathers_on, acts_on, ends, Ended, ended, replies, laptop, loads_from}
use Rattle.head.specs.declared.State.{State}

-- ---- a list of which no call is refused

accepted_length : (es : List Entry) → length (accepted es) ≤ length es
accepted_length [] = omega arith
accepted_length (e ∷ es) = go (is_accepted (report_in e)) (accepted_length es)
  where
    go : (t : Bool) → length (accepted es) ≤ length es → length (cond t (e ∷ accepted es) (accepted es)) ≤ suc (length es)
    go true h = omega arith
    go false h = omega arith

none_refused : (e : Entry) (es : List Entry) → accepted (e ∷ es) ≡ e ∷ es → (is_accepted (report_in e) ≡ true) × (accepted es ≡ es)
none_refused e es = go (is_accepted (report_in e))
  where
    go : (t : Bool) → cond t (e ∷ accepted es) (accepted es) ≡ e ∷ es → (t ≡ true) × (accepted es ≡ es)
    go true q = (refl, tail-eq_of_cons-eq q)
    go false q = absurd (let l = accepted_length es in let n : length (accepted es) ≡ suc (length es) = ap length q in omega arith)

-- the string of a start by the load's flag and user secret
one_string : (uds id d : List ℕ) (chain : Bool) (n : ℕ) (u : Bool) (uss : List ℕ) (l : Load) → l ≡ load_with n (cond u 1 0) (cond u uss (replicate 32 0))
    → cdi_string uds chain id d (uses_uss l) l.uss ≡ cdi_string uds chain id d u uss
unfolding cdi_string
one_string uds id d chain n true uss l e = rw e refl
one_string uds id d chain n false uss l e = rw e refl

module _ (prog : List ℕ) (id : ℕ) (secret : Secret) (makes : Made prog id secret) where
  abbrev n : ℕ
  n = length prog

  some : 1 ≤ n
  some = ((client.accepts n id 0).0 makes.accepted).0

  not_refused : (k : ℕ) → k ≤ blocks_for n → refusal n id k ≡ 0
  not_refused k h = let g = (client.accepts n id 0).0 makes.accepted in (client.accepts n id k).1 (g.0, g.1, g.2, h)

  -- ---- a reply in the room, as the client takes it

  -- the bytes of a reply at the front of a room
  front : (room : List ℕ) (r : Reply) (o : Outcome) → Framed r → o.reply ≡ r.len + 1 → o.room ≡ put_in room (sent r) → take o.reply o.room ≡ sent r
  unfolding put_in
  front room r o f e q = rw (e, q) (take_at (sent r) _ (r.len + 1) f.1)

  command_of : (k : ℕ) → command_in (frame prog id secret (suc k)) ≡ 5
  command_of k = ap command_in (made.frame_suc prog id secret makes k) ∙ (made.is_block prog id secret makes k).1

  module _ (R : Reset) (fits : n ≤ length R.ram) where
    -- while the session goes on: the reply to frame k, which is not the last
    reply_taken : (k : ℕ) → k < blocks_for n → (f : List ℕ) → f ≡ frame prog id secret k → (r : Reply) → ReplyTo R f r
        → Framed r × (taking n id k (sent r) ≡ taking_as 0 0 (replicate 32 0))
    reply_taken k h f e r (to_query q s) =
        absurd (let w = ap length e ∙ made.whole prog id secret makes k in let d : length (body_of f) ≡ 1 = q.0 in omega (arith, length-drop 1 f))
    reply_taken zero h f e r (to_load l a ea g eg) =
        let b : a ≡ command_header id = ea ∙ ap (λ (x : List ℕ). get_or x 0 0) e in
        let m = length R.ram in
        let t : g ≡ true = eg ∙ ap (λ (x : List ℕ). good_load m (load_in x)) e ∙ (made.load_good prog id secret makes m fits).1 in
        rw (b, t) (protocol.lengths _ (is_load (command_header id) true), client.to_load n id true makes.accepted)
    reply_taken (suc k) h f e r (to_load l a ea g eg) =
        absurd (let c : command_in f ≡ 5 = ap command_in e ∙ command_of k in let d : command_in f ≡ 3 = l.1 in omega arith)
    reply_taken zero h f e r (to_block b a ea) =
        absurd (let c : command_in f ≡ 3 = ap command_in e ∙ (made.is_load prog id secret makes).1 in let d : command_in f ≡ 5 = b.1 in omega arith)
    reply_taken (suc k) h f e r (to_block b a ea) =
        let q : a ≡ command_header id = ea ∙ ap (λ (x : List ℕ). get_or x 0 0) e in
        let s : suc k - 1 + 1 ≡ suc k = omega arith in
        rw q (
          protocol.lengths _ (is_block (command_header id)),
          client.to_block n id (suc k) (not_refused (suc k) (omega arith)) (omega arith) (ne_eqb (blocks_for n) (suc k - 1 + 1) (λ z. omega arith)),
        )

    replied : (k : ℕ) → k < blocks_for n → (f bs room : List ℕ) (o : Outcome) → f ≡ frame prog id secret k
        → bs ≡ flatten (frames_to prog id secret (suc k)) → Replies R room f o → Replied prog id secret k bs o
    replied k h f bs room o e w r =
        let x = reply_taken k h f e r.is r.reply_to in
        record {
          frame_whole = w;
          taken = ap (taking n id k) (front room r.is o x.0 r.reply r.room_after) ∙ x.1 ∙ ap (taking_as 0 0) (sym (digest_none prog id secret k h));
        }

  -- ---- the last reply

  last_replied : (k : ℕ) → k ≡ blocks_for n → (bs room : List ℕ) (o : Outcome) → bs ≡ flatten (frames_to prog id secret (suc k)) → (h : ℕ) (d : List ℕ)
      → h ≡ command_header id → d ≡ program_digest prog id secret → o.reply ≡ 129 → o.room ≡ put_in room (sent (digest_reply h d)) → Replied prog id secret k bs o
  unfolding digest_reply
  last_replied k ek bs room o w h d eh ed er eq =
      let b : 1 ≤ k = (let s = some in omega arith) in
      let s : length d ≡ 32 = ap length ed ∙ digest_length prog in
      let z : blocks_for n ≡ k - 1 + 1 = omega arith in
      record {
        frame_whole = w;
        taken =
            ap (taking n id k) (front room (digest_reply h d) o (protocol.lengths _ (is_digest h d)) er eq)
            ∙ ap (λ (x : ℕ). taking n id k (sent (digest_reply x d))) eh
            ∙ client.to_last n id k d (not_refused k (omega arith)) b (eq-eqb (blocks_for n) (k - 1 + 1) z) s
            ∙ ap (taking_as 0 0) (ed ∙ sym (digest_last prog id secret k ek));
      }

  -- ---- each call in turn

  module _ (R : Reset) (fits : n ≤ length R.ram) (allows : AllowedOn R (program_digest prog id secret)) where
    reading : (received : List ℕ) → received ≡ flatten (frames prog id secret) → ReadsOn R received
    reading = made.reading prog id secret makes R fits allows

    -- the reply of a start
    start_replied : (k : ℕ) → k ≡ blocks_for n → (bs : List ℕ) (l : Loan) (o : Outcome) → bs ≡ flatten (frames_to prog id secret (suc k))
        → (w : ReadsOn R bs) → Leaves R w.loading.load w.loading.blocks (get_or w.last 0 0) l.room l.uds o → Replied prog id secret k bs o
    unfolding reading
    start_replied k ek bs l o e w x =
        let all : bs ≡ flatten (frames prog id secret) = e ∙ ap (λ (i : ℕ). flatten (frames_to prog id secret (suc i))) ek in
        let ours = reading bs all in
        let one = one_reading R bs w ours in
        let h : get_or w.last 0 0 ≡ command_header id =
        ap (λ (f : List ℕ). get_or f 0 0) (one_last R bs w ours) ∙ made.reading_last prog id secret makes R fits allows _ all in
        let d : digest_of w.loading.load w.loading.blocks ≡ program_digest prog id secret =
        ap (λ (f : List ℕ). digest_of f w.loading.blocks) one.1 ∙ ap (λ (f : List (List ℕ)). digest_of ours.loading.load f) one.2
        ∙ ap (λ (x : List ℕ). blake2s [] x 32) (made.reading_program prog id secret makes R fits allows _ all) in
        last_replied k ek bs l.room o e (get_or w.last 0 0) (digest_of w.loading.load w.loading.blocks) h d x.reply x.room_after

    -- calls after k actings, where bs was gathered and the frames go on
    abbrev Traced : List Call → Type 0
    Traced cs = (k : ℕ) (acting : Bool) (bs : List ℕ) (s : State) (r : List ℕ) → Stands R (frames_to prog id secret k) bs s r acting → OneRam r (log s cs)
        → accepted (log s cs) ≡ log s cs → last_from is_acting acting (log s cs) ≡ true → bs ++ gathered_bytes (log s cs) ≡ flatten (frames prog id secret)
        → LoadTrace prog id secret k bs (log s cs)

    no_calls : Traced []
    no_calls k acting bs s r (is_live v) one a t e = absurd (not_live R v (reading bs (sym (append-nil bs) ∙ e)))
    no_calls k acting bs s r (is_full f v n) one a t e = never (sym t ∙ n)

    gather_traced : (b : ℕ) (cs : List Call) → Traced cs → Traced (gather b ∷ cs)
    gather_traced b cs rest k acting bs s r v one a t e = after (gathering R _ bs s r acting b v (number_zero s (gather b) x.0))
      where
        g : Gathering
        g = gathered s b

        later : List Entry
        later = log g.state cs

        x : (is_accepted g.report ≡ true) × (accepted later ≡ later)
        x = none_refused (gathers b g) later a

        all : (bs ++ b ∷ []) ++ gathered_bytes later ≡ flatten (frames prog id secret)
        all = append_assoc bs (b ∷ []) (gathered_bytes later) ∙ e

        after : AfterGather R (frames_to prog id secret k) (bs ++ b ∷ []) r g → LoadTrace prog id secret k bs (gathers b g ∷ later)
        after (unfinished q u n) = gathers_on k bs b g later (ap is_end q) (rest k false (bs ++ b ∷ []) g.state r (is_live u) one x.1 t all)
        after (complete q f u) = gathers_on k bs b g later (ap is_end q) (rest k false (bs ++ b ∷ []) g.state r (is_full f u refl) one x.1 t all)
        after (bad_header q p z) = absurd (z (gathered_bytes later) (ends_whole (reading _ all)))

    -- the acting is not on the last frame, where the session goes on
    not_last : (k : ℕ) (bs rest f : List ℕ) → Next prog id secret makes (suc (blocks_for n)) k f bs rest → (ReadsOn R bs → ⊥) → k < blocks_for n
    not_last k bs rest f x z = go (eqb k (blocks_for n)) refl
      where
        go : (t : Bool) → eqb k (blocks_for n) ≡ t → k < blocks_for n
        go true q = absurd (z (reading bs (x.so_far ∙ ap (λ (i : ℕ). flatten (frames_to prog id secret (suc i))) (eqb-true k (blocks_for n) q))))
        go false q = let d = eqb-false k (blocks_for n) q in omega (arith, x.within, d)

    act_traced : (l : Loan) (cs : List Call) → Traced cs → Traced (act l ∷ cs)
    act_traced l cs rest k acting bs s r v one a t e =
        let y = acting_on R _ bs s r acting l v (number_zero s (act l) x.0) one.0 in
        let u = y.1 in
        after y.0 (next prog id secret makes (suc (blocks_for n)) k bs (gathered_bytes later) u.frames y.0 u.all_good u.whole u.owned e) y.2
      where
        o : Outcome
        o = acted s l.room l.ram l.uds

        later : List Entry
        later = log o.state cs

        x : (is_accepted o.report ≡ true) × (accepted later ≡ later)
        x = none_refused (acts l o) later a

        after : (f : List ℕ) → Next prog id secret makes (suc (blocks_for n)) k f bs (gathered_bytes later)
            → AfterAct R (frames_to prog id secret k) f bs l o → LoadTrace prog id secret k bs (acts l o ∷ later)
        after f y (goes_on q u c p) =
            let h : k < blocks_for n = not_last k bs (gathered_bytes later) f y (not_live R u) in
            let u' = subst (λ (f : List ℕ). Live R (frames_to prog id secret k ++ f ∷ []) bs o.state o.ram) y.is u in
            acts_on k bs l o later q h (replied R fits k h f bs l.room o y.is y.so_far p)
            (rest (suc k) true bs o.state o.ram (is_live u') one.1 x.1 t e)
        after f y (has_started w p d) =
            let c : suc (blocks_for n) ≡ suc k = y.last (d (gathered_bytes later) (reading _ e)) in
            let h : k ≡ blocks_for n = omega arith in
            subst (λ (es : List Entry). LoadTrace prog id secret k bs (acts l o ∷ es)) (sym (nothing_started o.state (length R.ram) cs p.state) ∙ x.1)
            (ends k bs l o 0x40000000 (size_of w.loading.load) p.report h (start_replied k h bs l o y.so_far w p))
        after f y (has_stopped j q p d) = absurd (d (gathered_bytes later) (reading _ e))

    load_trace : (cs : List Call) → Traced cs
    load_trace [] = no_calls
    load_trace (gather b ∷ cs) = gather_traced b cs (load_trace cs)
    load_trace (act l ∷ cs) = act_traced l cs (load_trace cs)

  -- ---- the list

  module _ (S : Session) (received : ReceivesFrames prog id secret S) where
    trace_of : LoadTrace prog id secret 0 [] (all_of S)
    trace_of =
        load_trace S.reset received.fits received.allowed S.calls 0 false [] _ S.ram
        (is_live (first_live S.reset S.ram (begins S))) (rw (← received.none_refused) S.one_ram) received.none_refused
        (sym (last_from_is is_acting (all_of S)) ∙ received.acted_on) received.bytes

    end : Ended prog id secret (all_of S)
    end = ended prog id secret 0 [] (all_of S) trace_of

    all_received : gathered_bytes (accepted_of S) ≡ flatten (frames prog id secret)
    all_received = ap gathered_bytes received.none_refused ∙ received.bytes

    abbrev start : Start S
    start =
        record {
          loan = end.loan;
          out = end.out;
          started_at =
              record {
                among = record { before = end.before; after = []; place = received.none_refused ∙ end.list };
                address = end.address;
                size = end.size;
                answers = end.answers;
              };
          reading = reading S.reset received.fits received.allowed (gathered_bytes (accepted_of S)) all_received;
        }

    -- the load of the reading, and its program
    load_is : load_in start.reading.loading.load ≡ load_with n (cond secret.used 1 0) (cond secret.used secret.uss (replicate 32 0))
    unfolding reading
    load_is = made.reading_load prog id secret makes S.reset received.fits received.allowed (gathered_bytes (accepted_of S)) all_received

    program_is : program_of start.reading.loading.load start.reading.loading.blocks ≡ prog
    unfolding reading
    program_is = made.reading_program prog id secret makes S.reset received.fits received.allowed (gathered_bytes (accepted_of S)) all_received

    loads : Loads prog id secret S
    loads =
        let g = (gives S start).start in
        record {
          start = start;
          before = end.before;
          last = end.list;
          not_before = end.not_before;
          report = g.report ∙ ap (λ (x : List ℕ). started 0x40000000 (length x)) program_is;
          front = ap (λ (x : List ℕ). take (length x) end.out.ram) (sym program_is) ∙ g.front ∙ program_is;
          cdi = g.cdi ∙ ap (λ (x : List ℕ). blake2s [] x 32)
              (ap (λ (x : List ℕ). cdi_string uds chain measured (blake2s [] x 32) (uses_uss load) load.uss) program_is
              ∙ one_string uds measured (program_digest prog id secret) chain n secret.used secret.uss load load_is);
          replies = λ l o i. rw (← zero-add (actings i.before)) (replies prog id secret 0 [] (all_of S) trace_of i.before i.after l o i.place);
          laptop = λ wait.
              rw (job_is prog id wait ((client.accepts (length prog) id 0).0 makes.accepted).1)
              ((uploads.loads (laptop prog id secret wait) _).1 (loads_from prog id secret wait 0 [] (all_of S) trace_of));
        }
      where
        uds : List ℕ
        uds = bytes end.loan.uds

        chain : Bool
        chain = chained S.reset.rec

        measured : List ℕ
        measured = measured_id S.reset.rec

        load : Load
        load = load_in start.reading.loading.load

pub client_load : ClientLoad
client_load =
    record {
      reads = made.reads;
      loads = loads;
      exists = λ program id secret makes R ram uds lent client same_length eight typed fits allows.
          let f = sent_accepted R ram uds program id secret makes lent client same_length eight typed fits allows in (
            session R ram uds program id secret makes lent client same_length eight typed fits allows,
            record {
              fits = omega arith;
              allowed = allows;
              bytes = f.all_bytes;
              none_refused = f.none_refused;
              acted_on = all_acted R ram uds program id secret makes lent client same_length eight typed fits allows;
            },
            refl,
            refl,
            f.same_uds,
          );
    }
