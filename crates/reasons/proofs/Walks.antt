-- The calls of a session that hears bytes, one after the other: what the monitor tells is true of the bytes, and it is the end that the session came to.
use Prim.Native.Nat.{ℕ, suc, ◌+◌, ◌-◌}
use mathlib.Core.Path.{◌≡◌, refl, sym, ap, ◌∙◌, subst}
use mathlib.Core.Logic.{◌↔◌, ◌⊎◌, inl, inr, ⊎_elim}
use mathlib.Core.Bool.{Bool, true, false, cond}
use mathlib.Core.List.{List, [], ◌∷◌, ◌++◌, append_assoc, append-nil, flatten}
use native.Mathlib.Omega.{arith}
use lib.Dec.{eqb}
use lib.ListN.{length, take}
use lib.Seq.{take-append_seam}
use borrow.Author.Tests.{ne_eqb, eq-eqb, le-ltb}
use Rattle.endian.proofs.Cases.{impossible}
use Rattle.framing.specs.Header.{stop, header_at}
use Rattle.protocol.specs.Commands.{blocks_for}
use Rattle.head.specs.State.{is_whole, idle, ended}
use Rattle.head.specs.Answers.{continues, whole, reports_whole, stop_number, Gathering, Outcome}
use Rattle.head.specs.Answers as head
use Rattle.head.specs.Gather.{Step, taken, bad, byte_step, after_step, gather_refusal, gathered}
use Rattle.head.specs.Act.{request_of, performed, acted}
use Rattle.head.proofs.Ranges.{never}
use Rattle.head.proofs.Admitted.{gather_admitted_as, act_admitted_as}
use Rattle.head.specs.declared.Phase.TheVariants as phase
use Rattle.head.specs.declared.Incoming.{Incoming}
use Rattle.head.specs.declared.Progress.{Progress}
use Rattle.head.specs.declared.State.{State}
use Rattle.head.specs.declared.Stop.{Stop}
use Rattle.head.specs.declared.Stop.TheVariants.{HeaderBit}
use Rattle.session.specs.Reading.{Good, own, size_of, type_of, Allowed, Starting}
use Rattle.session.specs.Session.{Reset, AsksClient, Admitted, Loan, Call, gather, act, Entry, gathers, acts, report_in, Among, log, is_accepted, accepted, OneRam}
use Rattle.session.proofs.Resets.{ReadsOn}
use Rattle.session.proofs.Frames.{own_more}
use Rattle.session.proofs.Gathering.{holding, Partial, Gathers, at_bad, at_part, at_passed, at_whole, length_snoc}
use Rattle.session.proofs.Gathering as gathering
use Rattle.session.proofs.Shapes.{all_last}
use Rattle.session.proofs.Acting.{at, Doing, is_waiting, is_loading}
use Rattle.session.proofs.Calls.{Live, Full, AfterGather, unfinished, complete, bad_header, after_gather, AfterAct, goes_on, has_started, has_stopped, after_act}
use Rattle.session.proofs.Entries.{among_first, number_of, call_taken, nothing_started, nothing_stopped}
use Rattle.session.proofs.Begins.{Runs, number_is, over_after, full_after, next_runs}
use Rattle.diagnosis.specs.Reasons.{Reason, stopped, started}
use Rattle.diagnosis.specs.Monitor.{Verdict, Open, Stopped, Monitor, open_reason, by_verdict, frame_heard, position_after, moved, ruled, by_report, is_open, heard_byte, heard}
use Rattle.diagnosis.specs.declared.Position.{Position}
use Rattle.reasons.specs.Meaning.{Waits, Misses, Whole, FrameAt, Asks, Holds}
use Rattle.reasons.specs.Meaning as meaning
use Rattle.reasons.specs.Theorems.{Stands, is_measured, Fits, Next, Hears, end_at, ends_of, end_in}
use Rattle.reasons.proofs.Closing.{loads_as}
use Rattle.reasons.proofs.Places.{Reads, begun, one_count, reads_part, reads_whole, stands_next}
use Rattle.reasons.proofs.Monitors.{reason_in, heard_after, open_goes}
use Rattle.reasons.proofs.Following.{Placed, seen, Follows, heard_byte_is, watching, Weighs, Why, why_command, why_length, why_digest, Agrees, both_go, both_stop, both_start, both}
use Rattle.diagnosis.proofs.Walk.{frame_stays}
use Rattle.reasons.proofs.Ends.{monitor_is, no_ends, StartIn, start_later, start_before, no_start, not_started, Measured, Claims, going_unmeasured, digest_stays}
use Rattle.endian.specs.Lists.{zeros}

module _ (R : Reset) (lent : Admitted R) (client : AsksClient R) where
  abbrev rec : List ℕ
  rec = R.rec

  abbrev m : ℕ
  m = length R.ram

  asks : Asks rec m
  asks =
      record { lent = record { record_length = lent.record_length; ram_some = lent.ram_some; ram_small = lent.ram_small }; client = client }

  -- types 4 and 5 know no built-in digest
  allowed_any : (x y d : List ℕ) → Allowed rec x d → Allowed rec y d
  allowed_any x y d a =
      record { built_in = λ z. absurd (⊎_elim (λ (e : type_of rec ≡ 4). omega arith) (λ (e : type_of rec ≡ 5). omega arith) client); recorded = a.recorded }

  -- what the monitor w tells after the bytes bs, where es are the calls after them
  pub record Tells (bs rest : List ℕ) (es : List Entry) (w : Monitor) : Type 0 where
    pub ends : ends_of (length bs) es ≡ end_in (reason_in w)
    pub starts : (reason_in w ≡ started) ↔ StartIn es
    pub claims : Claims rec m (bs ++ rest) w

  -- ---- while the head goes on

  waits_for : (fs os : List (List ℕ)) → own fs ≡ os → Waits m os → Waits m (own fs)
  waits_for fs os e a = subst (Waits m) (sym e) a

  abbrev misses_with : (fs os : List (List ℕ)) → own fs ≡ os → Misses m os → Misses m (own fs)
  misses_with fs os e x = record { so_far = loads_as m x.so_far (sym e); fewer = x.fewer }

  goes_with : (fs os : List (List ℕ)) (r : List ℕ) (p : Progress) → own fs ≡ os → Doing R r os p → Waits m (own fs) ⊎ Misses m (own fs)
  goes_with fs os r p e (is_waiting a) = inl (waits_for fs os e a)
  goes_with fs os r p e (is_loading g due t) = inr (misses_with fs os e (record { so_far = g; fewer = due }))

  -- the reason where no byte comes any more
  module _ (os : List (List ℕ)) (bs : List ℕ) (s : State) (r : List ℕ) (v : Live R os bs s r) where
    abbrev Endless : Reason → Type 0
    Endless x = ([] ≡ end_in x) × Holds rec m bs x

    abbrev whole_frames : bs ≡ flatten v.frames → Whole bs
    whole_frames e = record { frames = v.frames; reads = e; all_good = v.all_good }

    between_frames : bs ≡ flatten v.frames → (p : Progress) → Doing R r os p → Endless (open_reason (at R (holding []) p))
    between_frames e p (is_waiting a) =
        (refl, meaning.is_waiting asks (record { whole = whole_frames e; waits = waits_for v.frames os v.owned a }))
    between_frames e p (is_loading g due t) =
        let n = blocks_for (size_of g.load) in
        let k = length g.blocks in (
          refl,
          meaning.is_missing asks (n - k)
              (record {
                whole = whole_frames e;
                misses = misses_with v.frames os v.owned (record { so_far = g; fewer = due });
                count = omega (arith, due);
              }),
        )

    in_frame : (h : ℕ) (q : List ℕ) → Partial (h ∷ q) → bs ≡ flatten v.frames ++ h ∷ q → Endless (open_reason (at R (holding (h ∷ q)) v.progress))
    in_frame h q x e =
        rw (ne_eqb (length q + 1) 0 (λ z. omega arith)) (
          refl,
          meaning.is_unfinished asks
              (record {
                frames =
                    record {
                      before = v.frames;
                      rest = h ∷ q;
                      reads = e;
                      all_good = v.all_good;
                      goes_on = goes_with v.frames os r v.progress v.owned v.doing;
                    };
                id = x.id;
                ep = x.ep;
                n = x.n;
                header = x.header;
                begun = omega arith;
                short = omega (arith, x.short);
              }),
        )

    by_part : (q : List ℕ) → Partial q → bs ≡ flatten v.frames ++ q → Endless (open_reason (at R (holding q) v.progress))
    by_part [] x e = between_frames (e ∙ append-nil _) v.progress v.doing
    by_part (h ∷ q) x e = in_frame h q x e

    at_end : (w : Monitor) → Follows R os bs s w → Tells bs [] [] w
    at_end w f =
        let e : reason_in w ≡ open_reason (at R (holding v.part) v.progress) =
        ap (λ (x : Verdict). by_verdict x w.head w.position.byte) f.live ∙ ap open_reason f.head ∙ ap (λ (x : State). open_reason (seen R x)) v.state in
        let c = by_part v.part v.partial v.whole in
        record {
          ends = c.0 ∙ ap end_in (sym e);
          starts = (λ q. absurd (not_empty (c.0 ∙ ap end_in (sym e ∙ q))), λ x. absurd (no_start [] refl x));
          claims =
              record {
                holds = subst (λ (x : List ℕ). Holds rec m x (reason_in w)) (sym (append-nil bs)) (subst (Holds rec m bs) (sym e) c.1);
                all_read = λ q. f.placed.count ∙ ap length (sym (append-nil bs));
                before_any = f.placed.before_any;
                stands = f.placed.stands [];
                measured = λ q. never (sym q ∙ going_unmeasured (reason_in w) (open_goes w ∙ ap is_open f.live));
                unmeasured = λ q. f.blank;
                start_byte = λ q. absurd (not_empty (c.0 ∙ ap end_in (sym e ∙ q)));
              };
        }
      where
        not_empty : [] ≡ started ∷ [] → ⊥
        not_empty q = impossible cc

  -- ---- a byte that is a bad header

  -- a byte that is taken is no stop
  taken_stops : (i : Incoming) (s : State) → (after_step (taken i) s).report ≡ head.stopped 22 → ⊥
  taken_stops i s = go (is_whole i)
    where
      go : (t : Bool) → cond t whole continues ≡ head.stopped 22 → ⊥
      go true e = impossible cc
      go false e = impossible cc

  bad_byte : (q : List ℕ) (b : ℕ) (s : State) (x : Step) → Gathers q b x → (after_step x s).report ≡ head.stopped 22 → (q ≡ []) × (header_at b ≡ stop 22)
  bad_byte q b s x (at_bad p e z) n = (p, e)
  bad_byte q b s x (at_part p z) n = absurd (taken_stops (holding (q ++ b ∷ [])) s (ap (λ (y : Step). (after_step y s).report) (sym z) ∙ n))
  bad_byte q b s x (at_passed g o z) n = absurd (taken_stops idle s (ap (λ (y : Step). (after_step y s).report) (sym z) ∙ n))
  bad_byte q b s x (at_whole g o z) n = absurd (taken_stops (holding (q ++ b ∷ [])) s (ap (λ (y : Step). (after_step y s).report) (sym z) ∙ n))

  module _ (os : List (List ℕ)) (bs : List ℕ) (s : State) (r : List ℕ) (v : Live R os bs s r) (b : ℕ) (admits : gather_refusal s ≡ 0) where
    gathers_by : Gathers v.part b (byte_step s.incoming b)
    gathers_by = subst (λ (t : State). Gathers v.part b (byte_step t.incoming b)) (sym v.state) (gathering.gathers v.part b v.partial)

    bad_at : (gathered s b).report ≡ head.stopped 22 → (v.part ≡ []) × (header_at b ≡ stop 22)
    bad_at e =
        bad_byte v.part b s (byte_step s.incoming b) gathers_by
        (ap (λ (g : Gathering). g.report) (gather_admitted_as s b (sym admits)) ∙ e)

    header_stops : (rest : List ℕ) → (gathered s b).report ≡ head.stopped 22 → Holds rec m (bs ++ b ∷ rest) (stopped 22 (length bs + 1))
    header_stops rest e =
        let p = bad_at e in
        let w : bs ≡ flatten v.frames = v.whole ∙ ap (λ (x : List ℕ). flatten v.frames ++ x) p.0 ∙ append-nil _ in
        meaning.bad_header asks (length bs + 1)
        (record {
          frames =
              record {
                before = v.frames;
                rest = b ∷ rest;
                reads = ap (λ (x : List ℕ). x ++ b ∷ rest) w;
                all_good = v.all_good;
                goes_on = goes_with v.frames os r v.progress v.owned v.doing;
              };
          header = b;
          after = rest;
          next = refl;
          bad = p.1;
          place = ap (λ (x : List ℕ). length x + 1) w;
        })

  bad_stops : (s : State) (b : ℕ) → gather_refusal s ≡ 0 → byte_step s.incoming b ≡ bad → (gathered s b).report ≡ head.stopped 22
  bad_stops s b z e = ap (λ (g : Gathering). g.report) (sym (gather_admitted_as s b (sym z))) ∙ ap (λ (x : Step). (after_step x s).report) e

  -- ---- a whole frame

  module _ (os : List (List ℕ)) (f bs : List ℕ) (s : State) (r : List ℕ) (v : Full R os f bs s r) (rest : List ℕ) where
    abbrev frame_at : FrameAt (bs ++ rest) (length bs)
    frame_at =
        record {
          before = v.frames;
          frame = f;
          rest = rest;
          reads = ap (λ (x : List ℕ). x ++ rest) v.whole;
          all_good = v.all_good;
          to_firmware = v.last_own;
          place = ap length v.whole;
        }

    own_all : own (v.frames ++ f ∷ []) ≡ os ++ f ∷ []
    own_all = own_more v.frames f v.last_own ∙ ap (λ (x : List (List ℕ)). x ++ f ∷ []) v.owned

    by_phase : (W L : Type 0) → (Waits m os × W) ⊎ (Misses m os × L) → (Waits m (own v.frames) × W) ⊎ (Misses m (own v.frames) × L)
    by_phase W L (inl x) = inl (waits_for v.frames os v.owned x.0, x.1)
    by_phase W L (inr x) = inr (misses_with v.frames os v.owned x.0, x.1)

    frame_stops : (w : Monitor) (k : Stop) → Why R os f w k → Holds rec m (bs ++ rest) (stopped (stop_number k) (length bs))
    frame_stops w k (why_command x) =
        meaning.bad_command asks (length bs) (record { at = frame_at; not_allowed = by_phase _ _ x })
    frame_stops w k (why_length x) =
        meaning.bad_length asks (length bs) (record { at = frame_at; other_length = by_phase _ _ x })
    frame_stops w k (why_digest x a) =
        meaning.bad_digest asks (length bs)
        (record { at = frame_at; load = loads_as m x.load (sym own_all); all_came = x.all_came; barred = λ y. a (allowed_any [] _ _ y) })

    weighed : (w : Monitor) → Weighs R os f w → Measured m (bs ++ rest) w
    weighed w x =
        record {
          frames = v.frames ++ f ∷ [];
          after = rest;
          reads = ap (λ (y : List ℕ). y ++ rest) v.whole;
          all_good = v.all_good;
          load = loads_as m x.load (sym own_all);
          all_came = x.all_came;
          digest = x.digest;
        }

    -- of the stops only 25 comes after a measurement
    stop_weighed : (w : Monitor) (k : Stop) → Why R os f w k → is_measured (stopped (stop_number k) (length bs)) ≡ true → Measured m (bs ++ rest) w
    stop_weighed w k (why_command x) e = never (sym e)
    stop_weighed w k (why_length x) e = never (sym e)
    stop_weighed w k (why_digest x a) e = weighed w x

  starts_so : (bs : List ℕ) → ReadsOn R bs → Starting rec [] m bs
  starts_so bs w =
      record {
        before = w.before;
        last = w.last;
        all_good = w.all_good;
        nothing_left = w.nothing_left;
        last_own = w.last_own;
        last_block = w.last_block;
        loading = w.loading;
        enough = w.enough;
        allowed = allowed_any R.flash.built_in [] _ w.allowed;
      }

  start_holds : (bs rest : List ℕ) → ReadsOn R bs → Holds rec m (bs ++ rest) started
  start_holds bs rest w = meaning.has_started asks (record { received = bs; rest = rest; reads = refl; starting = starts_so bs w })

  -- ---- a call, and what the calls after it lead to

  gather_first : (bs rest : List ℕ) (b : ℕ) (g : Gathering) (es : List Entry) (w : Monitor) → end_at g.report (length bs + 1) ≡ [] → Tells (bs ++ b ∷ []) rest es w
      → Tells bs (b ∷ rest) (gathers b g ∷ es) w
  gather_first bs rest b g es w e t =
      record {
        ends = ap (λ (x : List Reason). x ++ ends_of (length bs + 1) es) e ∙ ap (λ (i : ℕ). ends_of i es) (sym (length_snoc bs b)) ∙ t.ends;
        starts = (
          λ q. start_later (gathers b g) es (t.starts.0 q),
          λ x. t.starts.1 (start_before (gathers b g) es (λ l o q a. impossible cc) x),
        );
        claims = subst (λ (x : List ℕ). Claims rec m x w) (append_assoc bs (b ∷ []) rest) t.claims;
      }

  act_first : (bs rest : List ℕ) (l : Loan) (o : Outcome) (es : List Entry) (w : Monitor) → o.report ≡ continues → Tells bs rest es w
      → Tells bs rest (acts l o ∷ es) w
  act_first bs rest l o es w e t =
      record {
        ends = ap (λ (x : List Reason). x ++ ends_of (length bs) es) (ap (λ (x : head.Report). end_at x (length bs)) e) ∙ t.ends;
        starts = (
          λ q. start_later (acts l o) es (t.starts.0 q),
          λ x. t.starts.1 (start_before (acts l o) es (λ k p q a. not_started k p (acts l o) q a continues e refl) x),
        );
        claims = t.claims;
      }

  -- the end of the session
  last_end : (i : ℕ) (es : List Entry) (x : head.Report) (y : Reason) → end_at x i ≡ end_in y → accepted es ≡ [] → end_at x i ++ ends_of i es ≡ end_in y
  last_end i es x y e n = ap (λ (z : List Reason). z ++ ends_of i es) e ∙ ap (λ (z : List Reason). end_in y ++ z) (no_ends i es n) ∙ append-nil (end_in y)

  -- a stop is no start
  no_starts : (e : Entry) (es : List Entry) (k i : ℕ) (x : Reason) → report_in e ≡ head.stopped k → x ≡ stopped k i → accepted es ≡ []
      → (x ≡ started) ↔ StartIn (e ∷ es)
  no_starts e es k i x r q n = (
    λ y. let z : stopped k i ≡ started = sym q ∙ y in impossible cc,
    λ y.
        absurd (no_start es n (start_before e es (λ l o p a. let z : head.started a.address a.size ≡ head.stopped k = sym a.answers ∙ ap report_in p ∙ r in impossible cc) y)),
  )

  -- the RAM after a gathering
  one_later : (b : ℕ) (g : Gathering) (r : List ℕ) (es : List Entry) (t : Bool) → OneRam r (cond t (gathers b g ∷ es) es) → OneRam r es
  one_later b g r es true o = o
  one_later b g r es false o = o

  -- what the calls that hear these bytes lead to
  abbrev Rest : List ℕ → Type 0
  Rest rest = (os : List (List ℕ)) (bs : List ℕ) (s : State) (r : List ℕ) (w : Monitor) (cs : List Call) → Live R os bs s r → Follows R os bs s w
      → Runs m s false false → Hears m rest (log s cs) → OneRam r (accepted (log s cs)) → Tells bs rest (log s cs) (heard w rest)

  -- an acting on the whole frame f
  module _ (rest : List ℕ) (next : Rest rest) (os : List (List ℕ)) (f bs : List ℕ) (s : State) (l : Loan) (u : Full R os f bs s l.ram) (fits : Fits m l)
      (w : Monitor) (follows : Follows R os bs s w) (cs : List Call) where
    abbrev heard_frame : Monitor
    heard_frame = frame_heard (request_of s) w

    agree : Agrees R os f (performed (request_of s) s l.room l.ram l.uds) heard_frame
    agree =
        let p : w ≡ watching R (at R (holding f) u.progress) w.hash w.position w.digest =
        monitor_is w (seen R (at R (holding f) u.progress)) follows.live (follows.head ∙ ap (seen R) u.state) in
        subst (λ (x : Monitor). Agrees R os f (performed (request_of s) s l.room l.ram l.uds) (frame_heard (request_of s) x)) (sym p)
        (subst (λ (x : State). Agrees R os f (performed (request_of x) x l.room l.ram l.uds)
        (frame_heard (request_of x) (watching R (at R (holding f) u.progress) w.hash w.position w.digest))) (sym u.state)
        (both R l.room l.ram l.uds fits.ram lent.ram_small client os w.hash w.position w.digest follows.hash f u.last_own
        (all_last Good u.frames f [] u.all_good) u.progress u.doing))

    placed : Placed bs heard_frame.position
    placed = subst (Placed bs) (sym (frame_stays (request_of s) w)) follows.placed

    still_blank : heard_frame.verdict ≡ Open → heard_frame.digest ≡ zeros 32
    still_blank e = digest_stays (request_of s) w (going_unmeasured (reason_in heard_frame) (open_goes heard_frame ∙ ap is_open e)) ∙ follows.blank

    told : (k : Stop) → heard_frame.verdict ≡ Stopped k → reason_in heard_frame ≡ stopped (stop_number k) (length bs)
    told k e =
        ap (λ (x : Verdict). by_verdict x heard_frame.head heard_frame.position.byte) e
        ∙ ap (stopped (stop_number k)) placed.count

    start_among : (o : Outcome) (a n : ℕ) → o.report ≡ head.started a n → (es : List Entry) → Among (acts l o) (accepted (acts l o ∷ es))
    start_among o a n e es = subst (λ (x : head.Report). Among (acts l o) (cond (is_accepted x) (acts l o ∷ accepted es) (accepted es))) (sym e) (among_first (acts l o) (accepted es))

    acted_tells : (o : Outcome) → Agrees R os f o heard_frame → AfterAct R os f bs l o
        → Runs m o.state (over_after false (acts l o)) (full_after true (acts l o)) → Hears m rest (log o.state cs) → OneRam o.ram (accepted (log o.state cs))
        → Tells bs rest (acts l o ∷ log o.state cs) (heard heard_frame rest)
    acted_tells o (both_go e v2 hd hs) (goes_on q v n p) x h one =
        act_first bs rest l o _ _ e
        (next (os ++ f ∷ []) bs o.state o.ram heard_frame cs v
        (record { live = v2; head = hd; hash = hs; placed = placed; blank = still_blank v2 }) (rw q at x) h one)
    acted_tells o (both_go e v2 hd hs) (has_started d y z) x h one =
        let q : head.continues ≡ head.started _ _ = sym e ∙ y.report in
        impossible cc
    acted_tells o (both_go e v2 hd hs) (has_stopped k q p z) x h one =
        let y : head.continues ≡ head.stopped k = sym e ∙ q in
        impossible cc
    acted_tells o (both_stop k e v why) (goes_on q y n p) x h one =
        let z : head.stopped (stop_number k) ≡ head.continues = sym e ∙ q in
        impossible cc
    acted_tells o (both_stop k e v why) (has_started d y z) x h one =
        let q : head.stopped (stop_number k) ≡ head.started _ _ = sym e ∙ y.report in
        impossible cc
    acted_tells o (both_stop k e v why) (has_stopped j q p z) x h one =
        rw (heard_after heard_frame rest (ap is_open v))
        record {
          ends = last_end (length bs) (log o.state cs) o.report (reason_in heard_frame) (ap (λ (y : head.Report). end_at y (length bs)) e ∙ ap end_in (sym (told k v))) (nothing_stopped o.state m cs p);
          starts = no_starts (acts l o) (log o.state cs) (stop_number k) (length bs) (reason_in heard_frame) e (told k v) (nothing_stopped o.state m cs p);
          claims =
              record {
                holds = subst (Holds rec m (bs ++ rest)) (sym (told k v)) (frame_stops os f bs s l.ram u rest heard_frame k why);
                all_read = λ y. never (sym y ∙ open_goes heard_frame ∙ ap is_open v);
                before_any = placed.before_any;
                stands = placed.stands rest;
                measured = λ y. stop_weighed os f bs s l.ram u rest heard_frame k why (ap is_measured (sym (told k v)) ∙ y);
                unmeasured = λ y. digest_stays (request_of s) w y ∙ follows.blank;
                start_byte = λ y. let z : stopped (stop_number k) (length bs) ≡ started = sym (told k v) ∙ y in impossible cc;
              };
        }
    acted_tells o (both_start a n e v x2) (goes_on q y j p) x h one =
        let z : head.started a n ≡ head.continues = sym e ∙ q in
        impossible cc
    acted_tells o (both_start a n e v x2) (has_started d y z) x h one =
        let t : reason_in heard_frame ≡ started = ap (λ (x : Verdict). by_verdict x heard_frame.head heard_frame.position.byte) v in
        rw (heard_after heard_frame rest (ap is_open v))
        record {
          ends = last_end (length bs) (log o.state cs) o.report (reason_in heard_frame) (ap (λ (y : head.Report). end_at y (length bs)) e ∙ ap end_in (sym t)) (nothing_started o.state m cs y.state);
          starts = (λ q. record { loan = l; out = o; among = start_among o a n e (log o.state cs); answered = record { address = a; size = n; answers = e } }, λ x. t);
          claims =
              record {
                holds = subst (Holds rec m (bs ++ rest)) (sym t) (start_holds bs rest d);
                all_read = λ y. never (sym y ∙ open_goes heard_frame ∙ ap is_open v);
                before_any = placed.before_any;
                stands = placed.stands rest;
                measured = λ y. weighed os f bs s l.ram u rest heard_frame x2;
                unmeasured = λ y. digest_stays (request_of s) w y ∙ follows.blank;
                start_byte = λ y. subst (Starting rec [] m) (sym (ap (λ (i : ℕ). take i (bs ++ rest)) placed.count ∙ take-append_seam bs rest)) (starts_so bs d);
              };
        }
    acted_tells o (both_start a n e v x2) (has_stopped k q p z) x h one =
        let y : head.started a n ≡ head.stopped k = sym e ∙ q in
        impossible cc

  -- a byte b, and the calls after it
  module _ (b : ℕ) (rest : List ℕ) (next : Rest rest) (os : List (List ℕ)) (bs : List ℕ) (s : State) (r : List ℕ) (v : Live R os bs s r) (w : Monitor)
      (follows : Follows R os bs s w) (cs : List Call) where
    reads : Reads bs v.frames v.part
    reads = record { reads = v.whole; all_good = v.all_good; partial = v.partial }

    got_is : w.head.incoming.got ≡ length v.part
    got_is = ap (λ (x : State). x.incoming.got) (follows.head ∙ ap (seen R) v.state) ∙ go v.part
      where
        go : (p : List ℕ) → (holding p).got ≡ length p
        go [] = refl
        go (h ∷ p) = omega arith

    abbrev next_place : Position
    next_place = position_after w.position w.head.incoming.got

    frame_is : next_place.frame ≡ length v.frames + 1
    frame_is = rw (got_is, follows.placed.frames v.frames v.part reads) (go v.part)
      where
        go : (p : List ℕ) → cond (eqb (length p) 0) (begun v.frames p + 1) (begun v.frames p) ≡ length v.frames + 1
        go [] = refl
        go (h ∷ p) = rw (ne_eqb (suc (length p)) 0 (λ z. omega arith))

    count_is : next_place.byte ≡ length bs + 1
    count_is = ap (λ (i : ℕ). i + 1) follows.placed.count

    byte_stands : (more : List ℕ) → Stands (bs ++ b ∷ more) next_place.byte next_place.frame next_place.offset
    byte_stands more =
        subst (Stands (bs ++ b ∷ more) next_place.byte next_place.frame) (sym got_is)
        (stands_next bs v.frames v.part b reads more next_place.byte next_place.frame count_is frame_is)

    -- the byte is not a bad header: it goes on with the frame, or ends it
    abbrev Reading : Type 0
    Reading = (fs : List (List ℕ)) (p : List ℕ) → Reads (bs ++ b ∷ []) fs p → length v.frames + 1 ≡ begun fs p

    byte_reads : (x : Step) → Gathers v.part b x → (x ≡ bad → ⊥) → Reading
    byte_reads x (at_bad p e z) n fs q y = absurd (n z)
    byte_reads x (at_part p z) n fs q y = grown v.part ∙ one_count (bs ++ b ∷ []) v.frames fs (v.part ++ b ∷ []) q (reads_part bs v.frames v.part b reads p) y
      where
        grown : (p : List ℕ) → length v.frames + 1 ≡ begun v.frames (p ++ b ∷ [])
        grown [] = refl
        grown (h ∷ p) = refl
    byte_reads x (at_passed g o z) n fs q y =
        sym (length_snoc v.frames (v.part ++ b ∷ [])) ∙ one_count (bs ++ b ∷ []) _ fs [] q (reads_whole bs v.frames v.part b reads g) y
    byte_reads x (at_whole g o z) n fs q y =
        sym (length_snoc v.frames (v.part ++ b ∷ [])) ∙ one_count (bs ++ b ∷ []) _ fs [] q (reads_whole bs v.frames v.part b reads g) y

    -- the monitor after it, where the head goes on in the state t
    now_follows : Reading → (t : State) → Follows R os (bs ++ b ∷ []) t (moved w (seen R t))
    now_follows y t =
        record {
          live = follows.live;
          head = refl;
          hash = follows.hash;
          placed =
              record {
                count = count_is ∙ sym (length_snoc bs b);
                frames = λ fs p x. frame_is ∙ y fs p x;
                stands = λ more n.
                    subst (λ (z : List ℕ). Stands z next_place.byte next_place.frame next_place.offset) (sym (append_assoc bs (b ∷ []) more)) (byte_stands more);
                before_any = λ n. absurd (omega arith);
              };
          blank = follows.blank;
        }

    frame_tells : Reading → (g : Gathering) (f : List ℕ) → Full R os f (bs ++ b ∷ []) g.state r → Runs m g.state false true → (ds : List Call)
        → Next m true (Hears m rest) (log g.state ds) → OneRam r (accepted (log g.state ds))
        → Tells (bs ++ b ∷ []) rest (log g.state ds) (heard (frame_heard (request_of g.state) (moved w (seen R g.state))) rest)
    frame_tells y g f u x [] h one = absurd h
    frame_tells y g f u x (gather c ∷ ds) h one = absurd h
    frame_tells y g f u x (act l ∷ ds) h one =
        let z : number_of g.state (act l) ≡ 0 =
        number_is m g.state false true (act l) x
        ∙ rw (le-ltb (length l.room) 129 h.0.room, eq-eqb (length l.ram) m h.0.ram, eq-eqb (length l.uds) 8 h.0.uds) in
        let o = acted g.state l.room l.ram l.uds in
        let a : OneRam r (acts l o ∷ accepted (log o.state ds)) = rw (call_taken g.state (act l) z) at one in
        let v = subst (Full R os f (bs ++ b ∷ []) g.state) (sym a.0) u in
        acted_tells rest next os f (bs ++ b ∷ []) g.state l v h.0 (moved w (seen R g.state)) (now_follows y g.state) ds o
        (subst (λ (z : Outcome). Agrees R os f z (frame_heard (request_of g.state) (moved w (seen R g.state)))) (act_admitted_as g.state l.room l.ram l.uds (sym z))
        (agree rest next os f (bs ++ b ∷ []) g.state l v h.0 (moved w (seen R g.state)) (now_follows y g.state) ds))
        (after_act R os f (bs ++ b ∷ []) g.state l v z) (next_runs m g.state false true (act l) x) h.1 a.1

    stop_tells : (g : Gathering) → g.report ≡ head.stopped 22 → g.state ≡ ended phase.Stopped m → Holds rec m (bs ++ b ∷ rest) (stopped 22 (length bs + 1))
        → Tells bs (b ∷ rest) (gathers b g ∷ log g.state cs) (heard (ruled (moved w w.head) (Stopped HeaderBit)) rest)
    stop_tells g e q h =
        let t : stopped 22 (length bs + 1) ≡ stopped 22 (w.position.byte + 1) = ap (λ (i : ℕ). stopped 22 (i + 1)) (sym follows.placed.count) in
        rw (heard_after (ruled (moved w w.head) (Stopped HeaderBit)) rest refl)
        record {
          ends =
              last_end (length bs + 1) (log g.state cs) g.report (stopped 22 (w.position.byte + 1))
              (ap (λ (y : head.Report). end_at y (length bs + 1)) e ∙ ap end_in t) (nothing_stopped g.state m cs q);
          starts = no_starts (gathers b g) (log g.state cs) 22 (w.position.byte + 1) (stopped 22 (w.position.byte + 1)) e refl (nothing_stopped g.state m cs q);
          claims =
              record {
                holds = subst (Holds rec m (bs ++ b ∷ rest)) t h;
                all_read = λ n. never (sym n);
                before_any = λ n. absurd (omega arith);
                stands = λ n. byte_stands rest;
                measured = λ n. never (sym n);
                unmeasured = λ n. follows.blank;
                start_byte = λ y. impossible cc;
              };
        }

    byte_tells : (g : Gathering) → AfterGather R os (bs ++ b ∷ []) r g → ((g.report ≡ head.stopped 22 → ⊥) → Reading) → (g.report ≡ head.stopped 22 → Holds rec m (bs ++ b ∷ rest) (stopped 22 (length bs + 1)))
        → Runs m g.state (over_after false (gathers b g)) (full_after false (gathers b g)) → Next m (reports_whole g.report) (Hears m rest) (log g.state cs)
        → OneRam r (accepted (log g.state cs)) → Tells bs (b ∷ rest) (gathers b g ∷ log g.state cs) (heard (by_report g.report (seen R g.state) w) rest)
    byte_tells g (unfinished e u n) i k x h one =
        let y = i (λ q. let z : continues ≡ head.stopped 22 = sym e ∙ q in impossible cc) in
        let j : Hears m rest (log g.state cs) = rw e at h in
        subst (λ (z : head.Report). Tells bs (b ∷ rest) (gathers b g ∷ log g.state cs) (heard (by_report z (seen R g.state) w) rest)) (sym e)
        (gather_first bs rest b g (log g.state cs) (heard (moved w (seen R g.state)) rest) (ap (λ (y : head.Report). end_at y (length bs + 1)) e)
        (next os (bs ++ b ∷ []) g.state r (moved w (seen R g.state)) cs u (now_follows y g.state) (rw e at x) j one))
    byte_tells g (complete e f u) i k x h one =
        let y = i (λ q. let z : whole ≡ head.stopped 22 = sym e ∙ q in impossible cc) in
        let j : Next m true (Hears m rest) (log g.state cs) = rw e at h in
        subst (λ (z : head.Report). Tells bs (b ∷ rest) (gathers b g ∷ log g.state cs) (heard (by_report z (seen R g.state) w) rest)) (sym e)
        (gather_first bs rest b g (log g.state cs) (heard (frame_heard (request_of g.state) (moved w (seen R g.state))) rest)
        (ap (λ (y : head.Report). end_at y (length bs + 1)) e) (frame_tells y g f u (rw e at x) cs j one))
    byte_tells g (bad_header e q z) i k x h one =
        subst (λ (z : head.Report). Tells bs (b ∷ rest) (gathers b g ∷ log g.state cs) (heard (by_report z (seen R g.state) w) rest)) (sym e)
        (stop_tells g e q (k e))

  pub walk : (rest : List ℕ) → Rest rest
  unfolding heard
  walk [] os bs s r w [] v f x h one = at_end os bs s r v w f
  walk [] os bs s r w (c ∷ cs) v f x h one = absurd h
  walk (b ∷ rest) os bs s r w [] v f x h one = absurd h
  walk (b ∷ rest) os bs s r w (act l ∷ cs) v f x h one = absurd h
  walk (b ∷ rest) os bs s r w (gather c ∷ cs) v f x h one =
      let z : gather_refusal s ≡ 0 = number_is m s false false (gather c) x in
      let e = heard_byte_is R os bs s w c f x.ram z in
      let t = byte_tells c rest (walk rest) os bs s r v w f cs (gathered s c) (after_gather R os bs s r v c z)
      (λ n. byte_reads c rest (walk rest) os bs s r v w f cs (byte_step s.incoming c) (gathers_by os bs s r v c z) (λ q. n (bad_stops s c z q)))
      (header_stops os bs s r v c z rest)
      (next_runs m s false false (gather c) x) h.1 (one_later c (gathered s c) r (accepted (log (gathered s c).state cs)) (is_accepted (gathered s c).report) one) in
      subst (λ (y : ℕ). Tells bs (y ∷ rest) (gathers c (gathered s c) ∷ log (gathered s c).state cs) (heard (heard_byte w y) rest)) h.0
      (subst (λ (y : Monitor). Tells bs (c ∷ rest) (gathers c (gathered s c) ∷ log (gathered s c).state cs) (heard y rest)) (sym e) t)
