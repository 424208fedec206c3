-- The ends that a list of calls came to, the start among them, and what is measured then.
use Prim.Native.Nat.{ℕ, ◌+◌, ◌≤◌}
use mathlib.Core.Path.{◌≡◌, refl, sym, ap, ◌∙◌, subst}
use mathlib.Core.Logic.{⊎_elim}
use mathlib.Core.Bool.{Bool, true, false, cond}
use mathlib.Core.List.{List, [], ◌∷◌, ◌++◌, flatten}
use lib.ListN.{length, take}
use Rattle.endian.specs.Lists.{All, zeros}
use Rattle.endian.proofs.Cases.{impossible}
use Rattle.head.specs.Answers.{continues, whole, Outcome}
use Rattle.head.specs.Answers as head
use Rattle.head.specs.declared.State.{State}
use Rattle.session.specs.Reading.{Good, digest_of, own, Loads, needed, Starting}
use Rattle.session.specs.Session.{Loan, Entry, gathers, acts, report_in, Among, is_accepted, accepted}
use Rattle.session.proofs.Entries.{among_later, among_cases, among_none}
use Rattle.session.proofs.Walk.{Answered}
use Rattle.diagnosis.specs.Reasons.{Reason, stopped, missing, started}
use Rattle.diagnosis.specs.Reasons as reason
use Rattle.diagnosis.specs.Monitor.{Open, Started, Stopped, Monitor, nowhere, load_heard, block_heard, frame_heard, carried_in, by_verdict}
use Rattle.reasons.specs.Theorems.{is_measured, end_at, ends_of, goes_on, Stands}
use Rattle.head.specs.Start.{allowed}
use Rattle.head.specs.Act.{Request, asks_name, asks_udi, gives_load, gives_block, halts, takes}
use Rattle.head.proofs.Ranges.{never, by_test}
use Rattle.head.specs.declared.Stop.TheVariants.{Digest}
use Rattle.blake2s.specs.Stream.{update_context, finish_output}
use Rattle.protocol.specs.Commands.{is_last}
use Rattle.reasons.specs.Meaning.{Holds}
use Rattle.reasons.proofs.Monitors.{reason_in}

-- a monitor by its fields
pub monitor_is : (w : Monitor) (s : State) → w.verdict ≡ Open → w.head ≡ s
    → w ≡ record { head = s; hash = w.hash; position = w.position; verdict = Open; digest = w.digest }
monitor_is w s e h = rw (← e, ← h)

-- calls that are all refused come to no end
refused_end : (x : head.Report) (e : Entry) (es : List Entry) (i : ℕ) → cond (is_accepted x) (e ∷ es) es ≡ [] → (end_at x i ≡ []) × (es ≡ [])
refused_end (head.refused k) e es i q = (refl, q)
refused_end head.continues e es i q = impossible cc
refused_end head.whole e es i q = impossible cc
refused_end (head.stopped k) e es i q = impossible cc
refused_end (head.started a n) e es i q = impossible cc

pub no_ends : (i : ℕ) (es : List Entry) → accepted es ≡ [] → ends_of i es ≡ []
no_ends i [] q = refl
no_ends i (gathers b g ∷ es) q =
    let u = refused_end g.report (gathers b g) (accepted es) (i + 1) q in
    ap (λ (x : List Reason). x ++ ends_of (i + 1) es) u.0 ∙ no_ends (i + 1) es u.1
no_ends i (acts l o ∷ es) q =
    let u = refused_end o.report (acts l o) (accepted es) i q in
    ap (λ (x : List Reason). x ++ ends_of i es) u.0 ∙ no_ends i es u.1

-- an accepted acting of these answered a start
pub record StartIn (es : List Entry) : Type 0 where
  pub loan : Loan
  pub out : Outcome
  pub among : Among (acts loan out) (accepted es)
  pub answered : Answered out

-- a gathering is none, and neither is an acting after which the session goes on
pub start_later : (e : Entry) (es : List Entry) → StartIn es → StartIn (e ∷ es)
start_later e es x = record { loan = x.loan; out = x.out; among = more (is_accepted (report_in e)); answered = x.answered }
  where
    more : (t : Bool) → Among (acts x.loan x.out) (cond t (e ∷ accepted es) (accepted es))
    more true = among_later e _ (accepted es) x.among
    more false = x.among

pub start_before : (e : Entry) (es : List Entry) → ((l : Loan) (o : Outcome) → acts l o ≡ e → Answered o → ⊥) → StartIn (e ∷ es) → StartIn es
start_before e es n x =
    record { loan = x.loan; out = x.out; among = go (is_accepted (report_in e)) x.among; answered = x.answered }
  where
    go : (t : Bool) → Among (acts x.loan x.out) (cond t (e ∷ accepted es) (accepted es)) → Among (acts x.loan x.out) (accepted es)
    go true i = ⊎_elim (λ q. absurd (n x.loan x.out q x.answered)) (λ j. j) (among_cases e _ (accepted es) i)
    go false i = i

pub no_start : (es : List Entry) → accepted es ≡ [] → StartIn es → ⊥
no_start es e x = among_none _ (subst (Among (acts x.loan x.out)) e x.among)

-- a start is no other report
pub not_started : (l : Loan) (o : Outcome) (e : Entry) → acts l o ≡ e → Answered o → (x : head.Report) → report_in e ≡ x → end_at x 0 ≡ [] → ⊥
not_started l o e q a x r z = let y : end_at (head.started a.address a.size) 0 ≡ [] = ap (λ (t : head.Report). end_at t 0) (sym a.answers ∙ ap report_in q ∙ r) ∙ z in impossible cc

-- these bytes carry all of a program, and its digest was measured
pub record Measured (m : ℕ) (bytes : List ℕ) (w : Monitor) : Type 0 where
  pub frames : List (List ℕ)
  pub after : List ℕ
  pub reads : bytes ≡ flatten frames ++ after
  pub all_good : All Good frames
  pub load : Loads m (own frames)
  pub all_came : length load.blocks ≡ needed load
  pub digest : w.digest ≡ digest_of load.load load.blocks

-- what is claimed of a monitor that has heard these bytes
pub record Claims (rec : List ℕ) (m : ℕ) (bytes : List ℕ) (w : Monitor) : Type 0 where
  pub holds : Holds rec m bytes (reason_in w)
  pub all_read : goes_on (reason_in w) ≡ true → w.position.byte ≡ length bytes
  pub before_any : w.position.byte ≡ 0 → w.position ≡ nowhere
  pub stands : 1 ≤ w.position.byte → Stands bytes w.position.byte w.position.frame w.position.offset
  pub measured : is_measured (reason_in w) ≡ true → Measured m bytes w
  pub unmeasured : is_measured (reason_in w) ≡ false → w.digest ≡ zeros 32
  pub start_byte : reason_in w ≡ started → Starting rec [] m (take w.position.byte bytes)

-- where the head goes on nothing was measured
pub going_unmeasured : (x : Reason) → goes_on x ≡ true → is_measured x ≡ false
going_unmeasured (reason.refused k) e = refl
going_unmeasured (stopped k i) e = never (sym e)
going_unmeasured reason.unfinished e = refl
going_unmeasured reason.waiting e = refl
going_unmeasured (missing n) e = refl
going_unmeasured started e = never (sym e)

-- a whole frame leaves the digest, unless a program is measured with it
never_kept : (w : Monitor) (t : Bool) (d : List ℕ) → is_measured (by_verdict (cond t Started (Stopped Digest)) w.head w.position.byte) ≡ false → d ≡ w.digest
never_kept w true d e = never e
never_kept w false d e = never e

pub digest_stays : (r : Request) (w : Monitor) → is_measured (reason_in (frame_heard r w)) ≡ false → (frame_heard r w).digest ≡ w.digest
unfolding load_heard block_heard
digest_stays asks_name w = λ e. refl
digest_stays asks_udi w = λ e. refl
digest_stays gives_load w = by_test (λ (x : Monitor). is_measured (reason_in x) ≡ false → x.digest ≡ w.digest) (takes w.head) _ _ (λ t e. refl) (λ t e. refl)
digest_stays gives_block w =
    let p = w.head.progress in
    let d = finish_output (update_context w.hash (carried_in w.head)) (zeros 32) in
    by_test (λ (x : Monitor). is_measured (reason_in x) ≡ false → x.digest ≡ w.digest) (is_last p.size p.block) _ _
    (λ t. never_kept w (allowed w.head.config d) d) (λ t e. refl)
digest_stays (halts k) w = λ e. refl
