-- A load succeeds exactly when each frame is answered.
use Prim.Native.Nat.{ℕ, ◌+◌, ◌-◌, ◌<◌, ◌≤◌, max}
use native.Mathlib.Omega.{arith}
use mathlib.Core.Path.{◌≡◌, refl, ap}
use mathlib.Core.Logic.{◌↔◌}
use mathlib.Core.Bool.{Bool, true, false, not, cond}
use mathlib.Core.List.{List, [], ◌∷◌, ◌++◌, append_assoc}
use lib.Dec.{ltb}
use lib.ListN.{length}
use borrow.Author.Tests.{le-leb, le-ltb}
use Rattle.endian.proofs.Cases.{impossible}
use Rattle.protocol.specs.Commands.{length_ok, place_of}
use Rattle.client.specs.Replies.{Taking, taking_as, taking}
use Rattle.upload.specs.Upload.{is_over, Loaded, Failed, turn_of, over, sent_frame, opening, runs}
use Rattle.upload.specs.Theorems.{Heard, nothing, byte, silence, Answer, Loads, last, more}
use Rattle.client.proofs.Numbers.{Given}
use Rattle.upload.proofs.Replies.{taken_given}
use Rattle.upload.proofs.Held.{held, body_of, by_held_reply, by_held_event}
use Rattle.upload.proofs.Answered.{stays, loaded}
use Rattle.upload.specs.declared.Job.{Job}
use Rattle.upload.specs.declared.Exchange.{Exchange}
use Rattle.upload.specs.declared.Event.{Event}
use Rattle.upload.specs.declared.Event.TheVariants.{Byte, Silence}
use Rattle.upload.specs.declared.Failure.{Failure}
use Rattle.upload.specs.declared.Failure.TheVariants.{ProgramLength, FrameId}
use Rattle.upload.specs.declared.Next.{Next}
use Rattle.upload.specs.declared.Next.TheVariants.{Send, Wait, Over}
use Rattle.upload.specs.declared.Turn.{Turn}

-- what follows the answer to frame k
data After (job : Job) (k : ℕ) (digest : List ℕ) (es : List Event) : Type 0 where
  done : job.len ≤ place_of k → digest ≡ job.digest → After job k digest es
  goes : place_of k < job.len → Loads job (k + 1) es → After job k digest es

-- a load that succeeds from where r has come of the reply to frame k, and t ticks are left
record Rest (job : Job) (k : ℕ) (r : List ℕ) (t : ℕ) (es : List Event) : Type 0 where
  coming : List ℕ
  silences : ℕ
  digest : List ℕ
  now : List Event
  later : List Event
  split : es ≡ now ++ later
  heard : Heard coming silences now
  some : 0 < length coming
  whole : length (r ++ coming) ≡ 1 + body_of (r ++ coming)
  in_time : silences < max 1 t
  taken : taking job.len job.id k (r ++ coming) ≡ taking_as 0 0 digest
  after : After job k digest later

-- from the frame on it is a load
from_frame : (job : Job) (k : ℕ) (es : List Event) → Rest job k [] job.wait es → Loads job k es
from_frame job k es o = rw o.split (go o.digest o.taken o.after)
  where
    answer : (d : List ℕ) → taking job.len job.id k o.coming ≡ taking_as 0 0 d → Answer job k d o.now
    answer d e = record { reply = o.coming; silences = o.silences; heard = o.heard; whole = o.whole; in_time = o.in_time; taken = e }

    go : (d : List ℕ) → taking job.len job.id k o.coming ≡ taking_as 0 0 d → After job k d o.later
        → Loads job k (o.now ++ o.later)
    go d e (done l p) = last k o.now o.later l (answer job.digest (rw (← p) e))
    go d e (goes l s) = more k d o.now o.later l (answer d e) s

-- ---- one event before

module _ (job : Job) (k : ℕ) (r : List ℕ) (t : ℕ) (es : List Event) where
  -- the byte that makes a reply whole
  whole_byte : (b : ℕ) (d : List ℕ) → length (r ++ b ∷ []) ≡ 1 + body_of (r ++ b ∷ [])
      → taking job.len job.id k (r ++ b ∷ []) ≡ taking_as 0 0 d → After job k d es → Rest job k r t (Byte b ∷ es)
  whole_byte b d w e a = record {
    coming = b ∷ [];
    silences = 0;
    digest = d;
    now = Byte b ∷ [];
    later = es;
    split = refl;
    heard = byte b [] 0 [] nothing;
    some = omega arith;
    whole = w;
    in_time = omega arith;
    taken = e;
    after = a;
  }

  one_byte : (b : ℕ) → Rest job k (r ++ b ∷ []) t es → Rest job k r t (Byte b ∷ es)
  one_byte b o =
      let a = append_assoc r (b ∷ []) o.coming in
      record {
        coming = b ∷ o.coming;
        silences = o.silences;
        digest = o.digest;
        now = Byte b ∷ o.now;
        later = o.later;
        split = ap (λ (l : List Event). Byte b ∷ l) o.split;
        heard = byte b o.coming o.silences o.now o.heard;
        some = omega arith;
        whole = rw a at o.whole;
        in_time = o.in_time;
        taken = rw a at o.taken;
        after = o.after;
      }

  one_tick : 1 < t → Rest job k r (t - 1) es → Rest job k r t (Silence ∷ es)
  one_tick h o = record {
    coming = o.coming;
    silences = o.silences + 1;
    digest = o.digest;
    now = Silence ∷ o.now;
    later = o.later;
    split = ap (λ (l : List Event). Silence ∷ l) o.split;
    heard = before o.coming o.some o.heard;
    some = o.some;
    whole = o.whole;
    in_time = let i = o.in_time in omega arith;
    taken = o.taken;
    after = o.after;
  }
    where
      before : (s : List ℕ) → 0 < length s → Heard s o.silences o.now → Heard s (o.silences + 1) (Silence ∷ o.now)
      before [] p g = absurd (omega arith)
      before (b ∷ s) p g = silence b s o.silences o.now g

-- ---- a load that succeeds

not_failed : (job : Job) (x : Exchange) (why : Failure) (es : List Event) → (runs job (over x why) es).next ≡ Loaded → {A : Type 0} → A
not_failed job x why es e = let s : Failed why ≡ Loaded = rw (stays job (over x why) es refl) at e in impossible cc

succeeds : (job : Job) (k : ℕ) (r : List ℕ) (t : ℕ) (next : Next) (es : List Event) → length r ≤ body_of r → is_over next ≡ false
    → (runs job (turn_of (held k r t) next) es).next ≡ Loaded → Rest job k r t es
succeeds job k r t Send [] s o e = impossible cc
succeeds job k r t Wait [] s o e = impossible cc
succeeds job k r t (Over why) [] s o e = impossible cc
succeeds job k r t next (e ∷ es) s o p =
    by_held_event job k r t e (λ (e : Event) (y : Turn). (runs job y es).next ≡ Loaded → Rest job k r t (e ∷ es)) s
    (λ x why q. not_failed job x why es q)
    (λ b w q. one_byte job k r t es b (succeeds job k (r ++ b ∷ []) t Wait es w refl q))
    (λ b w. by_held_reply job k (r ++ b ∷ []) t (λ (y : Turn). (runs job y es).next ≡ Loaded → Rest job k r t (Byte b ∷ es))
    (λ why q. not_failed job (held k (r ++ b ∷ []) t) why es q)
    (λ d a l q.
    let s = succeeds job (k + 1) [] job.wait Send es (omega arith) refl q in
    whole_byte job k r t es b d w a (goes l (from_frame job (k + 1) es s)))
    (λ a l q. whole_byte job k r t es b job.digest w a (done l refl)))
    (λ h q. one_tick job k r t es h (succeeds job k r (t - 1) Wait es s refl q))
    (rw o at p)

-- ---- from the opening on

-- its first frame is one that the client makes
given_first : {job : Job} {k : ℕ} {es : List Event} → Loads job k es → Given job.len job.id k
given_first {job} (last k es rest l a) = taken_given job.len job.id k a.reply (ap (λ (t : Taking). t.number) a.taken)
given_first {job} (more k d es rest l a s) = taken_given job.len job.id k a.reply (ap (λ (t : Taking). t.number) a.taken)

opened : (job : Job) → Given job.len job.id 0 → opening job ≡ turn_of (sent_frame job 0) Send
unfolding opening
opened job g = rw (le-leb 1 job.len g.some, le-leb job.len 131072 g.small, le-ltb 3 job.id g.id_small)

pub loads : (job : Job) (es : List Event) → ((runs job (opening job) es).next ≡ Loaded) ↔ Loads job 0 es
unfolding opening
loads job es = (go (length_ok job.len) (ltb 3 job.id), λ s. rw (opened job (given_first s)) (loaded job s))
  where
    go : (l i : Bool)
        → (runs job (turn_of (sent_frame job 0) (cond (not l) (Failed ProgramLength) (cond i (Failed FrameId) Send))) es).next ≡ Loaded → Loads job 0 es
    go false i e = not_failed job (sent_frame job 0) ProgramLength es e
    go true true e = not_failed job (sent_frame job 0) FrameId es e
    go true false e = from_frame job 0 es (succeeds job 0 [] job.wait Send es (omega arith) refl e)
