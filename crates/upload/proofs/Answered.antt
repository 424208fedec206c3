-- A reply is read to its end, and a load that is answered succeeds.
use Prim.Native.Nat.{ℕ, ◌+◌, ◌-◌, ◌<◌, ◌≤◌, max}
use native.Mathlib.Omega.{arith}
use mathlib.Core.Path.{◌≡◌, refl, ap, ◌∙◌}
use mathlib.Core.Bool.{Bool, true, false, cond}
use mathlib.Core.List.{List, [], ◌∷◌, ◌++◌, append_assoc, append-nil}
use lib.Dec.{ltb}
use lib.ListN.{length, get_or, length-append}
use borrow.Author.Tests.{lt-ltb, le-ltb, lt-leb}
use Rattle.endian.proofs.Same.{same_refl}
use Rattle.framing.specs.Header.{fields_at, reply_body_len}
use Rattle.framing.proofs.Headers.{reply_small}
use Rattle.protocol.specs.Commands.{place_of}
use Rattle.client.specs.Replies.{Taking, taking_as, taking}
use Rattle.client.proofs.Proved.{taken_whole}
use Rattle.upload.specs.Upload.{is_over, Loaded, turn_of, sent_frame, after_reply, onward, replied, is_whole, received, silent, bytes_of, runs}
use Rattle.upload.specs.Theorems.{Heard, nothing, byte, silence, Answer, Loads, last, more}
use Rattle.upload.proofs.Held.{held, body_of, came, one_more, whole_is}
use Rattle.upload.specs.declared.Job.{Job}
use Rattle.upload.specs.declared.Exchange.{Exchange}
use Rattle.upload.specs.declared.Event.{Event}
use Rattle.upload.specs.declared.Event.TheVariants.{Byte}
use Rattle.upload.specs.declared.Next.{Next}
use Rattle.upload.specs.declared.Next.TheVariants.{Send, Wait, Over}
use Rattle.upload.specs.declared.Turn.{Turn}

-- ---- an event, by what it makes of the reply

module _ (job : Job) (k : ℕ) (r : List ℕ) (t b : ℕ) (h : length r < 129) where
  byte_turn : (w : Bool) → ltb (body_of (r ++ b ∷ [])) (length (r ++ b ∷ [])) ≡ w
      → received job (held k r t) b ≡ cond w (replied job (held k (r ++ b ∷ []) t)) (turn_of (held k (r ++ b ∷ []) t) Wait)
  unfolding received
  byte_turn w e =
      rw (le-ltb 128 (length r) (omega arith))
      (ap (λ (x : Exchange). cond (is_whole x) (replied job x) (turn_of x Wait)) (one_more k r t b h)
      ∙ ap (λ (v : Bool). cond v (replied job (held k (r ++ b ∷ []) t)) (turn_of (held k (r ++ b ∷ []) t) Wait))
      (whole_is k (r ++ b ∷ []) t ∙ e))

  last_byte : length (r ++ b ∷ []) ≡ 1 + body_of (r ++ b ∷ []) → received job (held k r t) b ≡ replied job (held k (r ++ b ∷ []) t)
  last_byte w = byte_turn true (lt-ltb (body_of (r ++ b ∷ [])) (length (r ++ b ∷ [])) (omega arith))

  next_byte : length (r ++ b ∷ []) ≤ body_of (r ++ b ∷ []) → received job (held k r t) b ≡ turn_of (held k (r ++ b ∷ []) t) Wait
  next_byte w = byte_turn false (le-ltb (body_of (r ++ b ∷ [])) (length (r ++ b ∷ [])) w)

tick : (k : ℕ) (r : List ℕ) (t : ℕ) → 1 < t → silent (held k r t) ≡ turn_of (held k r (t - 1)) Wait
unfolding silent
tick k r t h = rw (lt-leb t 1 h)

-- ---- a reply

-- a reply that is not all of a whole one
part : (r : List ℕ) (b c : ℕ) (s : List ℕ) → length (r ++ b ∷ c ∷ s) ≡ 1 + body_of (r ++ b ∷ c ∷ s)
    → length (r ++ b ∷ []) ≤ body_of (r ++ b ∷ [])
part [] b c s w = omega arith
part (h ∷ r) b c s w = let m = length-append r (b ∷ []) in let n = length-append r (b ∷ c ∷ s) in omega arith

-- and has room for a byte
short : (r s : List ℕ) (b : ℕ) → length (r ++ b ∷ s) ≡ 1 + body_of (r ++ b ∷ s) → length r < 129
short r s b w = let l = reply_small (get_or (r ++ b ∷ s) 0 0) in let n = length-append r (b ∷ s) in omega arith

hears : (job : Job) (k : ℕ) {s : List ℕ} {n : ℕ} {es : List Event} → Heard s n es → (rest : List Event) (r : List ℕ) (t : ℕ) (next : Next)
    → is_over next ≡ false → 0 < length s → length (r ++ s) ≡ 1 + body_of (r ++ s) → n < max 1 t
    → runs job (turn_of (held k r t) next) (es ++ rest) ≡ runs job (replied job (held k (r ++ s) (t - n))) rest
hears job k nothing rest r t next o h w i = absurd (omega arith)
hears job k (byte b [] n es nothing) rest r t next o h w i =
    let z : t - 0 ≡ t = omega arith in
    rw (o, z) (ap (λ (y : Turn). runs job y rest) (last_byte job k r t b (short r [] b w) w))
hears job k (byte b (c ∷ s) n es g) rest r t next o h w i =
    let a = append_assoc r (b ∷ []) (c ∷ s) in
    rw (o, ← a)
    (ap (λ (y : Turn). runs job y (es ++ rest)) (next_byte job k r t b (short r (c ∷ s) b w) (part r b c s w))
    ∙ hears job k g rest (r ++ b ∷ []) t Wait refl (omega arith) (rw a w) i)
hears job k (silence b s n es g) rest r t next o h w i =
    let d : t - 1 - n ≡ t - (n + 1) = omega arith in
    rw (o, ← d)
    (ap (λ (y : Turn). runs job y (es ++ rest)) (tick k r t (omega arith))
    ∙ hears job k g rest r (t - 1) Wait refl (omega arith) w (omega arith))

-- ---- bytes without silence

all_bytes : (r : List ℕ) → Heard r 0 (bytes_of r)
all_bytes [] = nothing
all_bytes (b ∷ r) = byte b r 0 (bytes_of r) (all_bytes r)

-- a reply that is taken, without silence
pub prompt : (job : Job) (k : ℕ) (d r : List ℕ) → taking job.len job.id k r ≡ taking_as 0 0 d → Answer job k d (bytes_of r)
prompt job k d r e =
    record {
      reply = r;
      silences = 0;
      heard = all_bytes r;
      whole = taken_whole job.len job.id k r (ap (λ (t : Taking). t.number) e);
      in_time = omega arith;
      taken = e;
    }

pub bytes_append : (r s : List ℕ) → bytes_of (r ++ s) ≡ bytes_of r ++ bytes_of s
bytes_append [] s = refl
bytes_append (b ∷ r) s = ap (λ (es : List Event). Byte b ∷ es) (bytes_append r s)

onward_next : (job : Job) (x : Exchange) (next : Next) → (onward job x next).next ≡ next
onward_next job x Send = refl
onward_next job x Wait = refl
onward_next job x (Over r) = refl

replied_next : (job : Job) (k : ℕ) (r : List ℕ) (t : ℕ)
    → (replied job (held k r t)).next ≡ after_reply job k (taking job.len job.id k r)
unfolding replied
replied_next job k r t = rw (came r) (onward_next job (held k r t) (after_reply job k (taking job.len job.id k r)))

pub reads : (job : Job) (k : ℕ) (r : List ℕ) → length r ≡ 1 + reply_body_len (fields_at (get_or r 0 0))
    → (runs job (turn_of (sent_frame job k) Send) (bytes_of r)).next ≡ after_reply job k (taking job.len job.id k r)
reads job k r w =
    rw (← (append-nil (bytes_of r)), hears job k (all_bytes r) [] [] job.wait Send refl (omega arith) w (omega arith))
    (replied_next job k r (job.wait - 0))

-- ---- a load

module _ (job : Job) (k : ℕ) (r : List ℕ) (t : ℕ) where
  goes_on : (d : List ℕ) → taking job.len job.id k r ≡ taking_as 0 0 d → place_of k < job.len
      → replied job (held k r t) ≡ turn_of (sent_frame job (k + 1)) Send
  unfolding replied
  goes_on d e l = rw (came r, e, lt-ltb (place_of k) job.len l)

  is_done : taking job.len job.id k r ≡ taking_as 0 0 job.digest → job.len ≤ place_of k
      → replied job (held k r t) ≡ turn_of (held k r t) Loaded
  unfolding replied
  is_done e l = rw (came r, e, le-ltb (place_of k) job.len l, same_refl job.digest)

-- the turn after an answer
answered : (job : Job) (k : ℕ) (d : List ℕ) (es rest : List Event) (a : Answer job k d es)
    → runs job (turn_of (sent_frame job k) Send) (es ++ rest) ≡ runs job (replied job (held k a.reply (job.wait - a.silences))) rest
answered job k d es rest a =
    let w = a.whole in hears job k a.heard rest [] job.wait Send refl (omega arith) w a.in_time

pub stays : (job : Job) (t : Turn) (es : List Event) → is_over t.next ≡ true → runs job t es ≡ t
stays job t [] o = refl
stays job t (e ∷ es) o = rw o

pub loaded : (job : Job) {k : ℕ} {es : List Event} → Loads job k es → (runs job (turn_of (sent_frame job k) Send) es).next ≡ Loaded
loaded job (last k es rest l a) =
    rw (answered job k job.digest es rest a, is_done job k a.reply (job.wait - a.silences) a.taken l)
    (ap (λ (t : Turn). t.next) (stays job (turn_of (held k a.reply (job.wait - a.silences)) Loaded) rest refl))
loaded job (more k d es rest l a s) =
    rw (answered job k d es rest a, goes_on job k a.reply (job.wait - a.silences) d a.taken l) (loaded job s)
