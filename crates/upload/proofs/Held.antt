-- An exchange as a function of the bytes of the reply that have come, and what a turn makes of it.
use Prim.Native.Nat.{ℕ, suc, ◌+◌, ◌-◌, ◌<◌, ◌≤◌}
use native.Mathlib.Omega.{arith}
use mathlib.Core.Path.{◌≡◌, refl, sym, ap, ◌∙◌}
use mathlib.Core.Bool.{Bool}
use mathlib.Core.List.{List, [], ◌∷◌, ◌++◌, append_assoc}
use lib.ListN.{length, get_or, set, replicate, length-append}
use lib.Seq.{take-append_seam, set-append_seam}
use lib.Dec.{ltb}
use borrow.Author.Tests.{ltb-true, ltb-false}
use Rattle.endian.specs.Lists.{padded}
use Rattle.framing.specs.Header.{fields_at, reply_body_len}
use Rattle.framing.proofs.Headers.{reply_small}
use Rattle.protocol.specs.Commands.{place_of}
use Rattle.client.specs.Replies.{taking_as, taking}
use Rattle.upload.specs.Upload.{Loaded, turn_of, over, sent_frame, came_of, replied, with_byte, is_whole, turned}
use Rattle.upload.proofs.Turns.{by_reply, by_event}
use Rattle.upload.specs.declared.Job.{Job}
use Rattle.upload.specs.declared.Exchange.{Exchange}
use Rattle.upload.specs.declared.Event.{Event}
use Rattle.upload.specs.declared.Event.TheVariants.{Byte, Silence}
use Rattle.upload.specs.declared.Failure.{Failure}
use Rattle.upload.specs.declared.Next.TheVariants.{Send, Wait}
use Rattle.upload.specs.declared.Turn.{Turn}

-- frame k, of whose reply r has come; `sent_frame` where nothing has
abbrev pub held : ℕ → List ℕ → ℕ → Exchange
held k r t = record { k = k; got = length r; reply = padded 129 r; ticks = t }

abbrev pub body_of : List ℕ → ℕ
body_of r = reply_body_len (fields_at (get_or r 0 0))

-- a reply that is not whole has room for another byte
pub room : (r : List ℕ) → length r ≤ body_of r → length r < 129
room r s = let b = reply_small (get_or r 0 0) in omega arith

pub one_more : (k : ℕ) (r : List ℕ) (t b : ℕ) → length r < 129 → with_byte (held k r t) b ≡ held k (r ++ b ∷ []) t
one_more k r t b h =
    let e : 129 - length r ≡ suc (128 - length r) = omega arith in
    let n : length (r ++ b ∷ []) ≡ length r + 1 = length-append r (b ∷ []) in
    let d : 129 - (length r + 1) ≡ 128 - length r = omega arith in
    rw (n, d, e, seam r b (128 - length r))
  where
    seam : (r : List ℕ) (b n : ℕ) → set (r ++ replicate (suc n) 0) (length r) b ≡ (r ++ b ∷ []) ++ replicate n 0
    seam r b n = set-append_seam r 0 (replicate n 0) b ∙ sym (append_assoc r (b ∷ []) (replicate n 0))

-- what is read of it are these bytes
pub came : (r : List ℕ) → came_of (held 0 r 0) ≡ r
came r = take-append_seam r _

first_byte : (r : List ℕ) → get_or (padded 129 r) 0 0 ≡ get_or r 0 0
first_byte [] = refl
first_byte (b ∷ r) = refl

pub whole_is : (k : ℕ) (r : List ℕ) (t : ℕ) → is_whole (held k r t) ≡ ltb (body_of r) (length r)
whole_is k r t = ap (λ (b : ℕ). ltb (reply_body_len (fields_at b)) (length r)) (first_byte r)

-- a byte behind a reply that is not whole makes it at most whole
at_most : (r : List ℕ) (b : ℕ) → length r ≤ body_of r → length (r ++ b ∷ []) ≤ 1 + body_of (r ++ b ∷ [])
at_most [] b s = omega arith
at_most (h ∷ r) b s = let n = length-append r (b ∷ []) in omega arith

-- ---- the ways

pub by_held_reply : (job : Job) (k : ℕ) (r : List ℕ) (t : ℕ) (P : Turn → Type 0)
    → ((why : Failure) → P (over (held k r t) why))
    → ((d : List ℕ) → taking job.len job.id k r ≡ taking_as 0 0 d → place_of k < job.len → P (turn_of (sent_frame job (k + 1)) Send))
    → (taking job.len job.id k r ≡ taking_as 0 0 job.digest → job.len ≤ place_of k → P (turn_of (held k r t) Loaded))
    → P (replied job (held k r t))
by_held_reply job k r t P fails goes done =
    by_reply job (held k r t) P fails (λ d e. goes d (rw (came r) at e)) (λ e. done (rw (came r) at e))

pub by_held_event : (job : Job) (k : ℕ) (r : List ℕ) (t : ℕ) (e : Event) (P : Event → Turn → Type 0) → length r ≤ body_of r
    → ((x : Exchange) (why : Failure) → P e (over x why))
    → ((b : ℕ) → length (r ++ b ∷ []) ≤ body_of (r ++ b ∷ []) → P (Byte b) (turn_of (held k (r ++ b ∷ []) t) Wait))
    → ((b : ℕ) → length (r ++ b ∷ []) ≡ 1 + body_of (r ++ b ∷ []) → P (Byte b) (replied job (held k (r ++ b ∷ []) t)))
    → (1 < t → P Silence (turn_of (held k r (t - 1)) Wait))
    → P e (turned job (held k r t) e)
by_held_event job k r t e P s fails grows whole waits =
    by_event job (held k r t) e P (fails (held k r t))
    (λ b h w. rw (one_more k r t b (room r s)) (grows b (ltb-false (body_of (r ++ b ∷ [])) (length (r ++ b ∷ [])) (as_whole b w))))
    (λ b h w. rw (one_more k r t b (room r s)) (whole b (
    let l = ltb-true (body_of (r ++ b ∷ [])) (length (r ++ b ∷ [])) (as_whole b w) in
    let m = at_most r b s in
    omega arith)))
    waits
  where
    as_whole : (b : ℕ) {v : Bool} → is_whole (with_byte (held k r t) b) ≡ v → ltb (body_of (r ++ b ∷ [])) (length (r ++ b ∷ [])) ≡ v
    as_whole b w = sym (whole_is k (r ++ b ∷ []) t) ∙ ap is_whole (sym (one_more k r t b (room r s))) ∙ w
