-- The ways that a reply and an event can go: a family over turns, and a proof for each way.
use Prim.Native.Nat.{ℕ, ◌+◌, ◌<◌, ◌≤◌}
use mathlib.Core.Path.{◌≡◌, refl, ap, ◌∙◌}
use mathlib.Core.Bool.{Bool, true, false, not, cond}
use mathlib.Core.List.{List}
use lib.Dec.{eqb, leb, ltb}
use borrow.Author.Tests.{eqb-true, ltb-true, ltb-false, leb-false}
use Rattle.endian.specs.Lists.{same}
use Rattle.endian.proofs.Same.{same_eq}
use Rattle.protocol.specs.Commands.{place_of}
use Rattle.client.specs.Replies.{Taking, taking_as, taking}
use Rattle.upload.specs.Upload.{Loaded, Failed, turn_of, over, sent_frame, after_reply, came_of, onward, replied, with_byte, is_whole, received, with_silence, silent, turned}
use Rattle.upload.specs.declared.Job.{Job}
use Rattle.upload.specs.declared.Exchange.{Exchange}
use Rattle.upload.specs.declared.Event.{Event}
use Rattle.upload.specs.declared.Event.TheVariants.{Byte, Silence, Closed}
use Rattle.upload.specs.declared.Failure.{Failure}
use Rattle.upload.specs.declared.Failure.TheVariants.{NoAnswer, LineClosed, UnexpectedReply, Refused, OtherDigest}
use Rattle.upload.specs.declared.Next.TheVariants.{Send, Wait}
use Rattle.upload.specs.declared.Turn.{Turn}

module _ (job : Job) (x : Exchange) where
  -- the reply as the client takes it
  abbrev taken : Taking
  taken = taking job.len job.id x.k (came_of x)

  -- a whole reply: the load fails, goes on or is done
  pub by_reply : (P : Turn → Type 0)
      → ((why : Failure) → P (over x why))
      → ((d : List ℕ) → taken ≡ taking_as 0 0 d → place_of x.k < job.len → P (turn_of (sent_frame job (x.k + 1)) Send))
      → (taken ≡ taking_as 0 0 job.digest → job.len ≤ place_of x.k → P (turn_of x Loaded))
      → P (replied job x)
  unfolding replied
  by_reply P fails goes done = by_taking taken refl
    where
      by_taking : (t : Taking) → taken ≡ t → P (onward job x (after_reply job x.k t))
      by_taking t e =
          go (eqb t.number 0) (eqb t.status 0) (ltb (place_of x.k) job.len) (same t.digest job.digest) refl refl refl refl
        where
          as_taken : eqb t.number 0 ≡ true → eqb t.status 0 ≡ true → taken ≡ taking_as 0 0 t.digest
          as_taken p q =
              e ∙ ap (λ (n : ℕ). taking_as n t.status t.digest) (eqb-true t.number 0 p)
              ∙ ap (λ (s : ℕ). taking_as 0 s t.digest) (eqb-true t.status 0 q)

          go : (n s l d : Bool) → eqb t.number 0 ≡ n → eqb t.status 0 ≡ s → ltb (place_of x.k) job.len ≡ l
              → same t.digest job.digest ≡ d
              → P (onward job x
              (cond (not n) (Failed UnexpectedReply) (cond (not s) (Failed Refused) (cond l Send (cond d Loaded (Failed OtherDigest))))))
          go false s l d p q r u = fails UnexpectedReply
          go true false l d p q r u = fails Refused
          go true true true d p q r u = goes t.digest (as_taken p q) (ltb-true (place_of x.k) job.len r)
          go true true false true p q r u =
              done (rw (← (same_eq t.digest job.digest u)) (as_taken p q)) (ltb-false (place_of x.k) job.len r)
          go true true false false p q r u = fails OtherDigest

-- an event: the load fails, the reply grows or is whole, or there is one tick less
pub by_event : (job : Job) (x : Exchange) (e : Event) (P : Event → Turn → Type 0)
    → ((why : Failure) → P e (over x why))
    → ((b : ℕ) → x.got ≤ 128 → is_whole (with_byte x b) ≡ false → P (Byte b) (turn_of (with_byte x b) Wait))
    → ((b : ℕ) → x.got ≤ 128 → is_whole (with_byte x b) ≡ true → P (Byte b) (replied job (with_byte x b)))
    → (1 < x.ticks → P Silence (turn_of (with_silence x) Wait))
    → P e (turned job x e)
unfolding received silent
by_event job x (Byte b) P fails grows whole waits = go (ltb 128 x.got) (is_whole (with_byte x b)) refl refl
  where
    go : (l w : Bool) → ltb 128 x.got ≡ l → is_whole (with_byte x b) ≡ w
        → P (Byte b) (cond l (over x UnexpectedReply) (cond w (replied job (with_byte x b)) (turn_of (with_byte x b) Wait)))
    go true w p q = fails UnexpectedReply
    go false true p q = whole b (ltb-false 128 x.got p) q
    go false false p q = grows b (ltb-false 128 x.got p) q
by_event job x Silence P fails grows whole waits = go (leb x.ticks 1) refl
  where
    go : (t : Bool) → leb x.ticks 1 ≡ t → P Silence (cond t (over x NoAnswer) (turn_of (with_silence x) Wait))
    go true p = fails NoAnswer
    go false p = waits (leb-false x.ticks 1 p)
by_event job x Closed P fails grows whole waits = fails LineClosed
