-- A frame is sent only if the client makes it.
use Prim.Native.Nat.{ℕ, ◌+◌, ◌<◌}
use native.Mathlib.Omega.{arith}
use mathlib.Core.Path.{◌≡◌, refl, ap}
use mathlib.Core.Bool.{Bool, true, false, not, cond}
use mathlib.Core.List.{List}
use lib.Dec.{ltb}
use borrow.Author.Tests.{ltb-false}
use Rattle.endian.proofs.Cases.{impossible}
use Rattle.protocol.specs.Commands.{length_ok, place_of}
use Rattle.client.specs.Frames.{refusal}
use Rattle.client.specs.Replies.{Taking, taking_as, taking}
use Rattle.client.proofs.Proved.{client}
use Rattle.upload.specs.Upload.{Failed, sent_frame, opening, turned}
use Rattle.upload.proofs.Replies.{taken_given, length_ok_bounds}
use Rattle.upload.proofs.Turns.{by_reply, by_event}
use Rattle.upload.specs.declared.Job.{Job}
use Rattle.upload.specs.declared.Exchange.{Exchange}
use Rattle.upload.specs.declared.Event.{Event}
use Rattle.upload.specs.declared.Failure.TheVariants.{ProgramLength, FrameId}
use Rattle.upload.specs.declared.Next.{Next}
use Rattle.upload.specs.declared.Next.TheVariants.{Send}
use Rattle.upload.specs.declared.Turn.{Turn}

-- frame 0, if there is a frame at all
pub first : (job : Job) → (opening job).next ≡ Send → ((opening job).exchange ≡ sent_frame job 0) × (refusal job.len job.id 0 ≡ 0)
unfolding opening
first job = go (length_ok job.len) (ltb 3 job.id) refl refl
  where
    go : (l i : Bool) → length_ok job.len ≡ l → ltb 3 job.id ≡ i
        → ◌≡◌ {A = Next} (cond (not l) (Failed ProgramLength) (cond i (Failed FrameId) Send)) Send
        → ((opening job).exchange ≡ sent_frame job 0) × (refusal job.len job.id 0 ≡ 0)
    go false i p q e = impossible cc
    go true true p q e = impossible cc
    go true false p q e =
        let b = length_ok_bounds job.len p in
        (refl, (client.accepts job.len job.id 0).1 (b.0, b.1, ltb-false 3 job.id q, omega arith))

-- the frame after one whose reply is taken, and that is not the last
next_made : (n id k : ℕ) (r d : List ℕ) → taking n id k r ≡ taking_as 0 0 d → place_of k < n → refusal n id (k + 1) ≡ 0
next_made n id k r d e l =
    let g = taken_given n id k r (ap (λ (t : Taking). t.number) e) in
    (client.accepts n id (k + 1)).1 (g.some, g.small, g.id_small, omega arith)

abbrev Sends : Job → Exchange → Turn → Type 0
Sends job x t = t.next ≡ Send → (t.exchange ≡ sent_frame job (x.k + 1)) × (refusal job.len job.id (x.k + 1) ≡ 0)

pub sends : (job : Job) (x : Exchange) (e : Event) → (turned job x e).next ≡ Send
    → ((turned job x e).exchange ≡ sent_frame job (x.k + 1)) × (refusal job.len job.id (x.k + 1) ≡ 0)
sends job x e =
    by_event job x e (λ (e : Event) (t : Turn). Sends job x t)
    (λ why p. impossible cc)
    (λ b h w p. impossible cc)
    (λ b h w. by_reply job _ (Sends job x)
    (λ why p. impossible cc)
    (λ d t l p. (refl, next_made job.len job.id x.k _ d t l))
    (λ t l p. impossible cc))
    (λ h p. impossible cc)
