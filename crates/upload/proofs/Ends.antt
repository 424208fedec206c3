-- A load ends: each event that does not end it leaves less of it.
use Prim.Native.Nat.{ℕ, ◌+◌, ◌-◌, ◌*◌, ◌<◌, ◌≤◌}
use native.Mathlib.Nat.{add-mul}
use native.Mathlib.Omega.{arith}
use mathlib.Core.Path.{◌≡◌, refl}
use mathlib.Core.Bool.{Bool, true, false, cond}
use mathlib.Core.List.{List, [], ◌∷◌}
use lib.ListN.{length, get_or, set}
use borrow.Author.Tests.{ltb-false}
use Rattle.endian.proofs.Cases.{impossible}
use Rattle.framing.specs.Header.{fields_at, reply_body_len}
use Rattle.framing.proofs.Headers.{reply_small}
use Rattle.protocol.specs.Commands.{blocks_for}
use Rattle.upload.specs.Upload.{is_over, opening, turned, runs, most_events}
use Rattle.upload.proofs.Turns.{by_reply, by_event}
use Rattle.upload.specs.declared.Job.{Job}
use Rattle.upload.specs.declared.Exchange.{Exchange}
use Rattle.upload.specs.declared.Event.{Event}
use Rattle.upload.specs.declared.Turn.{Turn}

-- for each frame that follows the ticks and the bytes of the longest reply, and of this one what has not passed
abbrev pub left : Job → Exchange → ℕ
left job x = (blocks_for job.len - x.k) * (job.wait + 129) + (129 - x.got) + x.ticks

-- of a frame that is just sent
all_left : (n w : ℕ) → n * (w + 129) + 129 + w ≡ (n + 1) * (w + 129)
all_left n w = rw (add-mul n 1 (w + 129)) (omega arith)

frame_less : (m n w got ticks : ℕ) → m ≡ n + 1 → got ≤ 128 → n * (w + 129) + 129 + w < m * (w + 129) + (129 - got) + ticks
frame_less m n w got ticks e h = rw e (let l = all_left n w in omega arith)

pub fewer : (job : Job) (x : Exchange) (e : Event) → is_over (turned job x e).next ≡ false → left job (turned job x e).exchange < left job x
fewer job x e =
    by_event job x e (λ (e : Event) (t : Turn). is_over t.next ≡ false → left job t.exchange < left job x)
    (λ why p. impossible cc)
    (λ b h w p. omega arith)
    (λ b h w. by_reply job _ (λ (t : Turn). is_over t.next ≡ false → left job t.exchange < left job x)
    (λ why p. impossible cc)
    (λ d t l p. frame_less _ (blocks_for job.len - (x.k + 1)) job.wait x.got x.ticks (omega arith) h)
    (λ t l p. impossible cc))
    (λ h p. omega arith)

-- a reply that is not whole has no more than 128 bytes
within : (job : Job) (x : Exchange) (e : Event) → x.got ≤ 128 → is_over (turned job x e).next ≡ false
    → (turned job x e).exchange.got ≤ 128
within job x e g =
    by_event job x e (λ (e : Event) (t : Turn). is_over t.next ≡ false → t.exchange.got ≤ 128)
    (λ why p. impossible cc)
    (λ b h w p.
    let l = reply_small (get_or (set x.reply x.got b) 0 0) in
    let m = ltb-false (reply_body_len (fields_at (get_or (set x.reply x.got b) 0 0))) (x.got + 1) w in
    omega arith)
    (λ b h w. by_reply job _ (λ (t : Turn). is_over t.next ≡ false → t.exchange.got ≤ 128)
    (λ why p. impossible cc)
    (λ d t l p. omega arith)
    (λ t l p. impossible cc))
    (λ h p. g)

-- a turn that is over, or of which no more is left than there are events
ended : (job : Job) (es : List Event) (t : Turn)
    → (is_over t.next ≡ false → (t.exchange.got ≤ 128) × (left job t.exchange ≤ length es)) → is_over (runs job t es).next ≡ true
ended job [] t f = go (is_over t.next) refl
  where
    go : (o : Bool) → is_over t.next ≡ o → o ≡ true
    go true p = refl
    go false p = let h = f p in absurd (omega arith)
ended job (e ∷ es) t f = go (ended job es (turned job t.exchange e)) (is_over t.next) refl
  where
    go : ((is_over (turned job t.exchange e).next ≡ false
        → ((turned job t.exchange e).exchange.got ≤ 128) × (left job (turned job t.exchange e).exchange ≤ length es))
        → is_over (runs job (turned job t.exchange e) es).next ≡ true)
        → (o : Bool) → is_over t.next ≡ o → is_over (cond o t (runs job (turned job t.exchange e) es)).next ≡ true
    go more true p = p
    go more false p = more (λ q. let h = f p in let l = fewer job t.exchange e q in (within job t.exchange e h.0 q, omega arith))

pub ends : (job : Job) (es : List Event) → most_events job ≤ length es → is_over (runs job (opening job) es).next ≡ true
unfolding opening
ends job es h =
    let z : blocks_for job.len - 0 ≡ blocks_for job.len = omega arith in
    let l : left job (opening job).exchange ≡ most_events job = rw z (all_left (blocks_for job.len) job.wait) in
    ended job es (opening job) (λ p. (omega arith, rw l h))
