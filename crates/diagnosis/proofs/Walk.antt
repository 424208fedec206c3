-- Bytes one after the other: what is left of them, and the counts.
use Prim.Native.Nat.{ℕ, ◌+◌, ◌-◌, ◌^◌, ◌<◌, ◌≤◌}
use mathlib.Core.Bool.{Bool, true, false, not, cond, and-eq-true_iff}
use mathlib.Core.Path.{◌≡◌, refl, sym, ap, subst, ◌∙◌}
use mathlib.Core.List.{List, [], ◌∷◌}
use native.Mathlib.Omega.{arith}
use Rattle.std.specs.Prelude.{Err}
use native.Mathlib.Numerals.{add-one}
use lib.Dec.{eqb, ltb}
use lib.ListN.{length, get_or, drop, drop_of_length-le}
use lib.Seq.{drop-cons}
use borrow.Author.Tests.{ltb-true, lt-ltb}
use Rattle.protocol.specs.Commands.{length_ok, is_last}
use Rattle.record.specs.Record.{record_at}
use Rattle.record.specs.Types.{Source, slot0, slot1, client, unknown, source_of}
use Rattle.head.specs.Answers.{Report, refused, continues, whole, stopped, started}
use Rattle.head.specs.Gather.{gathered}
use Rattle.head.specs.Act.{Request, asks_name, asks_udi, gives_load, gives_block, halts, request_of, takes}
use Rattle.head.specs.declared.State.{State}
use Rattle.head.proofs.Ranges.{by_test}
use Rattle.diagnosis.specs.Reasons.{explained_of}
use Rattle.diagnosis.specs.Monitor.{Monitor, Refused, explained, diagnosis, nowhere, closed, opened, by_source, begun, load_heard, block_heard, frame_heard, position_after, moved, by_report, is_open, heard_byte, heard, has_room}
use Rattle.diagnosis.specs.declared.Position.{Position}
use Rattle.diagnosis.specs.declared.Refusal.{Refusal}

-- ---- the counts

-- each is at most one more
abbrev pub Near : Position → Position → Type 0
Near p q = (q.byte ≤ p.byte + 1) × (q.frame ≤ p.frame + 1)

same_near : (p : Position) → Near p p
same_near p = (omega arith, omega arith)

after_near : (p : Position) (got : ℕ) → Near p (position_after p got)
after_near p got = (omega arith, go (eqb got 0))
  where
    go : (t : Bool) → cond t (p.frame + 1) p.frame ≤ p.frame + 1
    go true = omega arith
    go false = omega arith

-- a frame is acted on where it became whole
pub frame_stays : (r : Request) (w : Monitor) → (frame_heard r w).position ≡ w.position
unfolding load_heard block_heard
frame_stays asks_name w = refl
frame_stays asks_udi w = refl
frame_stays gives_load w = by_test (λ (x : Monitor). x.position ≡ w.position) (takes w.head) _ _ (λ t. refl) (λ t. refl)
frame_stays gives_block w =
    by_test (λ (x : Monitor). x.position ≡ w.position) (is_last w.head.progress.size w.head.progress.block) _ _ (λ t. refl) (λ t. refl)
frame_stays (halts k) w = refl

report_near : (r : Report) (s : State) (w : Monitor) → Near w.position (by_report r s w).position
report_near (refused k) s w = same_near w.position
report_near continues s w = after_near w.position w.head.incoming.got
report_near whole s w =
    subst (λ (q : Position). Near w.position q) (sym (frame_stays (request_of s) (moved w s))) (after_near w.position w.head.incoming.got)
report_near (stopped k) s w = after_near w.position w.head.incoming.got
report_near (started address size) s w = same_near w.position

pub byte_near : (w : Monitor) (b : ℕ) → Near w.position (heard_byte w b).position
unfolding heard_byte
byte_near w b =
    let g = gathered w.head b in
    by_test (λ (x : Monitor). Near w.position x.position) (is_open w.verdict) _ _ (λ t. report_near g.report g.state w)
    (λ t. same_near w.position)

-- ---- what is left

-- after i bytes: with those that are left it is the whole, and they can be counted
abbrev pub Going : Monitor → List ℕ → Monitor → ℕ → Type 0
Going w bytes m i =
    (i ≤ length bytes) × (heard m (drop i bytes) ≡ heard w bytes) × (m.position.byte + (length bytes - i) < 2 ^ 64)
    × (m.position.frame + (length bytes - i) < 2 ^ 64)

pub going_first : (w : Monitor) (bytes : List ℕ) → has_room w (length bytes) ≡ true → Going w bytes w 0
unfolding has_room
going_first w bytes e =
    let n = length bytes in
    let f = (and-eq-true_iff (ltb (w.position.byte + n) (2 ^ 64)) _).0 e in
    let a = ltb-true (w.position.byte + n) (2 ^ 64) f.0 in
    let b = ltb-true (w.position.frame + n) (2 ^ 64) f.1 in
    (omega arith, refl, omega arith, omega arith)

next_byte : (m : Monitor) (bytes : List ℕ) (i : ℕ) → i < length bytes → heard (heard_byte m (get_or bytes i 0)) (drop (i + 1) bytes) ≡ heard m (drop i bytes)
unfolding heard
next_byte m bytes i h = rw (add-one, drop-cons bytes i 0 h)

pub going_more : (w m m' : Monitor) (bytes : List ℕ) (i : ℕ) → i < length bytes → m' ≡ heard_byte m (get_or bytes i 0) → Going w bytes m i
    → Going w bytes m' (i + 1)
going_more w m m' bytes i h e g =
    let n : Near m.position m'.position = subst (λ (x : Monitor). Near m.position x.position) (sym e) (byte_near m (get_or bytes i 0)) in
    (omega arith, ap (λ (x : Monitor). heard x (drop (i + 1) bytes)) e ∙ next_byte m bytes i h ∙ g.1, omega arith, omega arith)

-- after a start or a stop no byte is read
unread : (m : Monitor) (b : ℕ) → is_open m.verdict ≡ false → m ≡ heard_byte m b
unfolding heard_byte
unread m b e = rw e

pub heard_ended : (m : Monitor) (bytes : List ℕ) → is_open m.verdict ≡ false → m ≡ heard m bytes
unfolding heard
heard_ended m [] e = refl
heard_ended m (b ∷ bs) e = heard_ended m bs e ∙ ap (λ (x : Monitor). heard x bs) (unread m b e)

-- behind the last byte
pub heard_all : (m : Monitor) (bytes : List ℕ) (i : ℕ) → length bytes ≤ i → m ≡ heard m (drop i bytes)
unfolding heard
heard_all m bytes i h = rw (drop_of_length-le bytes h)

-- ---- the beginning

pub begun_nowhere : (rec : List ℕ) (m : ℕ) → (begun rec m).position ≡ nowhere
unfolding begun closed opened
begun_nowhere rec m =
    by_test (λ (x : Monitor). x.position ≡ nowhere) (not (eqb (length rec) 256)) _ _ (λ t. refl)
    (λ t. by_test (λ (x : Monitor). x.position ≡ nowhere) (not (length_ok m)) _ _ (λ u. refl) (λ u. go (source_of (record_at rec).type)))
  where
    go : (s : Source) → (by_source s (record_at rec) m).position ≡ nowhere
    go slot0 = refl
    go slot1 = refl
    go client = refl
    go unknown = refl

-- every part that memory holds can be counted
pub room_first : (rec : List ℕ) (m n : ℕ) → n < 2 ^ 64 → has_room (begun rec m) n ≡ true
unfolding has_room
room_first rec m n h = rw (begun_nowhere rec m, lt-ltb (0 + n) (2 ^ 64) (omega arith))

-- a refused beginning hears nothing
pub refused_told : (rec : List ℕ) (m : ℕ) (bytes : List ℕ) (r : Refusal) → closed (Refused r) ≡ begun rec m → explained_of (Err r) ≡ diagnosis rec m bytes
unfolding diagnosis explained closed
refused_told rec m bytes r e =
    ap explained (heard_ended (closed (Refused r)) bytes refl ∙ ap (λ (w : Monitor). heard w bytes) e)
