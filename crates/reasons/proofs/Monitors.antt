-- What a monitor does, byte by byte, and how it begins: laws of its definition alone.
use Prim.Native.Nat.{ℕ, zero, suc, ◌+◌, ◌<◌, ◌≤◌}
use mathlib.Core.Path.{◌≡◌, refl, sym, ap, ◌∙◌}
use mathlib.Core.Logic.{◌⊎◌, inl, inr}
use mathlib.Core.Bool.{Bool, true, false, not, cond}
use mathlib.Core.List.{List, [], ◌∷◌, ◌++◌}
use native.Mathlib.Omega.{arith}
use lib.Dec.{eqb}
use lib.ListN.{length, take, drop, take-append-drop, length-take}
use borrow.Author.Tests.{eqb-true, eqb-false, le-leb, le-ltb}
use Rattle.endian.proofs.Cases.{impossible}
use Rattle.protocol.specs.Commands.{length_ok}
use Rattle.record.specs.Record.{Contents, known_type, record_at}
use Rattle.record.specs.Types.{source_of}
use Rattle.head.proofs.Ranges.{never, by_test, length_facts}
use Rattle.head.specs.declared.Phase.{Phase}
use Rattle.head.specs.declared.Phase.TheVariants as phase
use Rattle.head.specs.declared.Stop.TheVariants.{UnknownType}
use Rattle.head.specs.declared.Progress.{Progress}
use Rattle.session.specs.Reading.{type_of}
use Rattle.diagnosis.specs.Reasons.{Reason, stopped}
use Rattle.diagnosis.specs.Monitor.{Verdict, Open, Refused, Stopped, Started, Monitor, closed, opened, by_source, begun, is_open, heard_byte, heard, by_phase, by_verdict}
use Rattle.diagnosis.specs.declared.Refusal.TheVariants.{RecordLength, RamSize, FromFlash}
use Rattle.reasons.specs.Meaning.{LengthsOk, Asks}
use Rattle.reasons.specs.Theorems.{goes_on}
use Rattle.diagnosis.proofs.Walk.{byte_near, heard_ended}

-- the reason that a monitor tells
abbrev pub reason_in : Monitor → Reason
reason_in w = by_verdict w.verdict w.head w.position.byte

-- ---- the beginning

by_source_is : (r : Contents) (m : ℕ) (P : Monitor → Type 0) (t : ℕ) → (t ≤ 3 → P (closed (Refused FromFlash))) → ((t ≡ 4) ⊎ (t ≡ 5) → P (opened r m))
    → (6 ≤ t → P (closed (Stopped UnknownType))) → P (by_source (source_of (known_type t)) r m)
by_source_is r m P zero x y z = x (omega arith)
by_source_is r m P (suc zero) x y z = x (omega arith)
by_source_is r m P (suc (suc zero)) x y z = x (omega arith)
by_source_is r m P (suc (suc (suc zero))) x y z = x (omega arith)
by_source_is r m P (suc (suc (suc (suc zero)))) x y z = y (inl refl)
by_source_is r m P (suc (suc (suc (suc (suc zero))))) x y z = y (inr refl)
by_source_is r m P (suc (suc (suc (suc (suc (suc n)))))) x y z =
    let h : 6 ≤ suc (suc (suc (suc (suc (suc n))))) = omega arith in
    rw (le-ltb (suc (suc (suc (suc (suc (suc n)))))) 6 h) (z h)

-- what holds of each way in which a monitor begins holds of its beginning
module _ (rec : List ℕ) (m : ℕ) (P : Monitor → Type 0) where
  pub by_begun : ((length rec ≡ 256 → ⊥) → P (closed (Refused RecordLength)))
      → (length rec ≡ 256 → ((1 ≤ m) × (m ≤ 131072) → ⊥) → P (closed (Refused RamSize)))
      → (LengthsOk rec m → type_of rec ≤ 3 → P (closed (Refused FromFlash)))
      → (Asks rec m → P (opened (record_at rec) m))
      → (LengthsOk rec m → 6 ≤ type_of rec → P (closed (Stopped UnknownType)))
      → P (begun rec m)
  unfolding begun record_at
  by_begun a b c d e = go (eqb (length rec) 256) refl (length_ok m) refl
    where
      lent : length rec ≡ 256 → length_ok m ≡ true → LengthsOk rec m
      lent l k = let f = length_facts m k in record { record_length = l; ram_some = f.0; ram_small = f.1 }

      is_in_range : (1 ≤ m) × (m ≤ 131072) → length_ok m ≡ true
      is_in_range f = rw (le-leb 1 m f.0, le-leb m 131072 f.1)

      known : LengthsOk rec m → P (by_source (source_of (known_type (type_of rec))) (record_at rec) m)
      known l = by_source_is (record_at rec) m P (type_of rec) (c l) (λ t. d (record { lent = l; client = t })) (e l)

      go : (x : Bool) → eqb (length rec) 256 ≡ x → (y : Bool) → length_ok m ≡ y
          → P (cond (not x) (closed (Refused RecordLength)) (cond (not y) (closed (Refused RamSize)) (by_source (source_of (known_type (type_of rec))) (record_at rec) m)))
      go true p true q = known (lent (eqb-true (length rec) 256 p) q)
      go true p false q = b (eqb-true (length rec) 256 p) (λ f. never (sym (is_in_range f) ∙ q))
      go false p y q = a (eqb-false (length rec) 256 p)

-- ---- bytes

-- bytes in two parts
pub heard_both : (w : Monitor) (xs ys : List ℕ) → heard w (xs ++ ys) ≡ heard (heard w xs) ys
unfolding heard
heard_both w [] ys = refl
heard_both w (b ∷ xs) ys = heard_both (heard_byte w b) xs ys

-- once the verdict has come no byte is read
pub heard_after : (w : Monitor) (bs : List ℕ) → is_open w.verdict ≡ false → heard w bs ≡ w
heard_after w bs e = sym (heard_ended w bs e)

-- at most as many bytes, and frames, are counted as bytes were heard
pub heard_counts : (w : Monitor) (bs : List ℕ)
    → ((heard w bs).position.byte ≤ w.position.byte + length bs) × ((heard w bs).position.frame ≤ w.position.frame + length bs)
unfolding heard
heard_counts w [] = (omega arith, omega arith)
heard_counts w (b ∷ bs) =
    let h = heard_counts (heard_byte w b) bs in
    let n = byte_near w b in
    (omega arith, omega arith)

-- ---- what is told

-- the reason is that of a head that goes on exactly while the verdict is open
phase_goes : (x : Phase) (p : Progress) → goes_on (by_phase x p) ≡ true
phase_goes phase.Waiting p = refl
phase_goes phase.Loading p = refl
phase_goes phase.Started p = refl
phase_goes phase.Stopped p = refl

pub open_goes : (w : Monitor) → goes_on (reason_in w) ≡ is_open w.verdict
open_goes w = go w.verdict
  where
    go : (v : Verdict) → goes_on (by_verdict v w.head w.position.byte) ≡ is_open v
    go Open =
        by_test (λ (x : Reason). goes_on x ≡ true) (eqb w.head.incoming.got 0) _ _ (λ t. phase_goes w.head.progress.phase w.head.progress) (λ t. refl)
    go (Refused r) = refl
    go (Stopped s) = refl
    go Started = refl

-- the byte of a stop is the last that was read
pub stop_byte : (w : Monitor) (k i : ℕ) → reason_in w ≡ stopped k i → w.position.byte ≡ i
stop_byte w k i e = go w.verdict refl e
  where
    go : (v : Verdict) → w.verdict ≡ v → by_verdict v w.head w.position.byte ≡ stopped k i → w.position.byte ≡ i
    go Open q e = never (sym (ap is_open q) ∙ sym (open_goes w) ∙ ap goes_on (ap (λ (v : Verdict). by_verdict v w.head w.position.byte) q ∙ e))
    go (Refused r) q e = impossible cc
    go (Stopped s) q e = cc
    go Started q e = impossible cc

-- no byte before the last that was read gave an end
pub no_earlier : (w : Monitor) (bytes : List ℕ) → w.position.byte ≡ 0 → (j : ℕ) → j < (heard w bytes).position.byte
    → is_open (heard w (take j bytes)).verdict ≡ true
no_earlier w bytes z j l = go (is_open x.verdict) refl
  where
    x : Monitor
    x = heard w (take j bytes)

    go : (t : Bool) → is_open x.verdict ≡ t → t ≡ true
    go true q = refl
    go false q =
        let all : heard w bytes ≡ x = ap (heard w) (sym (take-append-drop j bytes)) ∙ heard_both w (take j bytes) (drop j bytes) ∙ heard_after x (drop j bytes) q in
        let b : x.position.byte ≡ (heard w bytes).position.byte = ap (λ (y : Monitor). y.position.byte) (sym all) in
        let c : x.position.byte ≤ w.position.byte + length (take j bytes) = (heard_counts w (take j bytes)).0 in
        let n = length-take j bytes in
        absurd (omega arith)
