-- The numbers that a C program is given: a function back gives the finding.
use Prim.Native.Nat.{ℕ, ◌≤◌}
use mathlib.Core.Path.{◌≡◌, refl, sym, ap₂, ◌∙◌}
use mathlib.Core.Logic.{◌⊎◌, ⊎_elim}
use mathlib.Core.Bool.{true, cond}
use mathlib.Core.List.{List}
use native.Mathlib.Omega.{arith}
use lib.Dec.{eqb}
use Rattle.std.specs.Prelude.{Result, Ok, Err}
use Rattle.head.specs.declared.Stop.TheVariants.{UnknownType, HeaderBit, Command, BodyLength, Digest, ProgramSize}
use Rattle.diagnosis.specs.Reasons.{Reason, reason_of, number_of}
use Rattle.diagnosis.specs.Calls.{is_refused, missing_in}
use Rattle.diagnosis.specs.declared.Refusal.{Refusal}
use Rattle.diagnosis.specs.declared.Refusal.TheVariants.{RecordLength, RamSize, FromFlash}
use Rattle.diagnosis.specs.declared.Finding.{Finding}
use Rattle.diagnosis.specs.declared.Finding.TheVariants.{Stopped, Unfinished, Waiting, Missing, Started}
use Rattle.reasons.specs.Meaning.{Holds, record_length, ram_size, from_flash, unknown_type, bad_header, bad_command, bad_length, bad_digest, is_unfinished, is_waiting, is_missing, has_started}

abbrev finding : ℕ → ℕ → Result Finding Refusal
finding k n =
    cond (eqb k 6) (Err RecordLength)
    (cond (eqb k 7) (Err RamSize)
    (cond (eqb k 48) (Err FromFlash)
    (cond (eqb k 20) (Ok (Stopped UnknownType))
    (cond (eqb k 22) (Ok (Stopped HeaderBit))
    (cond (eqb k 23) (Ok (Stopped Command))
    (cond (eqb k 24) (Ok (Stopped BodyLength))
    (cond (eqb k 25) (Ok (Stopped Digest))
    (cond (eqb k 26) (Ok (Stopped ProgramSize))
    (cond (eqb k 65) (Ok Started)
    (cond (eqb k 66) (Ok Unfinished)
    (cond (eqb k 67) (Ok Waiting) (Ok (Missing n)))))))))))))

finding_of : (f : Result Finding Refusal) (i : ℕ) → finding (number_of (reason_of f i)) (missing_in (reason_of f i)) ≡ f
finding_of (Err RecordLength) i = refl
finding_of (Err RamSize) i = refl
finding_of (Err FromFlash) i = refl
finding_of (Ok (Stopped UnknownType)) i = refl
finding_of (Ok (Stopped HeaderBit)) i = refl
finding_of (Ok (Stopped Command)) i = refl
finding_of (Ok (Stopped BodyLength)) i = refl
finding_of (Ok (Stopped Digest)) i = refl
finding_of (Ok (Stopped ProgramSize)) i = refl
finding_of (Ok Unfinished) i = refl
finding_of (Ok Waiting) i = refl
finding_of (Ok (Missing n)) i = refl
finding_of (Ok Started) i = refl

pub answers : (f g : Result Finding Refusal) (i : ℕ) → number_of (reason_of f i) ≡ number_of (reason_of g i)
    → missing_in (reason_of f i) ≡ missing_in (reason_of g i) → f ≡ g
answers f g i e n = sym (finding_of f i) ∙ ap₂ finding e n ∙ finding_of g i

-- a refusal's number is that of no other reason
abbrev RefusalNumber : ℕ → Type 0
RefusalNumber k = (k ≡ 6) ⊎ ((k ≡ 7) ⊎ (k ≡ 48))

none : (k : ℕ) → 20 ≤ k → (k ≡ 48 → ⊥) → RefusalNumber k → ⊥
none k l n x = ⊎_elim (λ (e : k ≡ 6). omega arith) (λ y. ⊎_elim (λ (e : k ≡ 7). omega arith) n y) x

pub refusal_told : (rec : List ℕ) (m : ℕ) (bytes : List ℕ) (r : Reason) → Holds rec m bytes r → RefusalNumber (number_of r) → is_refused r ≡ true
refusal_told rec m bytes r (record_length n) x = refl
refusal_told rec m bytes r (ram_size l n) x = refl
refusal_told rec m bytes r (from_flash l t) x = refl
refusal_told rec m bytes r (unknown_type l t) x = absurd (none 20 (omega arith) (λ e. omega arith) x)
refusal_told rec m bytes r (bad_header a i h) x = absurd (none 22 (omega arith) (λ e. omega arith) x)
refusal_told rec m bytes r (bad_command a i h) x = absurd (none 23 (omega arith) (λ e. omega arith) x)
refusal_told rec m bytes r (bad_length a i h) x = absurd (none 24 (omega arith) (λ e. omega arith) x)
refusal_told rec m bytes r (bad_digest a i h) x = absurd (none 25 (omega arith) (λ e. omega arith) x)
refusal_told rec m bytes r (is_unfinished a h) x = absurd (none 66 (omega arith) (λ e. omega arith) x)
refusal_told rec m bytes r (is_waiting a h) x = absurd (none 67 (omega arith) (λ e. omega arith) x)
refusal_told rec m bytes r (is_missing a k h) x = absurd (none 68 (omega arith) (λ e. omega arith) x)
refusal_told rec m bytes r (has_started a h) x = absurd (none 65 (omega arith) (λ e. omega arith) x)
