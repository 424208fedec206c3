-- What a diagnosis tells is put in the lent memory unless it is refused.
use Prim.Native.Nat.{ℕ}
use mathlib.Core.Bool.{false}
use mathlib.Core.Path.{◌≡◌, refl, sym, ap, ◌∙◌}
use mathlib.Core.List.{List}
use Rattle.std.specs.Prelude.{Ok, Err}
use Rattle.diagnosis.specs.Reasons.{reason_of, number_of, Explained, explained_of}
use Rattle.diagnosis.specs.Monitor.{diagnosis}
use Rattle.diagnosis.specs.Calls.{is_refused, counts_in, diagnose_told, after_diagnose, diagnose_call}
use Rattle.diagnosis.specs.declared.Finding.{Finding}
use Rattle.diagnosis.specs.declared.Finding.TheVariants.{Stopped, Unfinished, Waiting, Missing, Started}
use Rattle.diagnosis_c.proofs.mastfrap_diagnose.Goals as goal

not_refused : (f : Finding) (i : ℕ) → is_refused (reason_of (Ok f) i) ≡ false
not_refused (Stopped s) i = refl
not_refused Unfinished i = refl
not_refused Waiting i = refl
not_refused (Missing n) i = refl
not_refused Started i = refl

module _ (rec : List ℕ) (m : ℕ) (bytes counts digest : List ℕ) (x : Explained) (e : x ≡ diagnosis rec m bytes) where
  told : after_diagnose x counts digest ≡ diagnose_call rec m bytes counts digest
  unfolding diagnose_call
  told = ap (λ (y : Explained). after_diagnose y counts digest) e

  told_as : is_refused x.reason ≡ false → diagnose_told (number_of x.reason) (counts_in x) x.digest ≡ diagnose_call rec m bytes counts digest
  told_as r = sym (sym told ∙ rw r)

pub returns-in-Ok : goal.returns-in-Ok
returns-in-Ok c =
    let a = c.args in
    let d = c.in-Ok.d in
    let e = ap explained_of (sym c.in-Ok.is) ∙ c.diagnose.ensures in
    rw (c.into.ensures d.position.byte, c.counts_in.ensures)
    (told_as a.«record».now a.ram_len a.bytes.now a.counts.now a.digest.now (explained_of (Ok d)) e (not_refused d.finding d.position.byte))

pub returns-in-Err : goal.returns-in-Err
returns-in-Err c =
    let a = c.args in
    let e = ap explained_of (sym c.in-Err.is) ∙ c.diagnose.ensures in
    rw c.from.ensures (told a.«record».now a.ram_len a.bytes.now a.counts.now a.digest.now (explained_of (Err c.in-Err.why)) e)
