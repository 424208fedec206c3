-- What the call for C answers and leaves in what it is lent: a diagnosis in one call.
use Rattle.std.specs.Prelude.{ℕ, Bool, true, false, cond, List, [], ◌∷◌}
use Rattle.diagnosis.specs.Reasons.{Reason, refused, stopped, unfinished, waiting, missing, started, number_of, Explained}
use Rattle.diagnosis.specs.Monitor.{diagnosis}

abbrev pub is_refused : Reason → Bool
is_refused (refused k) = true
is_refused (stopped k i) = false
is_refused unfinished = false
is_refused waiting = false
is_refused (missing n) = false
is_refused started = false

-- how many blocks are missing; 0 where the reason is another
abbrev pub missing_in : Reason → ℕ
missing_in (refused k) = 0
missing_in (stopped k i) = 0
missing_in unfinished = 0
missing_in waiting = 0
missing_in (missing n) = n
missing_in started = 0

pub record DiagnoseCall : Type 0 where
  pub answer : ℕ
  -- the last byte's number, its frame's number, its place in the frame, and how many blocks are missing
  pub counts : List ℕ
  pub digest : List ℕ

abbrev pub diagnose_told : ℕ → List ℕ → List ℕ → DiagnoseCall
diagnose_told k counts digest = record { answer = k; counts = counts; digest = digest }

abbrev pub counts_in : Explained → List ℕ
counts_in x = x.byte ∷ x.frame ∷ x.offset ∷ missing_in x.reason ∷ []

-- a refused call writes nothing
abbrev pub after_diagnose : Explained → List ℕ → List ℕ → DiagnoseCall
after_diagnose x counts digest =
    diagnose_told (number_of x.reason) (cond (is_refused x.reason) counts (counts_in x)) (cond (is_refused x.reason) digest x.digest)

unfoldable pub diagnose_call : List ℕ → ℕ → List ℕ → List ℕ → List ℕ → DiagnoseCall
diagnose_call rec m bytes counts digest = after_diagnose (diagnosis rec m bytes) counts digest
