-- What a diagnosis tells: change request 13. The reasons, and the number and the values of each.
use Rattle.std.specs.Prelude.{ℕ, List, Result, Ok, Err}
use Rattle.endian.specs.Lists.{zeros}
use Rattle.head.specs.Answers.{stop_number}
use Rattle.diagnosis.specs.declared.Refusal.{Refusal}
use Rattle.diagnosis.specs.declared.Refusal.TheVariants.{RecordLength, RamSize, FromFlash}
use Rattle.diagnosis.specs.declared.Finding.{Finding}
use Rattle.diagnosis.specs.declared.Finding.TheVariants.{Stopped, Unfinished, Waiting, Missing, Started}
use Rattle.diagnosis.specs.declared.Diagnosis.{Diagnosis}

-- the number of each refusal
abbrev pub refusal_number : Refusal → ℕ
refusal_number RecordLength = 6
refusal_number RamSize = 7
refusal_number FromFlash = 48

-- why a loom did not start, or that it has
pub data Reason : Type 0 where
  -- the number of the refusal
  refused : ℕ → Reason
  -- the number of the stop, and that of its byte, from 1; 0 where it came before any byte
  stopped : ℕ → ℕ → Reason
  -- the bytes end in a frame that is not whole
  unfinished : Reason
  -- no good load has come
  waiting : Reason
  -- the load has come, and so many of its blocks have not
  missing : ℕ → Reason
  started : Reason

-- i is the number of the last byte that was read
abbrev pub reason_of : Result Finding Refusal → ℕ → Reason
reason_of (Err r) i = refused (refusal_number r)
reason_of (Ok (Stopped s)) i = stopped (stop_number s) i
reason_of (Ok Unfinished) i = unfinished
reason_of (Ok Waiting) i = waiting
reason_of (Ok (Missing n)) i = missing n
reason_of (Ok Started) i = started

-- the number of each reason, the one that a C program is given
abbrev pub number_of : Reason → ℕ
number_of (refused k) = k
number_of (stopped k i) = k
number_of started = 65
number_of unfinished = 66
number_of waiting = 67
number_of (missing n) = 68

-- all that a diagnosis tells: the reason, the number, frame and place in it of the last byte that was read, and the program's digest
pub record Explained : Type 0 where
  pub reason : Reason
  pub byte : ℕ
  pub frame : ℕ
  pub offset : ℕ
  pub digest : List ℕ

-- a refused diagnosis read no byte
abbrev pub explained_of : Result Diagnosis Refusal → Explained
explained_of (Ok d) =
    record {
      reason = reason_of (Ok d.finding) d.position.byte;
      byte = d.position.byte;
      frame = d.position.frame;
      offset = d.position.offset;
      digest = d.digest;
    }
explained_of (Err r) = record { reason = refused (refusal_number r); byte = 0; frame = 0; offset = 0; digest = zeros 32 }
