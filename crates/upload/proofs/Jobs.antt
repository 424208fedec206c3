-- The hash of a program is not refused.
use Prim.Native.Nat.{ℕ, ◌≤◌}
use native.Mathlib.Omega.{arith}
use mathlib.Core.Path.{◌≡◌}
use mathlib.Core.List.{List, []}
use lib.ListN.{length}
use Rattle.rfc7693.specs.Rfc7693.{blake2s}
use Rattle.blake2s.proofs.Numbers.{digest_zeros}
use Rattle.upload.specs.Upload.{job_of}

pub job_is : (program : List ℕ) (id wait : ℕ) → length program ≤ 131072
    → job_of program id wait ≡ record { len = length program; id = id; digest = blake2s [] program 32; wait = wait }
unfolding job_of
job_is program id wait h = rw (digest_zeros program (omega arith))
