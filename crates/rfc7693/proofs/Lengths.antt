-- How long a hash is.
use Prim.Native.Nat.{ℕ}
use mathlib.Core.Path.{◌≡◌, ◌∙◌}
use mathlib.Core.List.{List, []}
use native.Mathlib.Omega.{arith}
use lib.ListN.{length, take, length-take}
use Rattle.endian.specs.Endian.{bytes}
use Rattle.endian.proofs.Words.{bytes_length}
use Rattle.rfc7693.specs.Rfc7693.{initial, compressions, compressed, blake2s}

pub digest_length : (msg : List ℕ) → length (blake2s [] msg 32) ≡ 32
unfolding blake2s
digest_length msg = first_32 (bytes (state msg)) (bytes_length 32 (state msg))
  where
    state : List ℕ → List ℕ
    state m = compressed (initial 0 32) (compressions [] m)

    first_32 : (l : List ℕ) → length l ≡ 32 → length (take 32 l) ≡ 32
    first_32 l e = length-take 32 l ∙ omega arith
