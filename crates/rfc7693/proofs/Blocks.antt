-- The blocks of some data.
use mathlib.Core.Path.{◌≡◌}
use mathlib.Core.List.{List, append-nil}
use Prim.Native.Nat.{ℕ, ◌+◌, ◌-◌, ◌*◌, ◌≤◌}
use native.Mathlib.Omega.{arith}
use lib.ListN.{length, take, drop, length-append, length-replicate, length-drop}
use lib.Seq.{drop-drop, take_all, length-take-le}
use Rattle.rfc7693.specs.Rfc7693.{block_at}
use Rattle.endian.specs.Lists.{padded}

pub length_padded : (x : List ℕ) → length x ≤ 64 → length (padded 64 x) ≡ 64
length_padded x h = simp (length-append, length-replicate) (omega arith)

pub padded_full : (x : List ℕ) → length x ≡ 64 → padded 64 x ≡ x
padded_full x e = rw e (append-nil x)

-- a block of which all bytes are there
pub block_full : (d : List ℕ) (i : ℕ) → 64 * i + 64 ≤ length d → block_at d i ≡ take 64 (drop (64 * i) d)
unfolding block_at
block_full d i h =
    let l : length (drop (64 * i) d) ≡ length d - 64 * i = length-drop (64 * i) d in
    padded_full (take 64 (drop (64 * i) d)) (length-take-le 64 (drop (64 * i) d) (omega arith))

-- the final block
pub block_last : (d : List ℕ) (i : ℕ) → length d ≤ 64 * i + 64 → block_at d i ≡ padded 64 (drop (64 * i) d)
unfolding block_at
block_last d i h =
    let l : length (drop (64 * i) d) ≡ length d - 64 * i = length-drop (64 * i) d in
    rw (take_all 64 (drop (64 * i) d) (omega arith))

-- the blocks behind the first n are those of what stands behind them
pub block_behind : (d : List ℕ) (n i : ℕ) → block_at (drop (64 * n) d) i ≡ block_at d (n + i)
unfolding block_at
block_behind d n i =
    let e : 64 * (n + i) ≡ 64 * n + 64 * i = omega arith in
    rw (e, ← drop-drop (64 * i) (64 * n) d)
