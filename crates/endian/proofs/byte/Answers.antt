-- A number of 32 bits has no byte after the fourth.
use lib.Pow.{pow_pos, pow_mono}
use native.Mathlib.Nat.{div-lt_iff_lt-mul}
use native.Mathlib.Omega.{arith}
use mathlib.Core.Path.{◌≡◌}
use Prim.Native.Nat.{◌*◌, ◌/◌, ◌^◌, ◌<◌, ◌≤◌}
use Rattle.endian.proofs.byte.Goals as goal

pub returns-then-i-gt3 : goal.returns-then-i-gt3
returns-then-i-gt3 c =
    let n = c.args.n in
    let i = c.args.i in
    let m : 2 ^ 32 ≤ 2 ^ (8 * i) = pow_mono {i = 32} {j = 8 * i} (omega arith) in
    let p = pow_pos (8 * i) in
    let h : n < 1 * 2 ^ (8 * i) = omega arith in
    let l : n / 2 ^ (8 * i) < 1 = (div-lt_iff_lt-mul {x = n} {y = 1} p).1 h in
    let z : n / 2 ^ (8 * i) ≡ 0 = omega arith in
    rw z
