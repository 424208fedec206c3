-- The laws for a part for which the block has room (`state_short`) and for a longer one (`state_long`), with what the calls ensure.
use mathlib.Core.Path.{refl}
use Prim.Native.Nat.{◌-◌, ◌<◌}
use native.Mathlib.Omega.{arith}
use lib.ListN.{length, take, drop}
use Rattle.endian.proofs.Lists.{drop_whole}
use Rattle.blake2s.proofs.Contexts.{state_short, block_short, state_long, block_long}
use Rattle.blake2s.proofs.stream.compress_full.Goals as goal

pub returns-then-s-room : goal.returns-then-s-room
returns-then-s-room c =
    let a = c.args in
    let w = c.waiting-at.ensures in
    let at = c.waiting-at.result in (
      state_short a.block.now a.n at c.told-block w.0 w.1 a.s.now (omega arith) a.h.now,
      omega arith,
      omega arith,
      block_short a.block.now a.n at c.told-block w.0 w.1 a.s.now (omega arith),
    )

pub returns : goal.returns
returns c =
    let a = c.args in
    let s = a.s.now in
    let w = c.waiting-at.ensures in
    let at = c.waiting-at.result in
    let room = 64 - at in
    let rest = take (length s - room) (drop room s) in
    let m : room < length s = omega arith in
    let e = drop_whole room s in
    let f = c.before_final-k.ensures in (
      state_long a.block.now a.n at c.told-block w.0 w.1 s room rest refl m e a.h.now c.copy.ensures c.compress_blocks.ensures f.0 c.compress_blocks-2.ensures,
      omega (arith, f.1),
      omega (arith, f.2),
      block_long a.block.now a.n at c.told-block w.0 w.1 s room rest refl m e f.0,
    )
