use mathlib.Core.Path.{◌≡◌, sym, ◌∙◌}
use Prim.Native.Nat.{◌+◌, ◌-◌, ◌*◌}
use native.Mathlib.Omega.{arith}
use lib.ListN.{drop}
use Rattle.blake2s.proofs.Blocks.{blocks_none, blocks_step}
use Rattle.blake2s.proofs.stream.compress_blocks.Goals as goal

pub loop-i-preserved : goal.loop-i-preserved
loop-i-preserved c =
    let a = c.args in
    let i = c.loop-i.i in
    let w : 64 * i + 64 - 64 * i ≡ 64 = omega arith in (
      omega arith,
      rw (c.compress.ensures, c.read_words-m.ensures, w) (blocks_step c.loop-i.h a.t a.d.now a.last a.n i (omega arith) (omega arith) ∙ c.loop-i.invariant.1),
    )

pub returns : goal.returns
returns c =
    let a = c.args in
    let e : a.n - c.loop-i.i ≡ 0 = omega arith in
    sym (blocks_none c.loop-i.h (a.t + 64 * c.loop-i.i) (drop (64 * c.loop-i.i) a.d.now) a.last) ∙ (rw e at c.loop-i.invariant.1)
