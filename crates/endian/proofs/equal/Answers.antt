use mathlib.Core.Path.{sym, ◌∙◌}
use native.Mathlib.Omega.{arith}
use Rattle.endian.proofs.Same.{same_length, same_more, same_end}
use Rattle.endian.proofs.equal.Goals as goal

pub returns-then-a-b : goal.returns-then-a-b
returns-then-a-b c = let z = c.args in sym (same_length z.a.now z.b.now c.if-a-b.true)

pub loop-i-preserved : goal.loop-i-preserved
loop-i-preserved c =
    let z = c.args in
    same_more c.loop-i.so_far z.a.now z.b.now c.loop-i.i (omega arith) (omega arith) ∙ c.loop-i.invariant

pub returns : goal.returns
returns c =
    let z = c.args in
    sym (same_end c.loop-i.so_far z.a.now z.b.now c.loop-i.i (omega arith) (omega arith)) ∙ c.loop-i.invariant
