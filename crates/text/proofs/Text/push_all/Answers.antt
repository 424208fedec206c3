use Rattle.std.proofs.Common.{◌≡◌, arith, refl, ◌∙◌, length}
use lib.Seq.{drop-length}
use Rattle.text.specs.Text.{added}
use Rattle.text.proofs.Texts.{next}
use Rattle.text.proofs.Text.push_all.Goals as goal

pub loop-b-init : goal.loop-b-init
loop-b-init c = refl

pub loop-b-preserved : goal.loop-b-preserved
loop-b-preserved c =
    let p = c.loop-b in
    rw c.push.ensures (next p.self c.args.s.now p.b-index (omega arith) ∙ p.invariant)

pub returns : goal.returns
unfolding added
returns c =
    let p = c.loop-b in
    let e : p.b-index ≡ length c.args.s.now = omega arith in
    rw (e, drop-length) at p.invariant
