use Rattle.std.proofs.Common.{◌≡◌, arith, refl, ◌∙◌, length}
use lib.Seq.{drop-length}
use Rattle.text.specs.Text.{added}
use Rattle.text.proofs.Texts.{next_hex}
use Rattle.text.proofs.HexShow.show.Goals as goal

pub loop-b-init : goal.loop-b-init
loop-b-init c = refl

pub loop-b-preserved : goal.loop-b-preserved
unfolding added
loop-b-preserved c =
    let p = c.loop-b in
    rw (c.push-in-loop-b.ensures, c.hex_digit-in-loop-b.ensures, c.push.ensures, c.hex_digit.ensures) (next_hex p.t c.args.self.now.0.now p.b-index (omega arith) ∙ p.invariant)

pub returns : goal.returns
unfolding added
returns c =
    let p = c.loop-b in
    let e : p.b-index ≡ length c.args.self.now.0.now = omega arith in
    rw (e, drop-length) at p.invariant
