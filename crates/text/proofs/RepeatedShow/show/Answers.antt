use Rattle.std.proofs.Common.{◌≡◌, ◌+◌, ◌-◌, arith, ◌∙◌}
use Rattle.text.specs.Text.{added}
use Rattle.text.proofs.Texts.{one_of_exactly}
use Rattle.text.proofs.RepeatedShow.show.Goals as goal

pub loop-preserved : goal.loop-preserved
loop-preserved c =
    let p = c.loop in
    let r = c.args.self.now in
    let e : r.1 - (p.counter + 1) ≡ (r.1 - p.counter) - 1 = omega arith in
    rw (c.push.ensures, e) (one_of_exactly p.t r.0 (r.1 - p.counter) (omega arith) ∙ p.invariant)

pub returns : goal.returns
unfolding added
returns c =
    let p = c.loop in
    let e : c.args.self.now.1 - p.counter ≡ 0 = omega arith in
    rw e at p.invariant
