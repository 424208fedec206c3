-- Between frames the byte is a header; otherwise the header of the frame says what it is.
use mathlib.Core.Path.{sym}
use borrow.Author.Tests.{eq-eqb, ne_eqb}
use Rattle.head.specs.Gather.{byte_step}
use Rattle.head.proofs.Ranges.{incoming_got}
use Rattle.head.proofs.gathering.take.Goals as goal

pub returns-then-s-eq0 : goal.returns-then-s-eq0
unfolding byte_step
returns-then-s-eq0 c = rw (eq-eqb _ _ c.if-s-eq0.true) c.«open».ensures

pub in_body-requires : goal.in_body-requires
in_body-requires c =
    let g = incoming_got c.args.s.incoming c.requires.incoming_value c.requires.incoming_value_2 c.if-s-eq0.false in
    (g.0, g.2)

pub returns-in-Some : goal.returns-in-Some
unfolding byte_step
returns-in-Some c = rw (ne_eqb _ _ c.if-s-eq0.false, sym c.in-Some.ensures) c.in_body.ensures
