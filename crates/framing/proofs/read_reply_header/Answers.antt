-- Bit 7 decides; the fields are the definition's.
use Prim.Native.Nat.{◌/◌}
use mathlib.Core.Path.{◌≡◌}
use native.Mathlib.Omega.{arith}
use borrow.Author.Tests.{eq-eqb, ne_eqb}
use Rattle.framing.specs.Header.{fields_at}
use Rattle.framing.proofs.read_reply_header.Goals as goal

pub returns-then-b-ne0 : goal.returns-then-b-ne0
unfolding fields_at
returns-then-b-ne0 c = rw (ne_eqb _ _ c.if-b-ne0.true)

pub returns : goal.returns
unfolding fields_at
returns c =
    let b = c.args.b in
    let low : b / 1 ≡ b = omega arith in
    rw (
      eq-eqb _ _ c.if-b-ne0.false,
      c.frame_id.ensures,
      c.endpoint.ensures,
      c.body_length.ensures,
      c.header_status.ensures,
      low,
    )
