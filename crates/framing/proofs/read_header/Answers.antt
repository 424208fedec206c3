-- Bits 7 and 2 decide; the fields are the definition's.
use Prim.Native.Nat.{◌/◌}
use mathlib.Core.Path.{◌≡◌, sym, ◌∙◌}
use native.Mathlib.Omega.{arith}
use Rattle.framing.proofs.Headers.{good_fields, bad_at}
use Rattle.framing.proofs.read_header.Goals as goal

pub returns-then-not-is_good : goal.returns-then-not-is_good
returns-then-not-is_good c = let g = c.is_good in rw (bad_at _ (sym g.ensures ∙ c.if-not-is_good.true))

pub returns : goal.returns
returns c =
    let g = c.is_good in
    let b = c.args.b in
    let low : b / 1 ≡ b = omega arith in
    rw (
      good_fields b (sym g.ensures ∙ c.if-not-is_good.false),
      c.frame_id.ensures,
      c.endpoint.ensures,
      c.body_length.ensures,
      low,
    )
