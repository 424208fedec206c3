-- The header decides; where it is good, endpoint and count are tested.
use mathlib.Core.Path.{sym, ◌∙◌}
use native.Mathlib.Omega.{arith}
use Rattle.endian.proofs.Cases.{impossible}
use Rattle.framing.proofs.Headers.{good_at, bad_at, body_small}
use Rattle.head.proofs.states.is_whole.Goals.{then-is_good, else-is_good}
use Rattle.head.proofs.states.is_whole.Goals as goal

pub overflow_add-result : goal.overflow_add-result
overflow_add-result c =
    let s = body_small c.args.header in
    let e = c.body_len.ensures in
    record { fits = omega arith }

pub returns-then-endpoint-eq2 : goal.returns-then-endpoint-eq2
returns-then-endpoint-eq2 c =
    let v = c.if-endpoint-eq2.true in
    elim c.if-is_good.branch [
      | then-is_good w ↦ rw (good_at _ (sym c.is_good.ensures ∙ w.if-is_good.true), ← w.endpoint.ensures, sym w.value-is ∙ v, c.body_len.ensures)
      | else-is_good w ↦ let z = sym v ∙ w.value-is ∙ w.if-is_good.false in impossible cc
    ]

pub returns-else-endpoint-eq2 : goal.returns-else-endpoint-eq2
returns-else-endpoint-eq2 c =
    let v = c.if-endpoint-eq2.false in
    elim c.if-is_good.branch [
      | then-is_good w ↦ rw (v, good_at _ (sym c.is_good.ensures ∙ w.if-is_good.true), ← w.endpoint.ensures, sym w.value-is ∙ v)
      | else-is_good w ↦ rw (v, bad_at _ (sym c.is_good.ensures ∙ w.if-is_good.false))
    ]
