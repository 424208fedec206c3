-- The secret is read before it is cleared.
use lib.ListN.{replicate}
use Prim.Native.Nat.{ℕ}
use mathlib.Core.Path.{ap, ◌∙◌}
use Rattle.head.specs.Start.{starting}
use Rattle.loader.proofs.Steps.{derived}
use Rattle.loader.proofs.starting.start.Goals as goal

pub returns : goal.returns
unfolding starting
returns c =
    let a = c.args in
    let cleared = c.clear.ensures ∙ ap (λ (n : ℕ). replicate n 0) c.requires in
    λ ram. rw (
      c.ended.ensures,
      c.derive-cdi.ensures,
      c.then_some-measured_id.ensures,
      c.then_some-uss.ensures,
      derived c.secret_bytes-secret.result a.c.measured_id a.digest a.p.uss a.c.chained a.p.uss_used,
      c.secret_bytes-secret.ensures,
      cleared,
    )
