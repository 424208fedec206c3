-- Both steps of each round.
use Rattle.std.proofs.Common.{◌≡◌, ◌∙◌, ◌+◌}
use native.Mathlib.Omega.{arith}
use Rattle.rfc7693.specs.Rfc7693.{sigma}
use Rattle.compression.proofs.Steps.{order_places, rounds_more}
use Rattle.compression.proofs.two_rounds.Goals as goal

pub returns : goal.returns
unfolding sigma
returns g c =
    let a = c.args in
    let m = a.m.now in
    let e : g.row.R + 2 ≡ g.row.R + 1 + 1 = omega arith in
    rw e
    (rounds_more m c.half_round-w.result (g.row.R + 1) (omega arith) c.half_round-2.ensures c.half_round-3.ensures
    ∙ rounds_more m a.v g.row.R (omega arith) c.half_round.ensures c.half_round-w.ensures)

pub half_round-requires : goal.half_round-requires
unfolding sigma
half_round-requires g c = (order_places g.row.R (omega arith), omega arith)

pub half_round-w-requires : goal.half_round-w-requires
unfolding sigma
half_round-w-requires g c = (order_places g.row.R (omega arith), omega arith)

pub half_round-requires-2 : goal.half_round-requires-2
unfolding sigma
half_round-requires-2 g c = (order_places (g.row.R + 1) (omega arith), omega arith)

pub half_round-requires-3 : goal.half_round-requires-3
unfolding sigma
half_round-requires-3 g c = (order_places (g.row.R + 1) (omega arith), omega arith)
