-- The four mixings are those of the definition, at the rows of the table from K on.
use Rattle.std.proofs.Common.{◌∙◌, ◌+◌}
use native.Mathlib.Omega.{arith}
use Rattle.rfc7693.specs.Rfc7693.{positions, mixing}
use Rattle.compression.proofs.Steps.{row_places, mixed}
use Rattle.compression.proofs.half_round.Goals as goal

pub returns : goal.returns
unfolding mixing positions
returns g c =
    let a = c.args in
    c.apart.ensures
    ∙ mixed a.m.now a.s g.row.K a.v c.mix_row-v1.ensures c.mix_row-v2.ensures c.mix_row-v3.ensures c.mix_row-v4.ensures

pub mix_row-v1-requires : goal.mix_row-v1-requires
unfolding positions
mix_row-v1-requires g c = (c.requires.0, omega arith, row_places g.row.K (omega arith))

pub mix_row-v2-requires : goal.mix_row-v2-requires
unfolding positions
mix_row-v2-requires g c = (c.requires.0, omega arith, row_places (g.row.K + 1) (omega arith))

pub mix_row-v3-requires : goal.mix_row-v3-requires
unfolding positions
mix_row-v3-requires g c = (c.requires.0, omega arith, row_places (g.row.K + 2) (omega arith))

pub mix_row-v4-requires : goal.mix_row-v4-requires
unfolding positions
mix_row-v4-requires g c = (c.requires.0, omega arith, row_places (g.row.K + 3) (omega arith))
