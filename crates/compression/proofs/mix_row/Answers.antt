-- The two message words are those that `select` gives, and the row's places are positions of the vector.
use Rattle.std.proofs.Common.{ltb→lt}
use Rattle.compression.proofs.mix_row.Goals as goal

pub mix-requires : goal.mix-requires
mix-requires c =
    let b = c.requires.2.below in
    (b 0 (ltb→lt 0 4 tt), b 1 (ltb→lt 1 4 tt), b 2 (ltb→lt 2 4 tt), b 3 (ltb→lt 3 4 tt))

pub returns : goal.returns
returns c = rw (c.mix.ensures, c.select-y.ensures, c.select-x.ensures)
