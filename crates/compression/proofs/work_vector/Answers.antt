-- The array is the work vector written out (`laid_out`).
use Rattle.std.proofs.Common.{◌≡◌, length, rules}
use Rattle.rfc7693.specs.Rfc7693.{iv}
use Rattle.rfc7693.proofs.Vectors.{laid_out_is}
use Rattle.compression.proofs.work_vector.Goals as goal

pub returns : goal.returns
unfolding iv
returns c =
    let a = c.args in
    let l : length a.h ≡ 8 = search rules in
    rw c.inverted_if.ensures (laid_out_is a.h a.t a.last l)
