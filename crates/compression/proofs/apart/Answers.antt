-- A vector is the list of its sixteen words.
use Rattle.std.proofs.Common.{◌≡◌, length, rules}
use Rattle.endian.proofs.Lists.{each_of}
use Rattle.compression.proofs.apart.Goals as goal

pub returns : goal.returns
returns c =
    let l : length c.args.v ≡ 16 = search rules in
    each_of 16 c.args.v l
