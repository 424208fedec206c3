-- Each field is read at its place.
use Rattle.std.proofs.Common.{rules}
use lib.ListN.{get_or}
use Rattle.abi.specs.Layout.{state_in}
use Rattle.abi.proofs.RoundTrip.{low}
use Rattle.abi.proofs.layout.read.Goals as goal

pub returns : goal.returns
unfolding state_in
returns c =
    let l = low (get_or c.args.bytes.now 131 0) in
    rw (l, c.part-6.ensures.whole (search rules), c.phase_of.ensures, c.part-5.ensures.whole (search rules), c.part-4.ensures.whole (search rules), c.part-3.ensures.whole (search rules), c.part-2.ensures.whole (search rules), c.part.ensures.whole (search rules))
