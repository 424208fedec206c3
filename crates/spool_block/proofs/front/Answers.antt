-- Eight bytes of two words are four of each.
use Rattle.endian.specs.Endian.{first_bytes}
use Rattle.spool_block.proofs.front.Goals as goal

pub returns : goal.returns
unfolding first_bytes
returns c = c.write_bytes.ensures
