-- Position k of a frame is place k - 1 of its body.
use Rattle.std.proofs.Common.{rules}
use Rattle.endian.specs.Endian.{word}
use Rattle.protocol.specs.Commands.{load_in}
use Rattle.protocol.proofs.read_load.Goals as goal

pub returns : goal.returns
unfolding load_in word
returns c = rw (c.part.ensures.whole (search rules), c.word_at.ensures)
