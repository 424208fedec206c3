use Rattle.endian.proofs.Words.{word_filled}
use Rattle.endian.proofs.word_at.Goals as goal

pub returns : goal.returns
returns c = rw (c.word.ensures, c.part.ensures.filled) (word_filled c.args.bytes.now c.args.at)
