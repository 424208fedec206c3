-- What no compression has taken is put in the block.
use Rattle.endian.proofs.Lists.{drop_whole}
use Rattle.blake2s.proofs.stream.absorb.Goals as goal

pub returns : goal.returns
returns c = let f = c.compress_full-rest.ensures in (f.0, rw (c.put_padded.ensures, drop_whole c.compress_full-rest.result.from c.args.s.now) f.3)
