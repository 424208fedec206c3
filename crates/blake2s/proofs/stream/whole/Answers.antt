-- The message as one part gives the hash (`in_one`).
use Rattle.std.proofs.Common.{rules}
use lib.ListN.{length}
use Rattle.blake2s.proofs.Contexts.{copied_padded}
use Rattle.blake2s.proofs.Streams.{in_one}
use Rattle.blake2s.proofs.stream.whole.Goals as goal

pub returns : goal.returns
returns c =
    let a = c.args in
    rw (
      c.close.ensures,
      c.absorb.ensures.0,
      c.absorb.ensures.1,
      c.bytes_in-2.ensures,
      c.bytes_in.ensures,
      (c.put.ensures.fits (search rules)),
      copied_padded a.key.now,
      c.first_state-h.ensures,
    )
    (in_one a.key.now a.msg.now (length a.out.now) c.requires.0 c.requires.2)
