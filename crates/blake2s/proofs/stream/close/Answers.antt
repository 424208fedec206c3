-- What waits is compressed as the final block, and the hash is the front of the state.
use Rattle.blake2s.proofs.Blocks.{blocks_one}
use Rattle.blake2s.proofs.stream.close.Goals as goal

pub returns : goal.returns
returns c =
    let a = c.args in
    rw (c.write_bytes.ensures, c.compress_blocks.ensures, blocks_one a.h.now a.n a.block.now _ c.told-block)
