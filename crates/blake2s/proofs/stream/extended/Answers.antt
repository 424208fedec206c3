-- The state and the block are those that `absorb` ensures.
use Rattle.blake2s.specs.Steps.{state_after, block_after}
use Rattle.blake2s.specs.Stream.{total, done, waiting, extended}
use Rattle.blake2s.proofs.stream.extended.Goals as goal

pub returns : goal.returns
unfolding extended state_after block_after waiting done total
returns c = rw (c.absorb.ensures.0, c.absorb.ensures.1, c.bytes_in.ensures)
