-- The code is the definition.
use Rattle.blake2s.specs.Stream.{in_range}
use Rattle.blake2s.proofs.Context.in_range.Goals as goal

pub returns : goal.returns
unfolding in_range
returns c = rw c.bad_size.ensures
