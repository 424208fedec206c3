-- The code is the definition.
use Rattle.std.proofs.Common.{rules}
use Rattle.rfc7693.specs.Rfc7693.{added}
use Rattle.compression.proofs.add.Goals as goal

pub returns : goal.returns
unfolding added
returns c = search rules
