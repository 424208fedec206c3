-- The code is the definition: the first word has the parameter block, the others are the initialization vector.
use mathlib.Core.Path.{refl}
use Rattle.rfc7693.specs.Rfc7693.{initial, iv}
use Rattle.blake2s.proofs.stream.first_state.Goals as goal

pub returns : goal.returns
unfolding initial iv
returns c = refl
