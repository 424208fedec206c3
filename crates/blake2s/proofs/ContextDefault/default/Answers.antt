-- The literals are those of the definition.
use mathlib.Core.Path.{refl}
use Rattle.blake2s.specs.Stream.{refused_context}
use Rattle.blake2s.proofs.ContextDefault.default.Goals as goal

pub returns : goal.returns
unfolding refused_context
returns c = refl
