-- The sum of the four bytes, each in its place.
use mathlib.Core.Path.{◌∙◌}
use native.Mathlib.Omega.{arith}
use Rattle.endian.specs.Endian.{word}
use Rattle.endian.proofs.word.Goals as goal

pub returns : goal.returns
unfolding word
returns c = c.from_le_bytes.ensures ∙ omega arith
