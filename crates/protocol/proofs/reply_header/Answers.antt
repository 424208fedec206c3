-- What the writer of headers gives, read as a byte.
use Prim.Native.Nat.{ℕ}
use mathlib.Core.Path.{◌≡◌, refl, ◌∙◌}
use Rattle.std.specs.Prelude.{Option, Some, None}
use Rattle.std.specs.Option.{unwrap_or}
use Rattle.framing.specs.Answers.{writing_of}
use Rattle.protocol.specs.Replies.{reply_header, written}
use Rattle.protocol.proofs.reply_header.Goals as goal

or_zero : (o : Option ℕ) → unwrap_or o 0 ≡ written (writing_of o)
or_zero (Some b) = refl
or_zero None = refl

pub returns : goal.returns
unfolding reply_header
returns c = rw (← c.frame_id.ensures, ← c.write_header.ensures) (c.unwrap_or.ensures ∙ or_zero c.write_header.result)
