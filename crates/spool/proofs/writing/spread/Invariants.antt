-- Each turn puts the next block behind what is there.
use Rattle.std.proofs.Common.{◌≡◌}
use Rattle.protocol.specs.Replies.{put_in}
use Rattle.spool_block.specs.Making.{block_of}
use Rattle.spool.specs.Reading.{part}
use Rattle.spool.proofs.Parts.{front}
use Rattle.spool.proofs.writing.spread.Given as goal

abbrev pub invariant-loop-place : goal.invariant-loop-place
invariant-loop-place l = l.room ≡ put_in l.initial.room (front l.place (λ i. block_of i (part 472 l.program i)))
