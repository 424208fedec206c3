-- Each turn puts what the next block uses behind what is there.
use Rattle.std.proofs.Common.{◌≡◌, length, take}
use Rattle.protocol.specs.Replies.{put_in}
use Rattle.spool.specs.Steps.{uses_of}
use Rattle.spool.proofs.reading.gather.Given as goal

abbrev pub invariant-loop-block : goal.invariant-loop-block
invariant-loop-block l =
    let uses = uses_of (take l.block-index l.blocks) in
    (l.at ≡ length uses) × (l.room ≡ put_in l.initial.room uses)
