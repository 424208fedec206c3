-- Each turn puts the next block and the next entry behind those that are there.
use Rattle.std.proofs.Common.{◌≡◌, ℕ, ◌*◌, length}
use Rattle.endian.specs.Lists.{each}
use Rattle.protocol.specs.Replies.{put_in}
use Rattle.spool.specs.Reading.{blocks_in, block_at}
use Rattle.spool.specs.Salvage.{Mended, mended}
use Rattle.spool.proofs.Parts.{front}
use Rattle.spool.proofs.salvaging.mend_all.Given as goal

abbrev pub invariant-loop-place : goal.invariant-loop-place
invariant-loop-place l =
    let at : ℕ → Mended = λ i. mended (blocks_in l.initial.spool) i l.spares (block_at l.initial.spool i) in
    let done = front l.place (λ i. (at i).block) in
    (length done ≡ 512 * l.place) × (l.spool ≡ put_in l.initial.spool done) × (l.report ≡ put_in l.initial.report (each l.place (λ i. (at i).entry)))
