-- The calls give the fields; the type and the mask are numbers of four bytes (`word_in`).
use Rattle.std.proofs.Common.{rules}
use Rattle.endian.specs.Endian.{word}
use Rattle.record.specs.Record.{record_at}
use Rattle.record.proofs.Fields.{word_in}
use Rattle.record.proofs.read.Goals as goal

pub returns : goal.returns
unfolding record_at word
returns c =
    let l = c.args.bytes in
    rw (
      c.part.ensures.whole (search rules),
      c.digests_in.ensures,
      c.word_at-mask.ensures,
      c.ok.ensures.value,
      c.try_from.ensures,
      c.word_at.ensures,
      word_in l 0,
      word_in l 4,
    )
