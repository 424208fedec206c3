-- The theorem of specs/Theorems.antt: the turns fold, and the examples compute.
use mathlib.Core.Path.{refl}
use Rattle.rfc7693.specs.Rfc7693.{rotr, words, iv, sigma, added, xor_rotated, G, work_vector, round, rounds, F, input, block_at, block_count, leading, compressions, compressed, initial, blake2s}
use Rattle.endian.specs.Endian.{word, first_bytes}
use Rattle.framing.specs.Header.{header_at, fields_at, header_byte}
use Rattle.record.specs.Record.{record_at}
use Rattle.cdi.specs.Cdi.{cdi_string, cdi_of}
use Rattle.protocol.specs.Commands.{load_in}
use Rattle.protocol.specs.Replies.{reply_header, put_in, name_reply, udi_reply, load_reply, digest_reply}
use Rattle.head.specs.State.{in_range, ended}
use Rattle.head.specs.Start.{starting, decided}
use Rattle.head.specs.Begin.{from_flash, beginning}
use Rattle.head.specs.Gather.{byte_step, gather_refusal, gathered}
use Rattle.head.specs.Act.{load_answer, after_load, finished_with, acted_block, act_refusal, acted}
use Rattle.text.specs.Text.{decimal_of}
use Rattle.printer.specs.Output.{after_begin, after_byte, output}
use Rattle.printer.specs.Theorems.{Printer}
use Rattle.printer.proofs.Folds.{folds}
use Rattle.printer.proofs.NoFlash.{stop_at_begin}

pub printer : Printer
unfolding output decimal_of after_begin after_byte beginning from_flash decided gather_refusal gathered byte_step act_refusal acted in_range ended put_in record_at word header_at fields_at name_reply udi_reply reply_header header_byte load_in load_answer load_reply after_load acted_block finished_with starting digest_reply cdi_string cdi_of rotr words first_bytes iv sigma added xor_rotated G work_vector round rounds F input block_at block_count leading compressions compressed initial blake2s
printer = record {
  folds = folds;
  example = refl;
  start = refl;
  stop_at_begin = stop_at_begin;
  stop_26 = refl;
  not_taken = refl;
  stop_22 = refl;
  short = refl;
}
