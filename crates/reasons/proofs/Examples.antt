-- Each example by computation.
use mathlib.Core.Path.{refl}
use Rattle.endian.specs.Endian.{word, first_bytes}
use Rattle.endian.specs.Lists.{All}
use Rattle.framing.specs.Header.{header_at, fields_at}
use Rattle.rfc7693.specs.Rfc7693.{rotr, words, iv, sigma, added, xor_rotated, G, work_vector, round, rounds, F, block_at, leading, compressed, initial}
use Rattle.blake2s.specs.Hash.{hash_number}
use Rattle.blake2s.specs.Stream as stream
use Rattle.protocol.specs.Commands.{load_in}
use Rattle.record.specs.Record.{record_at}
use Rattle.head.specs.State.{in_range, ended}
use Rattle.head.specs.Gather.{byte_step, gather_refusal, gathered}
use Rattle.diagnosis.specs.Monitor.{closed, opened, begun, load_heard, block_heard, heard_byte, heard, explained, diagnosis}
use Rattle.reasons.specs.Examples.{Told, examples}

pub comes_up : All Told examples
unfolding diagnosis explained heard heard_byte begun closed opened record_at word gathered gather_refusal byte_step in_range header_at fields_at ended load_in load_heard block_heard rotr words first_bytes iv sigma added xor_rotated G work_vector round rounds F block_at leading compressed initial hash_number stream.begin_context stream.begin_number stream.begun stream.update_context stream.update_number stream.in_range stream.extended stream.waiting stream.total stream.done stream.earlier stream.finish_output stream.finish_number stream.closed
comes_up =
    (refl, (refl, (refl, (refl, (refl, (refl, (refl, (refl, (refl, (refl, (refl, (refl, (refl, (refl, (refl, (refl, (refl, (refl, (refl, (refl, tt))))))))))))))))))))
