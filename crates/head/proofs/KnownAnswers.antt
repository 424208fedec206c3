-- The list of specs/KnownAnswers.antt: the definitions compute to what document 01 says.
use Prim.Native.Nat.{ℕ, ◌+◌}
use mathlib.Core.Bool.{Bool, true}
use mathlib.Core.Path.{◌≡◌, refl, ap}
use mathlib.Core.List.{List, [], ◌∷◌, ◌++◌}
use lib.ListN.{length, take, replicate}
use lib.Seq.{take-append-add}
use Rattle.framing.specs.Header.{header_at, fields_at, header_byte}
use Rattle.endian.specs.Endian.{word, first_bytes}
use Rattle.rfc7693.specs.Rfc7693.{rotr, words, iv, sigma, added, xor_rotated, G, work_vector, round, rounds, F, input, block_at, block_count, leading, compressions, compressed, initial, blake2s}
use Rattle.protocol.specs.Commands.{load_in}
use Rattle.protocol.specs.Replies.{put_in, reply_header, sent, name_reply, udi_reply, load_reply, block_reply, digest_reply}
use Rattle.endian.specs.Lists.{zeros}
use Rattle.record.specs.Record.{record_at}
use Rattle.record.specs.declared.Digests.{Digests}
use Rattle.cdi.specs.Cdi.{cdi_string, cdi_of}
use Rattle.cdi.proofs.Proved.{cdi}
use Rattle.rfc7693.proofs.Proved.{examples}
use Rattle.head.specs.State.{in_range, of_size, ended}
use Rattle.head.specs.Answers.{Report, Result}
use Rattle.head.specs.Start.{starting, decided}
use Rattle.head.specs.Begin.{Slot, program_in, fits, from_flash, beginning}
use Rattle.head.specs.Gather.{byte_step, gather_refusal, gathered}
use Rattle.head.specs.Act.{load_answer, finished_with, acted_block, act_refusal, acted}
use Rattle.head.specs.KnownAnswers.{digest_of_abc, digest_of_zero, flashed, last_answer, BeginTypes, Begins, TwoDigests, KnownAnswers}
use Rattle.head.specs.declared.Phase.TheVariants as phase
use Rattle.head.specs.declared.Config.{Config}

-- the first n + k bytes of p, which has n, and of what follows
front : (p z : List ℕ) (n k : ℕ) → length p ≡ n → take (n + k) (p ++ z) ≡ p ++ take k z
front p z n k e = rw (← e) (take-append-add p z k)

udi_bytes : (u : List ℕ) → length u ≡ 8 → sent (udi_reply 0x30 u) ≡ 0x32 ∷ 0x09 ∷ 0 ∷ u ++ replicate 22 0
unfolding udi_reply reply_header header_byte
udi_bytes u l = rw l (ap (λ (x : List ℕ). 0x32 ∷ 0x09 ∷ 0 ∷ x) (front u (replicate 118 0) 8 22 l))

digest_bytes : (d : List ℕ) → length d ≡ 32 → sent (digest_reply 0x73 d) ≡ 0x73 ∷ 0x07 ∷ 0 ∷ d ++ replicate 94 0
unfolding digest_reply reply_header header_byte
digest_bytes d l = rw l (ap (λ (x : List ℕ). 0x73 ∷ 0x07 ∷ 0 ∷ x) (front d (replicate 94 0) 32 94 l))

-- ---- begins: the first computes all, and the others take a digest from an equation

abbrev lent_ram : List ℕ
lent_ram = 9 ∷ 9 ∷ 9 ∷ 9 ∷ []

abbrev lent_uds : List ℕ
lent_uds = 1 ∷ 2 ∷ 3 ∷ 4 ∷ 5 ∷ 6 ∷ 7 ∷ 8 ∷ []

abbrev abc : Slot
abc = (flashed 3 1 []).slot0

abbrev zero : Slot
zero = (flashed 3 1 []).slot1

-- a program that fits has the digest d
by_digest : (s : Slot) (c : Config) (d : List ℕ) → fits s.size (length s.bytes) 4 ≡ true → blake2s [] (program_in s) 32 ≡ d
    → from_flash s c lent_ram lent_uds ≡ decided c (of_size phase.Loading s.size) d (put_in lent_ram (program_in s)) lent_uds
unfolding from_flash
by_digest s c d f e = rw (f, e)

of_abc : (c : Config) → from_flash abc c lent_ram lent_uds ≡ decided c (of_size phase.Loading 3) digest_of_abc (put_in lent_ram (program_in abc)) lent_uds
of_abc c = by_digest abc c digest_of_abc refl examples.abc

of_zero : (c : Config) → from_flash zero c lent_ram lent_uds ≡ decided c (of_size phase.Loading 1) digest_of_zero (put_in lent_ram (program_in zero)) lent_uds
unfolding word rotr words first_bytes iv sigma added xor_rotated G work_vector round rounds F input block_at block_count leading compressions compressed initial blake2s
of_zero c = by_digest zero c digest_of_zero refl refl

report_of : Result → Report
report_of x = x.report

begin_types : BeginTypes
unfolding beginning decided starting ended put_in record_at word report_of
begin_types = record {
  flash_0 = ap report_of (of_abc _);
  flash_1 = ap report_of (of_zero _);
  flash_0_ver = ap report_of (of_abc _);
  flash_1_ver = ap report_of (of_zero _);
  differs = ap report_of (of_zero _);
  stop = of_abc _;
  client = refl;
  client_ver = refl;
  unknown = refl;
}

-- the one block of the program is acted on, by what is decided of it
last_block : (a : Digests) (v r : Bool)
    → let c : Config = record { ram_len = 1; measured_id = zeros 32; udi = zeros 8; digests = a; verify = v; chained = r } in
    last_answer c ≡ (decided c (of_size phase.Loading 1) digest_of_zero (0 ∷ []) (zeros 8)).report
unfolding acted act_refusal in_range header_at fields_at acted_block finished_with word rotr words first_bytes iv sigma added xor_rotated G work_vector round rounds F input block_at block_count leading compressions compressed initial blake2s
last_block a v r = refl

either_digest : TwoDigests
unfolding beginning decided starting ended put_in record_at word report_of in_range header_at fields_at
either_digest = record {
  set = refl;
  clear = refl;
  type_2 = (ap report_of (of_abc _), ap report_of (of_abc _), ap report_of (of_abc _), ap report_of (of_abc _));
  type_3 = (ap report_of (of_zero _), ap report_of (of_zero _), ap report_of (of_zero _), ap report_of (of_zero _));
  type_5 = (last_block _ _ _, last_block _ _ _, last_block _ _ _, last_block _ _ _);
  zeros_allow_nothing = refl;
  type_0 = ap report_of (of_abc _);
  type_4 = last_block _ _ _;
  state_4 = (refl, refl);
  state_5 = (refl, refl);
  any_digests = λ a. refl;
  bit_decides = last_block _ _ _;
}

begins : Begins
unfolding beginning from_flash decided starting ended put_in record_at word cdi_string cdi_of rotr words first_bytes iv sigma added xor_rotated G work_vector round rounds F input block_at block_count leading compressions compressed initial blake2s
begins = record {
  start = refl;
  chained = refl;
  types = begin_types;
  sizes = (refl, refl, refl, refl, refl);
  unfit = refl;
  refusals = (refl, refl, refl);
}

pub known_answers : KnownAnswers
unfolding load_in word record_at name_reply load_reply block_reply reply_header header_byte beginning header_at fields_at byte_step in_range gather_refusal gathered act_refusal acted load_answer put_in ended
known_answers = record {
  flags = (refl, refl, refl, refl, refl, refl);
  types = (refl, refl, refl, refl, refl, refl, refl, refl, refl);
  masks = (refl, refl, refl);
  second_masks = (refl, refl, refl);
  either_digest = either_digest;
  name = refl;
  udi = udi_bytes;
  taken = refl;
  block = refl;
  digest = digest_bytes;
  strings = cdi.strings;
  begins = begins;
  gathering = (refl, refl, refl);
  acting = (refl, refl, refl, refl, refl, refl);
  not_taken = (refl, refl, refl, refl);
  foreign = (refl, refl);
  after_stop = (refl, refl, refl);
  ends = λ p m. (refl, refl, refl, refl, refl, refl, refl, refl, refl);
}
