-- A begin with nothing in flash: RAM stays, and types 0 to 3 stop with 26.
use Prim.Native.Nat.{ℕ, zero, suc, ◌≤◌}
use native.Mathlib.Omega.{arith}
use mathlib.Core.Bool.{true}
use mathlib.Core.Path.{◌≡◌, refl, ap, ◌∙◌}
use mathlib.Core.List.{List, [], ◌∷◌}
use lib.Dec.{eqb}
use lib.ListN.{length, take, drop, length-take, length-replicate}
use lib.Seq.{take-take}
use borrow.Author.Tests.{eq-eqb, le-ltb}
use Rattle.endian.specs.Endian.{word}
use Rattle.endian.specs.Lists.{zeros}
use Rattle.protocol.specs.Commands.{length_ok}
use Rattle.record.specs.Record.{type_field, number_in, known_type, record_at}
use Rattle.record.specs.Types.{Source, slot0, slot1, client, unknown, source_of}
use Rattle.text.specs.Text.{ascii, decimal_of}
use Rattle.head.specs.Answers.{stopped, Result, replied}
use Rattle.head.specs.Start.{ending}
use Rattle.head.specs.Begin.{config_of, from_flash, by_source, begin_refusal, beginning}
use Rattle.head.specs.declared.Config.{Config}
use Rattle.head.proofs.Ranges.{by_test}
use Rattle.printer.specs.Output.{words_in, no_flash, after_begin, output_from, output}
use Rattle.printer.specs.Theorems.{gives}

module _ (c : Config) (ram uds : List ℕ) where
  by_source_is : (s : Source) → (by_source s no_flash c ram uds).ram ≡ ram
  unfolding from_flash
  by_source_is slot0 = refl
  by_source_is slot1 = refl
  by_source_is client = refl
  by_source_is unknown = refl

  -- types 0 to 3
  stops_at : (t : ℕ) → t ≤ 3 → by_source (source_of (known_type t)) no_flash c ram uds ≡ ending (stopped 26) c.ram_len ram uds
  unfolding from_flash
  stops_at zero h = refl
  stops_at (suc zero) h = refl
  stops_at (suc (suc zero)) h = refl
  stops_at (suc (suc (suc zero))) h = refl
  stops_at (suc (suc (suc (suc n)))) h = absurd (omega arith)

pub ram_stays : (bytes udi ram uds : List ℕ) → (beginning bytes udi no_flash ram uds).ram ≡ ram
unfolding beginning
ram_stays bytes udi ram uds =
    by_test (λ (x : Result). x.ram ≡ ram) (eqb (begin_refusal (length bytes) (length ram) (length uds)) 0) _ _
    (λ z. by_source_is (config_of (record_at bytes) udi (zeros 32) (length ram)) ram uds (source_of (record_at bytes).type)) (λ z. refl)

module _ (input : List ℕ) (m : ℕ) (long : 296 ≤ length input) (type : number_in type_field input ≤ 3) (ram : length_ok m ≡ true) where
  abbrev front : List ℕ
  front = take 296 input

  -- the record has all its bytes, and the type stands in the first four
  record_length : length (take 256 front) ≡ 256
  record_length = length-take 256 front ∙ rw (length-take 296 input) (omega arith)

  same_type : number_in type_field (take 256 front) ≡ number_in type_field input
  same_type = ap (λ (x : List ℕ). word x 0) (take-take 4 256 front (omega arith) ∙ take-take 4 296 input (omega arith))

  stops : after_begin front (zeros m) ≡ replied 0 [] (ending (stopped 26) (length (zeros m)) (zeros m) (words_in front))
  unfolding after_begin beginning record_at
  stops =
      let n : length (zeros m) ≡ m = length-replicate m 0 in
      let r : begin_refusal (length (take 256 front)) (length (zeros m)) 8 ≡ 0 = rw (eq-eqb (length (take 256 front)) 256 record_length, n, ram) in
      ap (λ (x : Result). replied 0 [] x) (rw r (stops_at _ (zeros m) (words_in front) (number_in type_field (take 256 front)) (rw same_type type)))

  pub stop_at_begin : output input m ≡ gives (ascii "F 26\n") 296
  unfolding output decimal_of
  stop_at_begin = rw (le-ltb (length input) 296 long, stops) (go (drop 296 input))
    where
      go : (bytes : List ℕ) → output_from (replied 0 [] (ending (stopped 26) (length (zeros m)) (zeros m) (words_in front))) 0 bytes ≡ gives (ascii "F 26\n") 296
      go [] = refl
      go (b ∷ bytes) = refl
