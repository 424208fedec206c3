-- What is proved about the output, besides the promises. The proof is `printer` in proofs/Proved.antt.
use Rattle.std.specs.Prelude.{ℕ, ◌+◌, ◌^◌, ◌<◌, ◌≤◌, true, ◌≡◌, List, [], ◌∷◌, ◌++◌, length, replicate}
use Rattle.endian.specs.Lists.{each, padded, zeros}
use Rattle.record.specs.Record.{type_field, number_in}
use Rattle.protocol.specs.Commands.{length_ok}
use Rattle.text.specs.Text.{ascii}
use Rattle.printer.specs.Output.{Output, output}
use Rattle.printer.specs.Turns.{turns}

-- what is printed, and how many bytes are read
abbrev pub gives : List ℕ → ℕ → Output
gives text n = record { printed = text; read = n }

-- a record of type 4, and zeros for all else
abbrev pub front : List ℕ
front = 4 ∷ zeros 295

-- the same with a UDS and a UDI in which no byte comes twice
abbrev pub front' : List ℕ
front' = 4 ∷ zeros 255 ++ each 32 (λ i. 0x20 + i) ++ each 8 (λ i. 0xd0 + i)

-- the load of a program of one byte with a user secret, and its block
abbrev pub load : List ℕ
load = padded 129 (0x13 ∷ 0x03 ∷ 1 ∷ 0 ∷ 0 ∷ 0 ∷ 1 ∷ each 32 (λ i. 0x60 + i))

abbrev pub block : List ℕ
block = padded 129 (0x13 ∷ 0x05 ∷ 0x2a ∷ [])

pub record Printer : Type 0 where
  -- the turns that `open` and `advance` promise, one after the other, give this output, for every input and every RAM; the count has 64 bits
  pub folds : (input : List ℕ) (m : ℕ) → length input < 2 ^ 64 → turns input m ≡ output input m
  -- document 01's example, the bytes 10 01: its two lines
  pub example : output (front ++ 0x10 ∷ 0x01 ∷ []) 32768
      ≡ gives (ascii "R 1202746b31206d6b64660100000000000000000000000000000000000000000000\nW 2\n") 298
  -- a start: an `R` for the UDI, for the load and for the block, then `S`. The digest in the third `R`, before 188 zeros, and the CDI were
  -- computed by hashlib. The byte after the end is not read
  pub start : output (front' ++ 0x10 ∷ 0x08 ∷ load ++ block ++ 0xff ∷ []) 1 ≡ gives
      (ascii "R 120900d0d1d2d3d4d5d6d700000000000000000000000000000000000000000000\n"
      ++ ascii "R 1104000000\n"
      ++ ascii "R 1307004c76401a2032527062b60916f252f41b5e3d75a3fa50a6376b3aedb9f59d8c9a" ++ replicate 188 48 ++ ascii "\n"
      ++ ascii "S 1 cc8dc0a1d59dd1ea76ba0012c01125e71a4b873c0ff2e1ea1636e02f35b7b287\n") 556
  -- a load of size 0 is not taken: bit 2 of the reply's header and its status byte say so, and the head goes on waiting
  pub not_taken : output (front ++ padded 129 (0x13 ∷ 0x03 ∷ [])) 32768 ≡ gives (ascii "R 1504010000\nW 129\n") 425
  -- types 0 to 3 stop at begin, since nothing is in flash, and nothing is received: change request 3
  pub stop_at_begin : (input : List ℕ) (m : ℕ) → 296 ≤ length input → number_in type_field input ≤ 3 → length_ok m ≡ true
      → output input m ≡ gives (ascii "F 26\n") 296
  -- type 0, which is a record of zeros
  pub stop_26 : output (zeros 296 ++ 0x10 ∷ 0x01 ∷ []) 32768 ≡ gives (ascii "F 26\n") 296
  -- the header 90
  pub stop_22 : output (front ++ 0x90 ∷ 0x10 ∷ 0x01 ∷ []) 32768 ≡ gives (ascii "F 22\n") 297
  -- 295 bytes
  pub short : output (zeros 295) 32768 ≡ gives (ascii "E 1\n") 295
