-- What is proved about the texts, besides the promises. The proof is `display` in proofs/Proved.antt.
use Rattle.std.specs.Prelude.{ℕ, ◌≤◌, ◌≡◌, Bool, true, false, List, [], ◌++◌, length, Result, Ok, Err}
use Rattle.endian.specs.Lists.{each, zeros}
use Rattle.text.specs.Text.{ascii}
use Rattle.head.specs.Answers.{cdi_given}
use Rattle.head.specs.Begin.{waiting}
use Rattle.head.specs.declared.Phase.TheVariants.{Loading}
use Rattle.head.specs.declared.Progress.{Progress}
use Rattle.head.specs.declared.Refusal.{Refusal}
use Rattle.head.specs.declared.Stop.TheVariants.{UnknownType, HeaderBit, Command, BodyLength, Digest, ProgramSize}
use Rattle.head.specs.declared.Answer.{Answer}
use Rattle.head.specs.declared.Answer.TheVariants.{Continue, Stopped, Started}
use Rattle.display.specs.Shown.{begin_text, received_text}

-- a program of 131,072 bytes, of which k blocks have come
abbrev pub loading_at : ℕ → Progress
loading_at k = record { phase = Loading; size = 131072; block = k; uss_used = false; uss = zeros 32 }

-- the CDI 00 01 .. 1f
abbrev pub some_cdi : List ℕ
some_cdi = each 32 (λ i. i)

-- a start of that program with that CDI
abbrev pub start_with : List ℕ → Answer
start_with digest = Started (record { address = 0x40000000; size = 131072; cdi = some_cdi; digest = digest })

abbrev pub start_of : List ℕ
start_of = ascii "started, 131072 bytes, CDI 000102030405060708090a0b0c0d0e0f101112131415161718191a1b1c1d1e1f\n"

pub record Display : Type 0 where
  -- a session as it is shown on a terminal: after its last block it has started
  pub begins : begin_text (Ok Continue) ≡ ascii "waiting\n"
  pub loads : received_text true waiting (Ok Continue) (loading_at 0) ≡ ascii "loading 131072 bytes\n"
  pub block : received_text true (loading_at 2) (Ok Continue) (loading_at 3) ≡ ascii "\rblock 3 of 1033"
  pub start : (q : Progress) (digest : List ℕ) → received_text true (loading_at 1032) (Ok (start_with digest)) q
      ≡ ascii "\rblock 1033 of 1033\n" ++ start_of
  -- and elsewhere
  pub block_elsewhere : received_text false (loading_at 2) (Ok Continue) (loading_at 3) ≡ []
  pub start_elsewhere : (q : Progress) (digest : List ℕ) → received_text false (loading_at 1032) (Ok (start_with digest)) q
      ≡ ascii "1033 blocks\n" ++ start_of
  -- a program from flash: no block comes
  pub start_from_flash : (digest : List ℕ) → begin_text (Ok (start_with digest)) ≡ start_of
  -- nothing is shown of a byte that leaves the progress as it is
  pub quiet : (terminal : Bool) (p : Progress) → received_text terminal p (Ok Continue) p ≡ []
  -- each stop; one that comes within the line of blocks ends it
  pub stop_20 : begin_text (Ok (Stopped UnknownType)) ≡ ascii "stopped 20: the record's type is 6 or above\n"
  pub stop_22 : (p q : Progress) → received_text false p (Ok (Stopped HeaderBit)) q
      ≡ ascii "stopped 22: bit 7 or bit 2 of a header is set\n"
  pub stop_23 : (p q : Progress) → received_text false p (Ok (Stopped Command)) q
      ≡ ascii "stopped 23: the command is not allowed now, or unknown\n"
  pub stop_24 : (p q : Progress) → received_text false p (Ok (Stopped BodyLength)) q
      ≡ ascii "stopped 24: the command has another body length\n"
  pub stop_25 : (q : Progress) → received_text false (loading_at 1032) (Ok (Stopped Digest)) q
      ≡ ascii "1033 blocks\nstopped 25: the program's digest is not allowed\n"
  pub stop_25_from_flash : begin_text (Ok (Stopped Digest))
      ≡ ascii "stopped 25: the program's digest is not allowed\n"
  pub stop_26 : begin_text (Ok (Stopped ProgramSize))
      ≡ ascii "stopped 26: the size of the program in flash is 0, over the slot or over the RAM\n"
  pub stop_within : (q : Progress) → received_text true (loading_at 3) (Ok (Stopped Command)) q
      ≡ ascii "\nstopped 23: the command is not allowed now, or unknown\n"
  -- every text fits the 512 bytes of a `Text`, so none is cut
  pub begin_fits : (a : Result Answer Refusal) → length (cdi_given a) ≡ 32 → length (begin_text a) ≤ 512
  pub fits : (terminal : Bool) (p : Progress) (a : Result Answer Refusal) (q : Progress) → length (cdi_given a) ≡ 32
      → length (received_text terminal p a q) ≤ 512
