-- The theorem of specs/Theorems.antt.
use Prim.Native.Nat.{ℕ, ◌+◌, ◌≤◌}
use native.Mathlib.Omega.{arith}
use mathlib.Core.Path.{◌≡◌, refl}
use mathlib.Core.Bool.{Bool, true, false, cond}
use mathlib.Core.List.{List, [], ◌++◌}
use lib.Dec.{eqb}
use lib.ListN.{length, length-append}
use borrow.Author.Tests.{eq-eqb}
use Rattle.protocol.specs.Commands.{blocks_for}
use Rattle.std.specs.Prelude.{Result, Ok, Err}
use Rattle.text.specs.Text.{ascii, hex_of, decimal_of}
use Rattle.text.proofs.Proved.{texts}
use Rattle.head.specs.Answers.{refusal_number, stop_number, cdi_given}
use Rattle.head.specs.declared.Progress.{Progress}
use Rattle.head.specs.declared.Refusal.{Refusal}
use Rattle.head.specs.declared.Stop.{Stop}
use Rattle.head.specs.declared.Stop.TheVariants.{UnknownType, HeaderBit, Command, BodyLength, Digest, ProgramSize}
use Rattle.head.specs.declared.Answer.{Answer}
use Rattle.head.specs.declared.Answer.TheVariants.{Continue, Whole, Stopped, Started}
use Rattle.display.specs.Shown.{loading_line, block_text, all_blocks, start_line, words_of, stop_line, refusal_line}
use Rattle.display.specs.Shown.{begin_text, progress_text, before_stop, received_text}
use Rattle.display.specs.Theorems.{Display}

same_progress : (terminal : Bool) (p : Progress) → received_text terminal p (Ok Continue) p ≡ []
same_progress terminal p = rw (eq-eqb p.size p.size refl, eq-eqb p.block p.block refl)

-- ---- the lengths

both : (a b : List ℕ) (k : ℕ) → length a + length b ≤ k → length (a ++ b) ≤ k
both a b k h = rw (length-append a b) h

three : (a b c : List ℕ) (k : ℕ) → length a + length b + length c ≤ k → length (a ++ b ++ c) ≤ k
three a b c k h = rw (length-append (a ++ b) c, length-append a b) h

four : (a b c d : List ℕ) (k : ℕ) → length a + length b + length c + length d ≤ k → length (a ++ b ++ c ++ d) ≤ k
four a b c d k h = rw (length-append (a ++ b ++ c) d, length-append (a ++ b) c, length-append a b) h

five : (a b c d e : List ℕ) (k : ℕ) → length a + length b + length c + length d + length e ≤ k → length (a ++ b ++ c ++ d ++ e) ≤ k
five a b c d e k h = rw (length-append (a ++ b ++ c ++ d) e, length-append (a ++ b ++ c) d, length-append (a ++ b) c, length-append a b) h

words : (s : Stop) → length (words_of s) ≤ 70
words UnknownType = omega arith
words HeaderBit = omega arith
words Command = omega arith
words BodyLength = omega arith
words Digest = omega arith
words ProgramSize = omega arith

stop_long : (s : Stop) → length (stop_line s) ≤ 110
unfolding stop_line
stop_long s =
    let d = texts.few (stop_number s) in
    five (ascii "stopped ") (decimal_of (stop_number s)) (ascii ": ") (words_of s) (ascii "\n") 110 (omega (arith, words s))

refusal_long : (r : Refusal) → length (refusal_line r) ≤ 100
refusal_long r = three (ascii "refused ") (decimal_of (refusal_number r)) (ascii "\n") 100 (omega (arith, texts.few (refusal_number r)))

start_long : (n : ℕ) (cdi : List ℕ) → length cdi ≡ 32 → length (start_line n cdi) ≤ 120
unfolding start_line
start_long n cdi h =
    five (ascii "started, ") (decimal_of n) (ascii " bytes, CDI ") (hex_of cdi) (ascii "\n") 120 (omega (arith, texts.few n, texts.two cdi))

block_long : (k n : ℕ) → length (block_text k n) ≤ 60
block_long k n = four (ascii "\rblock ") (decimal_of k) (ascii " of ") (decimal_of n) 60 (omega (arith, texts.few k, texts.few n))

all_long : (terminal : Bool) (n : ℕ) → length (all_blocks terminal n) ≤ 100
all_long true n = both (block_text n n) (ascii "\n") 100 (omega (arith, block_long n n))
all_long false n = both (decimal_of n) (ascii " blocks\n") 100 (omega (arith, texts.few n))

loading_long : (n : ℕ) → length (loading_line n) ≤ 100
loading_long n = three (ascii "loading ") (decimal_of n) (ascii " bytes\n") 100 (omega (arith, texts.few n))

progress_long : (terminal : Bool) (p q : Progress) → length (progress_text terminal p q) ≤ 100
progress_long terminal p q = go (eqb p.size q.size) (eqb p.block q.block) terminal
  where
    go : (a b t : Bool)
        → length (cond a (cond b [] (cond t (block_text q.block (blocks_for q.size)) [])) (loading_line q.size)) ≤ 100
    go false b t = loading_long q.size
    go true true t = omega arith
    go true false true = omega (arith, block_long q.block (blocks_for q.size))
    go true false false = omega arith

before_long : (terminal : Bool) (p : Progress) (s : Stop) → length (before_stop terminal p s) ≤ 100
before_long terminal p s = go (eqb (stop_number s) 25) terminal (eqb p.block 0)
  where
    go : (a t b : Bool) → length (cond a (all_blocks terminal (blocks_for p.size)) (cond t (cond b [] (ascii "\n")) [])) ≤ 100
    go true t b = all_long terminal (blocks_for p.size)
    go false true true = omega arith
    go false true false = omega arith
    go false false b = omega arith

begin_fits : (a : Result Answer Refusal) → length (cdi_given a) ≡ 32 → length (begin_text a) ≤ 512
begin_fits (Ok Continue) h = omega arith
begin_fits (Ok Whole) h = omega arith
begin_fits (Ok (Stopped s)) h = omega (arith, stop_long s)
begin_fits (Ok (Started x)) h = omega (arith, start_long x.size x.cdi h)
begin_fits (Err r) h = omega (arith, refusal_long r)

fits : (terminal : Bool) (p : Progress) (a : Result Answer Refusal) (q : Progress) → length (cdi_given a) ≡ 32
    → length (received_text terminal p a q) ≤ 512
fits terminal p (Ok Continue) q h = omega (arith, progress_long terminal p q)
fits terminal p (Ok Whole) q h = omega arith
fits terminal p (Ok (Stopped s)) q h =
    both (before_stop terminal p s) (stop_line s) 512 (omega (arith, before_long terminal p s, stop_long s))
fits terminal p (Ok (Started x)) q h =
    let b = all_long terminal (blocks_for p.size) in
    both (all_blocks terminal (blocks_for p.size)) (start_line x.size x.cdi) 512 (omega (arith, start_long x.size x.cdi h))
fits terminal p (Err r) q h = omega (arith, refusal_long r)

pub display : Display
unfolding decimal_of start_line stop_line
display = record {
  begins = refl;
  loads = refl;
  block = refl;
  start = λ q digest. refl;
  block_elsewhere = refl;
  start_elsewhere = λ q digest. refl;
  start_from_flash = λ digest. refl;
  quiet = same_progress;
  stop_20 = refl;
  stop_22 = λ p q. refl;
  stop_23 = λ p q. refl;
  stop_24 = λ p q. refl;
  stop_25 = λ q. refl;
  stop_25_from_flash = refl;
  stop_26 = refl;
  stop_within = λ q. refl;
  begin_fits = begin_fits;
  fits = fits;
}
