-- The turns fold to the output.
use Prim.Native.Nat.{ℕ, ◌+◌, ◌-◌, ◌^◌, ◌<◌, ◌≤◌}
use native.Mathlib.Omega.{arith}
use mathlib.Core.Bool.{Bool, true, false, cond}
use Rattle.std.specs.declared.ops.ControlFlow.TheVariants.{Continue, Break}
use mathlib.Core.Path.{◌≡◌, refl, sym, ap, ◌∙◌}
use mathlib.Core.List.{List, [], ◌∷◌, ◌++◌, append-nil}
use lib.Dec.{eqb, ltb}
use lib.ListN.{length, take, drop, length-take, length-drop, drop_of_length-le}
use lib.Seq.{take_all}
use borrow.Author.Tests.{ne_eqb, lt-ltb, le-ltb, ltb-true, ltb-false}
use Rattle.endian.specs.Lists.{zeros}
use Rattle.head.specs.Answers.{Outcome}
use Rattle.text.proofs.Proved.{texts}
use Rattle.printer.specs.Lines.{waiting_line, error_line}
use Rattle.printer.specs.Output.{after_begin, after_byte, call_text, is_over, behind, output_from, output}
use Rattle.printer.specs.Turns.{turn_of, opening, goes, loop, turns}
use Rattle.printer.proofs.NoFlash.{ram_stays}
use Rattle.printer.proofs.Lengths.{Short, waiting_short, error_short, call_short, begin_short, byte_short}

loop_is : (bytes : List ℕ) (o : Outcome) (n : ℕ) → Short o → n + length bytes < 2 ^ 64
    → loop (turn_of n o) o.ram (296 + n) bytes ≡ output_from o n bytes
loop_is [] o n s h =
    rw (texts.written (call_text o) (call_short o s)) (go (is_over o.report))
  where
    go : (t : Bool) → behind (call_text o) (goes [] (cond t (Break (record { state = o.state; words = o.uds; received = n })) (Continue (record { state = o.state; words = o.uds; received = n }))) o.ram (296 + n))
        ≡ record { printed = call_text o ++ cond t [] (waiting_line n); read = 296 + n }
    go true = refl
    go false = rw (texts.written (waiting_line n) (waiting_short n))
loop_is (b ∷ bytes) o n s h =
    let e : eqb n (2 ^ 64 - 1) ≡ false = ne_eqb n (2 ^ 64 - 1) (λ z. omega arith) in
    let a : 296 + n + 1 ≡ 296 + (n + 1) = omega arith in
    let l : n + 1 + length bytes < 2 ^ 64 = omega arith in
    let next = loop_is bytes (after_byte o.state o.uds o.ram b) (n + 1) (byte_short o.state o.uds o.ram b) l in
    rw (texts.written (call_text o) (call_short o s)) (go e a next (is_over o.report))
  where
    go : eqb n (2 ^ 64 - 1) ≡ false → 296 + n + 1 ≡ 296 + (n + 1)
        → loop (turn_of (n + 1) (after_byte o.state o.uds o.ram b)) (after_byte o.state o.uds o.ram b).ram (296 + (n + 1)) bytes
        ≡ output_from (after_byte o.state o.uds o.ram b) (n + 1) bytes
        → (t : Bool)
        → behind (call_text o) (goes (b ∷ bytes) (cond t (Break (record { state = o.state; words = o.uds; received = n })) (Continue (record { state = o.state; words = o.uds; received = n }))) o.ram (296 + n))
        ≡ cond t (record { printed = call_text o; read = 296 + n })
        (behind (call_text o) (output_from (after_byte o.state o.uds o.ram b) (n + 1) bytes))
    go e a next true = rw append-nil
    go e a next false = rw (e, a) (ap (behind (call_text o)) next)

short : (input : List ℕ) (m : ℕ) → length input < 296 → turns input m ≡ output input m
unfolding output opening
short input m h =
    let t : take 296 input ≡ input = take_all 296 input (omega arith) in
    let d : drop 296 input ≡ [] = drop_of_length-le input {i = 296} (omega arith) in
    rw (t, d, lt-ltb (length input) 296 h, texts.written (error_line 1) (error_short 1), append-nil)

long : (input : List ℕ) (m : ℕ) → 296 ≤ length input → length input < 2 ^ 64 → turns input m ≡ output input m
unfolding output opening after_begin
long input m h l =
    let n : length (take 296 input) ≡ 296 = rw length-take (omega arith) in
    let o = after_begin (take 296 input) (zeros m) in
    let opened : zeros m ≡ o.ram = sym (ram_stays _ _ (zeros m) _) in
    rw (n, append-nil, le-ltb (length input) 296 h)
    (ap (λ (r : List ℕ). loop (turn_of 0 o) r 296 (drop 296 input)) opened
    ∙ loop_is (drop 296 input) o 0 (begin_short (take 296 input) (zeros m)) (rw length-drop (omega arith)))

pub folds : (input : List ℕ) (m : ℕ) → length input < 2 ^ 64 → turns input m ≡ output input m
folds input m l = go (ltb (length input) 296) refl
  where
    go : (t : Bool) → ltb (length input) 296 ≡ t → turns input m ≡ output input m
    go true e = short input m (ltb-true (length input) 296 e)
    go false e = long input m (ltb-false (length input) 296 e) l
