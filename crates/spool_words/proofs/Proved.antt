-- The theorem about the words.
use Prim.Native.Nat.{ℕ, ◌≤◌}
use native.Mathlib.Omega.{arith}
use mathlib.Core.Path.{refl}
use mathlib.Core.Bool.{Bool, true, false, cond}
use mathlib.Core.List.{List}
use lib.Dec.{eqb}
use lib.ListN.{length, length-append}
use Rattle.text.specs.Text.{decimal_of}
use Rattle.text.proofs.Proved.{texts}
use Rattle.spool.specs.Reading.{look_refusal}
use Rattle.spool_words.specs.Words.{fault_words, block_words, good_before, refusal_words}
use Rattle.spool_words.specs.Theorems.{Words}

-- one of two
either : (t : Bool) (a b : List ℕ) (n : ℕ) → length a ≤ n → length b ≤ n → length (cond t a b) ≤ n
either true a b n p q = p
either false a b n p q = q

fault_fits : (k : ℕ) → length (fault_words k) ≤ 62
fault_fits k =
    either (eqb k 0) _ _ 62 (omega arith)
    (either (eqb k 40) _ _ 62 (omega arith)
    (either (eqb k 50) _ _ 62 (omega arith)
    (either (eqb k 51) _ _ 62 (omega arith)
    (either (eqb k 52) _ _ 62 (omega arith)
    (either (eqb k 53) _ _ 62 (omega arith) (omega arith))))))

block_fits : (i k : ℕ) → length (block_words i k) ≤ 90
block_fits i k = let a = texts.few i in let b = fault_fits k in simp length-append (omega arith)

refusal_fits : (s : List ℕ) → length (refusal_words s) ≤ 90
unfolding refusal_words
refusal_fits s =
    let i = good_before s in
    let k = look_refusal s i in
    let f = fault_fits k in
    either (eqb k 50) _ _ 90 (omega arith) (block_fits i k)

pub words : Words
unfolding decimal_of
words =
    record { fault_fits = fault_fits; block_fits = block_fits; refusal_fits = refusal_fits; bad_check = refl; bad_number = refl }
