-- The theorem of specs/Theorems.antt.
use Prim.Native.Nat.{ℕ, zero, suc, ◌+◌, ◌*◌, ◌/◌, ◌%◌, ◌≤◌}
use native.Mathlib.Omega.{arith}
use mathlib.Core.Path.{◌≡◌, refl}
use mathlib.Core.Bool.{Bool, true, false, cond}
use mathlib.Core.List.{List, [], ◌∷◌, ◌++◌}
use lib.Dec.{ltb}
use lib.ListN.{length, take, length-append}
use lib.Seq.{take-append_seam}
use Rattle.text.specs.Text.{hex_of, decimal_in, decimal_of, text_of}
use Rattle.text.specs.Theorems.{Texts}
use Rattle.text.proofs.Texts.{parts, exact}

two_digits : (s : List ℕ) → length (hex_of s) ≡ 2 * length s
two_digits [] = refl
two_digits (b ∷ s) = let e = two_digits s in omega arith

few_in : (k n : ℕ) → length (decimal_in k n) ≤ k
few_in zero n = omega arith
few_in (suc k) n = go (few_in k (n / 10)) (ltb n 10)
  where
    go : length (decimal_in k (n / 10)) ≤ k → (t : Bool) → length (cond t ((48 + n) ∷ []) (decimal_in k (n / 10) ++ (48 + n % 10) ∷ [])) ≤ suc k
    go e true = omega arith
    go e false = rw (length-append (decimal_in k (n / 10)) ((48 + n % 10) ∷ [])) (omega arith)

few_digits : (n : ℕ) → length (decimal_of n) ≤ 20
unfolding decimal_of
few_digits n = few_in 20 n

all_written : (s : List ℕ) → length s ≤ 512 → take (text_of s).len (text_of s).bytes ≡ s
all_written s h = rw (exact s h) (take-append_seam s _)

pub texts : Texts
unfolding decimal_of
texts = record {
  exact = exact;
  written = all_written;
  parts = parts;
  two = two_digits;
  few = few_digits;
  hex = refl;
  decimal = (refl, refl, refl);
  letters = refl;
}
