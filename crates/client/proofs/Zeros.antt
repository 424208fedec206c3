-- Bytes that are all zero, from a place on.
use Prim.Native.Nat.{ℕ, zero, suc}
use mathlib.Core.Path.{◌≡◌, refl, sym, ap, ◌∙◌}
use mathlib.Core.Bool.{Bool, true, false, ◌&&◌, and-eq-true_iff}
use mathlib.Core.List.{List, [], ◌∷◌}
use native.Mathlib.Omega.{arith}
use lib.Dec.{eqb}
use lib.ListN.{length, replicate}
use borrow.Author.Tests.{eqb-true, ne_eqb}
use Rattle.std.specs.List.{fold}
use Rattle.std.specs.Int.Bits.{bit_or, or_zero_l}
use Rattle.std.proofs.lemmas.Nat.{le_or_l}
use Rattle.client.specs.Replies.{all_zero}

-- no bit is set in any of them
pub zero_fold : (l : List ℕ) → eqb (fold bit_or 0 l) 0 ≡ all_zero l
zero_fold l = go 0 l
  where
    each : (n x : ℕ) → eqb (bit_or n x) 0 ≡ eqb n 0 && eqb x 0
    each zero x = ap (λ (y : ℕ). eqb y 0) (or_zero_l x)
    each (suc n) x =
        let l = le_or_l (suc n) x in
        ne_eqb (bit_or (suc n) x) 0 (λ e. omega (arith, l, e)) ∙ ap (λ (t : Bool). t && eqb x 0) (sym (ne_eqb (suc n) 0 (λ e. omega (arith, e))))

    go : (n : ℕ) (l : List ℕ) → eqb (fold bit_or n l) 0 ≡ eqb n 0 && all_zero l
    go n [] = done (eqb n 0)
      where
        done : (t : Bool) → t ≡ t && true
        done true = refl
        done false = refl
    go n (x ∷ xs) = go (bit_or n x) xs ∙ ap (λ (t : Bool). t && all_zero xs) (each n x) ∙ assoc (eqb n 0)
      where
        assoc : (t : Bool) → (t && eqb x 0) && all_zero xs ≡ t && (eqb x 0 && all_zero xs)
        assoc true = refl
        assoc false = refl

pub zeros_are : (l : List ℕ) → all_zero l ≡ true → l ≡ replicate (length l) 0
zeros_are [] e = refl
zeros_are (x ∷ xs) e =
    let b = (and-eq-true_iff (eqb x 0) (all_zero xs)).0 e in
    let p : x ≡ 0 = eqb-true x 0 b.0 in
    let q : xs ≡ replicate (length xs) 0 = zeros_are xs b.1 in
    cc

pub are_zeros : (n : ℕ) → all_zero (replicate n 0) ≡ true
are_zeros zero = refl
are_zeros (suc n) = are_zeros n
