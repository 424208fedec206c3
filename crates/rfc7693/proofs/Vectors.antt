-- The work vector, written out as the code makes it.
use mathlib.Core.Path.{◌≡◌, refl, subst}
use mathlib.Core.Bool.{Bool, true, false, cond}
use mathlib.Core.List.{List, [], ◌∷◌, ◌++◌}
use Prim.Native.Nat.{ℕ, ◌+◌, ◌/◌, ◌%◌, ◌^◌}
use lib.ListN.{length, get_or}
use lib.Bits.{bit_xor}
use Rattle.endian.specs.Lists.{each}
use Rattle.rfc7693.specs.Rfc7693.{iv, work_vector}
use Rattle.endian.proofs.Lists.{each_of}

abbrev pub laid_out : List ℕ → ℕ → Bool → List ℕ
laid_out h t f =
    each 8 (λ i. get_or h i 0) ++ get_or iv 0 0 ∷ get_or iv 1 0 ∷ get_or iv 2 0 ∷ get_or iv 3 0 ∷
    bit_xor (get_or iv 4 0) (t % 2 ^ 32) ∷ bit_xor (get_or iv 5 0) (t / 2 ^ 32) ∷
    cond f (bit_xor (get_or iv 6 0) 4294967295) (get_or iv 6 0) ∷ get_or iv 7 0 ∷ []

pub laid_out_is : (h : List ℕ) (t : ℕ) (f : Bool) → length h ≡ 8 → laid_out h t f ≡ work_vector h t f
unfolding work_vector iv
laid_out_is h t f e = subst (λ (l : List ℕ). laid_out l t f ≡ work_vector l t f) (each_of 8 h e) (go f)
  where
    go : (f : Bool) → laid_out (each 8 (λ i. get_or h i 0)) t f ≡ work_vector (each 8 (λ i. get_or h i 0)) t f
    go true = refl
    go false = refl
