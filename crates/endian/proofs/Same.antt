-- Lists of bytes compared.
use Prim.Native.Nat.{ℕ, ◌+◌, ◌<◌}
use mathlib.Core.Bool.{Bool, true, false, ◌&&◌}
use mathlib.Core.List.{List, [], ◌∷◌}
use mathlib.Core.Path.{◌≡◌, refl, ap, ◌∙◌}
use mathlib.Core.Logic.{◌↔◌}
use native.Mathlib.Numerals.{add-one}
use lib.Dec.{eqb}
use lib.ListN.{length, get_or, drop}
use lib.Seq.{drop-cons, drop-length}
use borrow.Author.Tests.{eq-eqb, eqb-true}
use Rattle.endian.proofs.Cases.{impossible}
use Rattle.endian.specs.Lists.{same}

pub same_refl : (xs : List ℕ) → same xs xs ≡ true
same_refl [] = refl
same_refl (x ∷ xs) = simp (eq-eqb x x refl) (same_refl xs)

pub same_eq : (xs ys : List ℕ) → same xs ys ≡ true → xs ≡ ys
same_eq [] [] e = refl
same_eq [] (y ∷ ys) e = impossible cc
same_eq (x ∷ xs) [] e = impossible cc
same_eq (x ∷ xs) (y ∷ ys) e = go (eqb x y) refl e (same_eq xs ys)
  where
    go : (t : Bool) → eqb x y ≡ t → t && same xs ys ≡ true → (same xs ys ≡ true → xs ≡ ys) → ◌≡◌ {A = List ℕ} (x ∷ xs) (y ∷ ys)
    go true p q f = let a : x ≡ y = eqb-true x y p in let b : xs ≡ ys = f q in cc
    go false p q f = impossible cc

pub same_exactly : (xs ys : List ℕ) → (same xs ys ≡ true) ↔ (xs ≡ ys)
same_exactly xs ys = (same_eq xs ys, λ e. ap (λ (z : List ℕ). same z ys) e ∙ same_refl ys)

pub same_length : (xs ys : List ℕ) → (length xs ≡ length ys → ⊥) → same xs ys ≡ false
same_length xs ys h = go (same xs ys) refl
  where
    go : (t : Bool) → same xs ys ≡ t → t ≡ false
    go true p = absurd (h (ap length (same_eq xs ys p)))
    go false p = refl

-- a turn of a loop that compares: r says whether the bytes so far are equal
pub same_more : (r : Bool) (xs ys : List ℕ) (i : ℕ) → i < length xs → i < length ys
    → (r && eqb (get_or xs i 0) (get_or ys i 0)) && same (drop (i + 1) xs) (drop (i + 1) ys) ≡ r && same (drop i xs) (drop i ys)
same_more true xs ys i h k = rw (add-one, drop-cons xs i 0 h, drop-cons ys i 0 k)
same_more false xs ys i h k = refl

-- behind the last byte
pub same_end : (r : Bool) (xs ys : List ℕ) (i : ℕ) → i ≡ length xs → i ≡ length ys → r && same (drop i xs) (drop i ys) ≡ r
same_end r xs ys i e f =
    let a : drop i xs ≡ [] = rw e (drop-length xs) in
    let b : drop i ys ≡ [] = rw f (drop-length ys) in
    rw (a, b) (go r)
  where
    go : (r : Bool) → r && true ≡ r
    go true = refl
    go false = refl
