-- What a block gives at a place, by its tests, and what a good one says.
use Prim.Native.Nat.{ℕ, suc, ◌+◌, ◌-◌, ◌≤◌, ◌<◌, min}
use mathlib.Core.Bool.{Bool, true, false, cond, not, ◌&&◌}
use mathlib.Core.List.{List, [], ◌∷◌}
use mathlib.Core.Logic.{◌↔◌}
use mathlib.Core.Path.{◌≡◌, refl, sym, ap, ap₂, subst, ◌∙◌}
use Rattle.std.specs.Bool.{IsTrue}
use Rattle.std.specs.List.{All}
use Rattle.std.proofs.lemmas.List.Elements.{All-replicate}
use native.Mathlib.Omega.{arith}
use lib.Dec.{eqb, leb}
use lib.ListN.{length, take, drop, length-drop, length-take}
use Rattle.std.proofs.lemmas.List.{drop-take}
use lib.Seq.{drop-drop, take-take, length-take-le}
use borrow.Author.Tests.{eq-eqb, ne_eqb, eqb-true, leb-true}
use Rattle.rfc7693.specs.Rfc7693.{blake2s}
use Rattle.rfc7693.proofs.Lengths.{digest_length}
use Rattle.endian.specs.Lists.{zeros, same}
use Rattle.endian.specs.Fields.{field_of, number_in}
use Rattle.endian.proofs.Cases.{impossible}
use Rattle.endian.proofs.Same.{same_refl, same_eq, same_length}
use Rattle.spool_block.specs.Block.{number_field, check_field, checked_field, count_in, used_in, filler_in, good_check, good_count, good_filler, block_refusal, is_good}

module _ (n i : ℕ) (b : List ℕ) where
  pub bad_check : good_check b ≡ false → block_refusal n i b ≡ 51
  unfolding block_refusal
  bad_check e = rw e

  module _ (k : good_check b ≡ true) where
    pub bad_number : (number_in number_field b ≡ i → ⊥) → block_refusal n i b ≡ 52
    unfolding block_refusal
    bad_number h = rw (k, ne_eqb (number_in number_field b) i h)

    module _ (m : number_in number_field b ≡ i) where
      module _ (c : good_count n i (count_in b) ≡ true) where
        pub good_block : good_filler b ≡ true → block_refusal n i b ≡ 0
        unfolding block_refusal
        good_block e = rw (k, eq-eqb (number_in number_field b) i m, c, e)

-- the end of a front part
drop_take : (c m : ℕ) (l : List ℕ) → c ≤ m → drop c (take m l) ≡ take (m - c) (drop c l)
drop_take c m l h =
    let e : m ≡ c + (m - c) = omega arith in
    ap (λ (j : ℕ). drop c (take j l)) e ∙ drop-take c (m - c) l

-- a block of fewer than 512 bytes has no whole check
pub short_check : (b : List ℕ) → length b < 512 → good_check b ≡ false
unfolding good_check
short_check b h =
    let d = blake2s [] (field_of checked_field b) 32 in
    let l : length (field_of check_field b) ≡ min 32 (length b - 480) = length-take 32 (drop 480 b) ∙ ap (min 32) (length-drop 480 b) in
    let m = digest_length (field_of checked_field b) in
    same_length (field_of check_field b) d (λ e. omega arith)

pub short_block : (n i : ℕ) (b : List ℕ) → length b < 512 → 51 ≡ block_refusal n i b
short_block n i b h = sym (bad_check n i b (short_check b h))

-- what is behind a block says nothing of it
field_front : (from size : ℕ) (b : List ℕ) → from + size ≤ 512 → take size (drop from (take 512 b)) ≡ take size (drop from b)
field_front from size b h =
    ap (take size) (drop_take from 512 b (omega arith)) ∙ take-take size (512 - from) (drop from b) (omega arith)

pub block_front : (n i : ℕ) (b : List ℕ) → block_refusal n i (take 512 b) ≡ block_refusal n i b
unfolding block_refusal good_check good_filler filler_in
block_front n i b =
    let number : take 4 (take 512 b) ≡ take 4 b = field_front 0 4 b (omega arith) in
    let checked : take 480 (take 512 b) ≡ take 480 b = field_front 0 480 b (omega arith) in
    let count : take 4 (drop 4 (take 512 b)) ≡ take 4 (drop 4 b) = field_front 4 4 b (omega arith) in
    let program : take 472 (drop 8 (take 512 b)) ≡ take 472 (drop 8 b) = field_front 8 472 b (omega arith) in
    let check : take 32 (drop 480 (take 512 b)) ≡ take 32 (drop 480 b) = field_front 480 32 b (omega arith) in
    rw (number, checked, count, program, check)

-- a good count is at most 472
pub count_most : (n i count : ℕ) → good_count n i count ≡ true → count ≤ 472
unfolding good_count
count_most n i count = go (eqb (i + 1) n) (leb 1 count) (eqb i 277)
  where
    go : (x y z : Bool) → cond x (y && leb count (cond z 328 472)) (eqb count 472) ≡ true → count ≤ 472
    go true true true e = let h = leb-true count 328 e in omega arith
    go true true false e = leb-true count 472 e
    go true false z e = impossible cc
    go false y z e = let h = eqb-true count 472 e in omega arith

-- whether all bytes are zero, as a comparison with as many zeros
zeros_all : (l : List ℕ) → All (λ (y : ℕ). y ≡ 0) l → l ≡ zeros (length l)
zeros_all [] h = refl
zeros_all (x ∷ xs) h = ap₂ ◌∷◌ (h 0 0 (omega arith)) (zeros_all xs (λ k d l. h (suc k) d (omega arith)))

all_zeros : (n : ℕ) → All (λ (y : ℕ). y ≡ 0) (zeros n)
all_zeros n = All-replicate (λ y. y ≡ 0) n 0 refl

same_zeros : (l : List ℕ) (n : ℕ) (t : Bool) → length l ≡ n → (IsTrue t ↔ All (λ (y : ℕ). y ≡ 0) l) → t ≡ same l (zeros n)
same_zeros l n true e h = sym (ap (same l) (ap zeros (sym e) ∙ sym (zeros_all l (h.0 refl))) ∙ same_refl l)
same_zeros l n false e h = go (same l (zeros n)) refl
  where
    go : (s : Bool) → same l (zeros n) ≡ s → false ≡ s
    go true q = let P : List ℕ → Type 0 = All (λ y. y ≡ 0) in h.1 (subst P (sym (same_eq l (zeros n) q)) (all_zeros n))
    go false q = refl

-- the filler, as a part of the block, and whether all of it is zero
pub filler_zero : (b : List ℕ) (c : ℕ) (t : Bool) → length b ≡ 512 → c ≡ count_in b → c ≤ 472
    → (IsTrue t ↔ All (λ (y : ℕ). y ≡ 0) (take (480 - (8 + c)) (drop (8 + c) b))) → t ≡ good_filler b
unfolding good_filler filler_in
filler_zero b c t l e h a =
    let d : 480 - (8 + c) ≡ 472 - c = omega arith in
    let f : drop c (take 472 (drop 8 b)) ≡ take (480 - (8 + c)) (drop (8 + c) b) =
    drop_take c 472 (drop 8 b) h ∙ rw (← drop-drop c 8 b, d) in
    let n : length (take (480 - (8 + c)) (drop (8 + c) b)) ≡ 472 - c = rw (length-take, length-drop) (omega arith) in
    rw (← e, f) (same_zeros _ (472 - c) t n a)

-- what a good block says
pub record IsGood (n i : ℕ) (b : List ℕ) : Type 0 where
  pub check : good_check b ≡ true
  pub number : number_in number_field b ≡ i
  pub count : good_count n i (count_in b) ≡ true
  pub filler : good_filler b ≡ true

pub is_good_when : (n i : ℕ) (b : List ℕ) → block_refusal n i b ≡ 0 → IsGood n i b
unfolding block_refusal
is_good_when n i b = go (good_check b) (eqb (number_in number_field b) i) (good_count n i (count_in b)) (good_filler b) refl refl refl refl
  where
    go : (w x y z : Bool) → good_check b ≡ w → eqb (number_in number_field b) i ≡ x → good_count n i (count_in b) ≡ y → good_filler b ≡ z
        → ◌≡◌ {A = ℕ} (cond (not w) 51 (cond (not x) 52 (cond (not (y && z)) 53 0))) 0 → IsGood n i b
    go true true true true p q r s e = record { check = p; number = eqb-true (number_in number_field b) i q; count = r; filler = s }
    go true true true false p q r s e = absurd (omega arith)
    go true true false z p q r s e = absurd (omega arith)
    go true false y z p q r s e = absurd (omega arith)
    go false x y z p q r s e = absurd (omega arith)

-- a block with another number is not good
pub other_number : (n i : ℕ) (b : List ℕ) → (number_in number_field b ≡ i → ⊥) → is_good n i b ≡ false
other_number n i b h = ne_eqb (block_refusal n i b) 0 (λ e. h (is_good_when n i b e).number)

-- and a short one is not
pub short_bad : (n i : ℕ) (b : List ℕ) → length b < 512 → is_good n i b ≡ false
short_bad n i b h = rw (bad_check n i b (short_check b h))

-- what it uses, as a part of it
pub used_part : (b : List ℕ) → count_in b ≤ 472 → used_in b ≡ take (count_in b) (drop 8 b)
unfolding used_in
used_part b h = take-take (count_in b) 472 (drop 8 b) h

pub used_length : (b : List ℕ) → 512 ≤ length b → count_in b ≤ 472 → length (used_in b) ≡ count_in b
used_length b l h = ap length (used_part b h) ∙ length-take-le (count_in b) (drop 8 b) (rw length-drop (omega arith))
