-- The first of a list that is made by index: the first number that is not 0, and the first spare that is good.
use Prim.Native.Nat.{ℕ, zero, suc, ◌<◌}
use mathlib.Core.Bool.{Bool, true, false, cond}
use mathlib.Core.List.{List}
use mathlib.Core.Option.{none, some}
use mathlib.Core.Path.{◌≡◌, refl}
use native.Mathlib.Omega.{arith}
use native.Mathlib.Nat.{le_of_suc-le-suc}
use lib.Dec.{eqb}
use borrow.Author.Tests.{eq-eqb, ne_eqb, eqb-true}
use Rattle.endian.specs.Lists.{each}
use Rattle.endian.proofs.Cases.{impossible}
use Rattle.spool_block.specs.Block.{is_good}
use Rattle.spool.specs.Reading.{earliest}
use Rattle.spool.specs.Salvage.{first_good}

pub earliest_at : (n i : ℕ) (f : ℕ → ℕ) → i < n → ((j : ℕ) → j < i → f j ≡ 0) → (f i ≡ 0 → ⊥) → earliest (each n f) ≡ f i
unfolding earliest
earliest_at zero i f h z e = absurd (omega arith)
earliest_at (suc n) zero f h z e = rw (ne_eqb (f 0) 0 e)
earliest_at (suc n) (suc i) f h z e =
    rw (eq-eqb (f 0) 0 (z 0 (omega arith))) (earliest_at n i (λ j. f (suc j)) (le_of_suc-le-suc h) (λ j k. z (suc j) (omega arith)) e)

pub earliest_none : (n : ℕ) (f : ℕ → ℕ) → ((j : ℕ) → j < n → f j ≡ 0) → earliest (each n f) ≡ 0
unfolding earliest
earliest_none zero f z = refl
earliest_none (suc n) f z = rw (eq-eqb (f 0) 0 (z 0 (omega arith))) (earliest_none n (λ j. f (suc j)) (λ j h. z (suc j) (omega arith)))

pub all_zero_is : (n : ℕ) (f : ℕ → ℕ) → earliest (each n f) ≡ 0 → (j : ℕ) → j < n → f j ≡ 0
unfolding earliest
all_zero_is zero f e j h = absurd (omega arith)
all_zero_is (suc n) f e j h = go (eqb (f 0) 0) refl e (all_zero_is n (λ i. f (suc i))) j h
  where
    go : (t : Bool) → eqb (f 0) 0 ≡ t → cond t (earliest (each n (λ i. f (suc i)))) (f 0) ≡ 0
        → (earliest (each n (λ i. f (suc i))) ≡ 0 → (j : ℕ) → j < n → f (suc j) ≡ 0) → (j : ℕ) → j < suc n → f j ≡ 0
    go true p q more zero h = eqb-true (f 0) 0 p
    go true p q more (suc j) h = more q j (le_of_suc-le-suc h)
    go false p q more j h = impossible (cc (eq-eqb (f 0) 0 q))

module _ (n i : ℕ) where
  pub first_good_is : (m k : ℕ) (g : ℕ → List ℕ) → k < m → ((j : ℕ) → j < k → is_good n i (g j) ≡ false) → is_good n i (g k) ≡ true
      → first_good n i (each m g) ≡ some (g k)
  unfolding first_good
  first_good_is zero k g h z e = absurd (omega arith)
  first_good_is (suc m) zero g h z e = rw e
  first_good_is (suc m) (suc k) g h z e =
      rw (z 0 (omega arith)) (first_good_is m k (λ j. g (suc j)) (le_of_suc-le-suc h) (λ j l. z (suc j) (omega arith)) e)

  pub first_none : (m : ℕ) (g : ℕ → List ℕ) → ((j : ℕ) → j < m → is_good n i (g j) ≡ false) → first_good n i (each m g) ≡ none
  unfolding first_good
  first_none zero g z = refl
  first_none (suc m) g z = rw (z 0 (omega arith)) (first_none m (λ j. g (suc j)) (λ j l. z (suc j) (omega arith)))
