-- What becomes of a block.
use Prim.Native.Nat.{ℕ, zero, suc, ◌*◌, ◌≤◌, ◌<◌}
use mathlib.Core.Bool.{Bool, true, false, cond}
use mathlib.Core.List.{List, [], ◌∷◌}
use mathlib.Core.Option.{Option, none, some}
use Rattle.std.specs.declared.option.Option as option
use mathlib.Core.Path.{◌≡◌, refl, sym, subst}
use native.Mathlib.Omega.{arith}
use native.Mathlib.Nat.{le_of_suc-le-suc}
use lib.Dec.{ltb}
use lib.ListN.{length, drop, length-drop}
use lib.Seq.{length-take-le}
use borrow.Author.Tests.{ltb-true, ltb-false}
use Rattle.std.specs.Prelude.{Some, None, find}
use Rattle.spool_block.specs.Block.{is_good}
use Rattle.spool.specs.Reading.{blocks_in, block_at}
use Rattle.spool.specs.Salvage.{blocks_of, first_good, Mended, kept, replaced_by, mended}
use Rattle.spool.proofs.Firsts.{first_good_is, first_none}

pub block_whole : (s : List ℕ) (i : ℕ) → i < blocks_in s → length (block_at s i) ≡ 512
block_whole s i h = length-take-le 512 (drop (512 * i) s) (rw length-drop (omega arith))

-- spare k is the first that is good at place i of n; where none is, k is as many as there are
pub record FirstGood (n i : ℕ) (spares : List ℕ) (k : ℕ) : Type 0 where
  pub within : k ≤ blocks_in spares
  pub good : k < blocks_in spares → is_good n i (block_at spares k) ≡ true
  pub before : (j : ℕ) → j < k → is_good n i (block_at spares j) ≡ false

-- the library's `Option` as mathlib's
abbrev as_math : option.Option (List ℕ) → Option (List ℕ)
as_math (Some b) = some b
as_math None = none

module _ (n i : ℕ) where
  pub mended_kept : (sp : List (List ℕ)) (b : List ℕ) → is_good n i b ≡ true → mended n i sp b ≡ kept b
  unfolding mended
  mended_kept sp b e = rw e

  -- by the first spare that `find` gives
  first_found : (bs : List (List ℕ)) → first_good n i bs ≡ as_math (find (is_good n i) bs)
  unfolding first_good
  first_found [] = refl
  first_found (b ∷ bs) = go (is_good n i b) (first_found bs)
    where
      go : (t : Bool) → first_good n i bs ≡ as_math (find (is_good n i) bs) → cond t (some b) (first_good n i bs) ≡ as_math (cond t (Some b) (find (is_good n i) bs))
      go true e = refl
      go false e = e

  module _ (sp : List (List ℕ)) (b : List ℕ) (bad : is_good n i b ≡ false) where
    pub mended_none : find (is_good n i) sp ≡ None → mended n i sp b ≡ replaced_by none b
    unfolding mended
    mended_none e = rw (bad, first_found sp, e)

    pub mended_some : (spare : List ℕ) → find (is_good n i) sp ≡ Some spare → mended n i sp b ≡ replaced_by (some spare) b
    unfolding mended
    mended_some spare e = rw (bad, first_found sp, e)

  module _ (x b : List ℕ) (bad : is_good n i b ≡ false) (k : ℕ) (f : FirstGood n i x k) where
    pub mended_replaced : k < blocks_in x → mended n i (blocks_of x) b ≡ replaced_by (some (block_at x k)) b
    unfolding mended
    mended_replaced h = rw (bad, first_good_is n i (blocks_in x) k (block_at x) h f.before (f.good h))

    pub mended_lost : blocks_in x ≤ k → mended n i (blocks_of x) b ≡ replaced_by none b
    unfolding mended
    mended_lost h = rw (bad, first_none n i (blocks_in x) (block_at x) (λ j l. f.before j (omega arith)))

  -- there is a first good spare, or none at all
  pub found : (x : List ℕ) → (k : ℕ) × FirstGood n i x k
  found x = let s = go (blocks_in x) (block_at x) in (s.0, record { within = s.1.0; good = s.1.1; before = s.1.2 })
    where
      go : (m : ℕ) (g : ℕ → List ℕ) → (k : ℕ) × ((k ≤ m) × (k < m → is_good n i (g k) ≡ true) × ((j : ℕ) → j < k → is_good n i (g j) ≡ false))
      go zero g = (0, (omega arith, (λ h. absurd (omega arith)), (λ j h. absurd (omega arith))))
      go (suc m) g = at_first (is_good n i (g 0)) refl (go m (λ j. g (suc j)))
        where
          later : (t : ℕ) → is_good n i (g 0) ≡ false → ((j : ℕ) → j < t → is_good n i (g (suc j)) ≡ false) → (j : ℕ) → j < suc t → is_good n i (g j) ≡ false
          later t e z zero h = e
          later t e z (suc j) h = z j (le_of_suc-le-suc h)

          at_first : (t : Bool) → is_good n i (g 0) ≡ t → (k : ℕ) × ((k ≤ m) × (k < m → is_good n i (g (suc k)) ≡ true) × ((j : ℕ) → j < k → is_good n i (g (suc j)) ≡ false))
              → (k : ℕ) × ((k ≤ suc m) × (k < suc m → is_good n i (g k) ≡ true) × ((j : ℕ) → j < k → is_good n i (g j) ≡ false))
          at_first true e r = (0, (omega arith, (λ h. e), (λ j h. absurd (omega arith))))
          at_first false e r = (suc r.0, (omega (arith, r.1.0), (λ h. r.1.1 (le_of_suc-le-suc h)), later r.0 e r.1.2))

  -- the three ways
  module _ (x b : List ℕ) (P : Mended → Type 0) where
    pub by_mended : (is_good n i b ≡ true → P (kept b))
        → ((k : ℕ) → is_good n i b ≡ false → FirstGood n i x k → k < blocks_in x → P (replaced_by (some (block_at x k)) b))
        → (is_good n i b ≡ false → ((j : ℕ) → j < blocks_in x → is_good n i (block_at x j) ≡ false) → P (replaced_by none b))
        → P (mended n i (blocks_of x) b)
    by_mended good replaced lost = go (is_good n i b) refl
      where
        bad : is_good n i b ≡ false → (k : ℕ) → FirstGood n i x k → (t : Bool) → ltb k (blocks_in x) ≡ t → P (mended n i (blocks_of x) b)
        bad e k f true p = let h = ltb-true k (blocks_in x) p in subst P (sym (mended_replaced x b e k f h)) (replaced k e f h)
        bad e k f false p = let h = ltb-false k (blocks_in x) p in subst P (sym (mended_lost x b e k f h)) (lost e (λ j l. f.before j (omega arith)))

        go : (t : Bool) → is_good n i b ≡ t → P (mended n i (blocks_of x) b)
        go true e = subst P (sym (mended_kept (blocks_of x) b e)) (good e)
        go false e = let k = found x in bad e k.0 k.1 (ltb k.0 (blocks_in x)) refl

-- what then stands there has 512 bytes
pub mended_whole : (n i : ℕ) (x b : List ℕ) → length b ≡ 512 → length (mended n i (blocks_of x) b).block ≡ 512
mended_whole n i x b l = by_mended n i x b (λ m. length m.block ≡ 512) (λ e. l) (λ k e f h. block_whole x k h) (λ e z. l)
