-- A spool that was written reads, and a spool that reads was written.
use Prim.Native.Nat.{ℕ, suc, ◌+◌, ◌-◌, ◌*◌, ◌<◌, ◌≤◌, min}
use mathlib.Core.Bool.{Bool, true, false}
use mathlib.Core.List.{List}
use mathlib.Core.Path.{◌≡◌, refl, sym, ap, subst, ◌∙◌}
use native.Mathlib.Omega.{arith}
use lib.Dec.{eqb}
use lib.ListN.{length, drop, length-take, length-drop}
use borrow.Author.Tests.{eqb-true, eqb-false}
use Rattle.endian.specs.Lists.{Bytes}
use Rattle.spool_block.specs.Block.{count_in, used_in}
use Rattle.spool_block.specs.Making.{block_of}
use Rattle.spool_block.specs.Theorems.{CountFits}
use Rattle.spool_block.proofs.Proved.{blocks, all_take, all_drop}
use Rattle.spool_block.proofs.Blocks.{used_length}
use Rattle.spool.specs.Reading.{part, blocks_in, block_at, refusal_at, program_in}
use Rattle.spool.specs.Writing.{spool_blocks, spool_of}
use Rattle.spool.specs.Theorems.{IsProgram, GoodLength, AllGood}
use Rattle.spool.proofs.Mending.{block_whole}
use Rattle.spool.proofs.Parts.{front, front_ext, front_length, parts_back, Sizes, part_of, sizes_length, used_most}

-- ---- written

abbrev made : List ℕ → ℕ → List ℕ
made p i = block_of i (part 472 p i)

part_most : (p : List ℕ) (i : ℕ) → length (part 472 p i) ≤ 472
part_most p i = rw length-take (omega arith)

made_whole : (p : List ℕ) (i : ℕ) → length (made p i) ≡ 512
made_whole p i = blocks.size i (part 472 p i) (part_most p i)

made_sizes : (p : List ℕ) (n : ℕ) → Sizes 512 n (made p)
made_sizes p n = record { full = λ i h. made_whole p i; most = λ i h. omega (arith, made_whole p i) }

module _ (p : List ℕ) where
  abbrev n : ℕ
  n = spool_blocks (length p)

  pub spool_length : length (spool_of p) ≡ 512 * n
  unfolding spool_of
  spool_length = front_length 512 n (made p) (λ i h. made_whole p i)

  pub spool_blocks_is : blocks_in (spool_of p) ≡ n
  spool_blocks_is = let l = spool_length in omega arith

  pub spool_at : (i : ℕ) → i < n → block_at (spool_of p) i ≡ made p i
  unfolding spool_of
  spool_at i h = part_of 512 n (made p) (made_sizes p n) i h

  module _ (is : IsProgram p) where
    pub spool_good : GoodLength (length (spool_of p))
    spool_good =
        let l = spool_length in
        let a = is.some in
        let b = is.most in
        record { some = omega arith; most = omega arith; whole = omega arith }

    part_length : (i : ℕ) → i < n → CountFits n i (length (part 472 p i))
    part_length i h =
        let a = is.some in
        let b = is.most in
        let l : length (part 472 p i) ≡ min 472 (length p - 472 * i) = length-take 472 (drop (472 * i) p) ∙ ap (min 472) (length-drop (472 * i) p) in
        record { full = λ e. omega (arith, e); last = λ e. (omega arith, omega arith); most = λ e f. omega arith }

    pub spool_all : AllGood (spool_of p)
    unfolding refusal_at
    spool_all i h =
        let e = spool_blocks_is in
        let b = is.most in
        let k : i < n = omega arith in
        rw (e, spool_at i k) ((blocks.made n i (part 472 p i) (omega arith) (part_most p i)).1 (part_length i k))

    pub spool_program : program_in (spool_of p) ≡ p
    unfolding program_in
    spool_program =
        let b = is.most in
        ap (λ (k : ℕ). front k (λ i. used_in (block_at (spool_of p) i))) spool_blocks_is
        ∙ front_ext n (λ i. used_in (block_at (spool_of p) i)) (part 472 p) (λ i h. ap used_in (spool_at i h) ∙ blocks.uses i (part 472 p i) (omega arith) (part_most p i))
        ∙ parts_back 472 n p (omega arith)

-- ---- read

module _ (s : List ℕ) (bytes : Bytes s) (good : GoodLength (length s)) (all : AllGood s) where
  abbrev m : ℕ
  m = blocks_in s

  abbrev uses : ℕ → List ℕ
  uses i = used_in (block_at s i)

  count_fits : (i : ℕ) → i < m → CountFits m i (count_in (block_at s i))
  unfolding refusal_at
  count_fits i h = ((blocks.settles m i (block_at s i)).good.0 (all i h)).2.0

  count_most : (i : ℕ) → i < m → count_in (block_at s i) ≤ 472
  count_most i h = go (eqb (i + 1) m) refl
    where
      go : (t : Bool) → eqb (i + 1) m ≡ t → count_in (block_at s i) ≤ 472
      go true e = ((count_fits i h).last (eqb-true (i + 1) m e)).1
      go false e = let f = (count_fits i h).full (eqb-false (i + 1) m e) in omega arith

  uses_length : (i : ℕ) → i < m → length (uses i) ≡ count_in (block_at s i)
  uses_length i h = let w = block_whole s i h in used_length (block_at s i) (omega arith) (count_most i h)

  uses_sizes : Sizes 472 m uses
  uses_sizes = record { full = λ i h. uses_length i (omega arith) ∙ (count_fits i (omega arith)).full (λ e. omega arith); most = λ i h. used_most (block_at s i) }

  -- the last block's count, which is from 1 to 472
  abbrev last : ℕ
  last = m - 1

  length_is : length (program_in s) ≡ 472 * last + length (uses last)
  unfolding program_in
  length_is =
      let a = good.some in
      let b = good.whole in
      let e : m ≡ suc last = omega arith in
      ap (λ (k : ℕ). length (front k uses)) e ∙ sizes_length 472 last uses (subst (λ (k : ℕ). Sizes 472 k uses) e uses_sizes)

  facts : (1 ≤ m) × (m ≤ 278) × (1 ≤ length (uses last)) × (length (uses last) ≤ 472) × (last ≡ 277 → length (uses last) ≤ 328)
  facts =
      let a = good.some in
      let b = good.whole in
      let c = good.most in
      let h : last < m = omega arith in
      let e : last + 1 ≡ m = omega arith in
      let u = uses_length last h in
      let f = count_fits last h in
      let g = f.last e in
      (omega arith, omega arith, omega (arith, g.0), omega (arith, g.1), λ q. omega (arith, f.most e q))

  pub reads_program : IsProgram (program_in s)
  reads_program = let l = length_is in let f = facts in let z = f.4 in record { some = omega arith; most = most (eqb last 277) refl }
    where
      most : (t : Bool) → eqb last 277 ≡ t → length (program_in s) ≤ 131072
      most true e = let q = eqb-true last 277 e in omega (arith, length_is, facts.4 q)
      most false e = omega (arith, length_is, facts.1, facts.3, eqb-false last 277 e)

  blocks_are : spool_blocks (length (program_in s)) ≡ m
  blocks_are = let l = length_is in let f = facts in omega arith

  part_is : (i : ℕ) → i < m → part 472 (program_in s) i ≡ uses i
  unfolding program_in
  part_is i h = part_of 472 m uses uses_sizes i h

  block_is : (i : ℕ) → i < m → block_of i (part 472 (program_in s) i) ≡ block_at s i
  unfolding refusal_at
  block_is i h =
      ap (block_of i) (part_is i h)
      ∙ sym (blocks.only m i (block_at s i) (all_take 512 (drop (512 * i) s) (all_drop (512 * i) s bytes)) (block_whole s i h) (all i h))

  pub reads_spool : spool_of (program_in s) ≡ s
  unfolding spool_of
  reads_spool =
      let b = good.whole in
      ap (λ (k : ℕ). front k (made (program_in s))) blocks_are ∙ front_ext m (made (program_in s)) (block_at s) block_is ∙ parts_back 512 m s (omega arith)
