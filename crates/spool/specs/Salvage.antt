-- A damaged spool salvaged with spare blocks: change request 10.
use Rattle.std.specs.Prelude.{ℕ, ◌/◌, ◌%◌, cond, not, ◌||◌, eqb, ltb, length}
use Rattle.std.proofs.Math.Option.{Option, none, some}
use mathlib.Core.List.{List, [], ◌∷◌, flatten}
use Rattle.endian.specs.Lists.{each}
use Rattle.protocol.specs.Replies.{put_in}
use Rattle.spool_block.specs.Block.{block_size, is_good}
use Rattle.spool.specs.Reading.{blocks_in, block_at, bad_length}

abbrev pub blocks_of : List ℕ → List (List ℕ)
blocks_of s = each (blocks_in s) (block_at s)

-- the first of some blocks that is good at place i of n, if one is
unfoldable pub first_good : ℕ → ℕ → List (List ℕ) → Option (List ℕ)
first_good n i [] = none
first_good n i (b ∷ bs) = cond (is_good n i b) (some b) (first_good n i bs)

-- what then stands at a place, and what is reported of it: kept (0), replaced (1) or lost (2)
pub record Mended : Type 0 where
  pub block : List ℕ
  pub entry : ℕ

abbrev pub kept : List ℕ → Mended
kept b = record { block = b; entry = 0 }

-- a bad block is lost, and stays, where no spare is good there
abbrev pub replaced_by : Option (List ℕ) → List ℕ → Mended
replaced_by (some spare) b = record { block = spare; entry = 1 }
replaced_by none b = record { block = b; entry = 2 }

unfoldable pub mended : ℕ → ℕ → List (List ℕ) → List ℕ → Mended
mended n i spares b = cond (is_good n i b) (kept b) (replaced_by (first_good n i spares) b)

-- place i of a spool
abbrev pub mended_at : List ℕ → List ℕ → ℕ → Mended
mended_at s spares i = mended (blocks_in s) i (blocks_of spares) (block_at s i)

-- 50: the length of the spool, or spares that are not a multiple of 512; then 54: a report under one entry a block
unfoldable pub salvage_refusal : ℕ → ℕ → ℕ → ℕ
salvage_refusal s spares report =
    cond (bad_length s || not (eqb (spares % block_size) 0)) 50
    (cond (ltb report (s / block_size)) 54 0)

-- all that salvage settles: the number of the refusal, 0 for none, and what spool and report then hold
pub record Salvaging : Type 0 where
  pub number : ℕ
  pub spool : List ℕ
  pub report : List ℕ

abbrev pub salvaging_as : ℕ → List ℕ → List ℕ → Salvaging
salvaging_as number s report = record { number = number; spool = s; report = report }

-- a refused call leaves both; what a report has beyond an entry a block stays
unfoldable pub salvaging : List ℕ → List ℕ → List ℕ → Salvaging
salvaging s spares report =
    let k = salvage_refusal (length s) (length spares) (length report) in
    let at = mended_at s spares in
    let n = blocks_in s in
    cond (eqb k 0) (salvaging_as 0 (flatten (each n (λ i. (at i).block))) (put_in report (each n (λ i. (at i).entry)))) (salvaging_as k s report)
