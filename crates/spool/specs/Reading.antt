-- A spool read: change request 10.
use Rattle.std.specs.Prelude.{ℕ, ◌*◌, ◌/◌, ◌%◌, Bool, cond, not, ◌||◌, eqb, ltb, length, take, drop}
use mathlib.Core.List.{List, [], ◌∷◌, flatten}
use Rattle.endian.specs.Lists.{each}
use Rattle.spool_block.specs.Block.{block_size, used_in, block_refusal}
use Rattle.spool.specs.Answers.{Outcome, given}

-- part i of bytes that are cut into parts of this size; the last may have fewer
abbrev pub part : ℕ → List ℕ → ℕ → List ℕ
part size bytes i = take size (drop (size * i) bytes)

abbrev pub blocks_in : List ℕ → ℕ
blocks_in s = length s / block_size

abbrev pub block_at : List ℕ → ℕ → List ℕ
block_at s i = part block_size s i

-- what the block at place i gives there
unfoldable pub refusal_at : List ℕ → ℕ → ℕ
refusal_at s i = block_refusal (blocks_in s) i (block_at s i)

-- the first of some numbers that is not 0; 0 where all are
unfoldable pub earliest : List ℕ → ℕ
earliest [] = 0
earliest (k ∷ ks) = cond (eqb k 0) (earliest ks) k

-- the program is what the blocks use
unfoldable pub program_in : List ℕ → List ℕ
program_in s = flatten (each (blocks_in s) (λ i. used_in (block_at s i)))

-- 50: a length of zero, over 142,336, which are 278 blocks, or not a multiple of 512
unfoldable pub bad_length : ℕ → Bool
bad_length n = eqb n 0 || ltb 142336 n || not (eqb (n % block_size) 0)

-- then 54: room under 472 bytes a block; then the earliest block's first refusal
unfoldable pub read_refusal : List ℕ → ℕ → ℕ
read_refusal s room =
    cond (bad_length (length s)) 50
    (cond (ltb room (472 * blocks_in s)) 54
    (earliest (each (blocks_in s) (refusal_at s))))

unfoldable pub reading : List ℕ → List ℕ → Outcome
reading s room = given (read_refusal s (length room)) (program_in s) room

-- a look at one place: 50 for the length, or where there is no such block; then what the block gives there
unfoldable pub look_refusal : List ℕ → ℕ → ℕ
look_refusal s i = cond (bad_length (length s) || not (ltb i (blocks_in s))) 50 (refusal_at s i)
