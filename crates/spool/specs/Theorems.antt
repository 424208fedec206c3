-- What is proved about spools besides the promises. The proof is `spools` in proofs/Proved.antt.
use Rattle.std.specs.Prelude.{ℕ, ◌*◌, ◌%◌, ◌<◌, ◌≤◌, ◌≡◌, ◌↔◌, List, [], ◌∷◌, length, take, drop, get_or, Result}
use Rattle.endian.specs.Lists.{zeros, Bytes}
use Rattle.protocol.specs.Replies.{put_in}
use Rattle.spool_block.specs.Block.{block_refusal}
use Rattle.spool.specs.Answers.{number_of, outcome}
use Rattle.spool.specs.Reading.{blocks_in, block_at, refusal_at, reading, look_refusal}
use Rattle.spool.specs.Writing.{spool_blocks, spool_of, writing}
use Rattle.spool.specs.Salvage.{salvaging_as, salvaging}
use Rattle.spool.specs.declared.Refusal.{Refusal}

-- a program, and a spool's length, that are not refused
pub record IsProgram (p : List ℕ) : Type 0 where
  pub some : 1 ≤ length p
  pub most : length p ≤ 131072

pub record GoodLength (n : ℕ) : Type 0 where
  pub some : 1 ≤ n
  pub most : n ≤ 142336
  pub whole : n % 512 ≡ 0

abbrev pub AllGood : List ℕ → Type 0
AllGood s = (i : ℕ) → i < blocks_in s → refusal_at s i ≡ 0

-- when reading answers each number: 50, then 54, then what the earliest block gives that is not good
pub record ReadSettles (s room : List ℕ) : Type 0 where
  pub refuses_50 : ((reading s room).number ≡ 50) ↔ (GoodLength (length s) → ⊥)
  pub refuses_54 : ((reading s room).number ≡ 54) ↔ (GoodLength (length s) × (length room < 472 * blocks_in s))
  pub refuses_block : GoodLength (length s) → 472 * blocks_in s ≤ length room → (i : ℕ) → i < blocks_in s → ((j : ℕ) → j < i → refusal_at s j ≡ 0)
      → (refusal_at s i ≡ 0 → ⊥) → reading s room ≡ outcome (refusal_at s i) 0 room
  pub accepts : ((reading s room).number ≡ 0) ↔ (GoodLength (length s) × (472 * blocks_in s ≤ length room) × AllGood s)
  -- a refused call puts nothing
  pub kept : ((reading s room).number ≡ 0 → ⊥) → reading s room ≡ outcome (reading s room).number 0 room

-- when writing answers each number
pub record WriteSettles (p room : List ℕ) : Type 0 where
  pub refuses_40 : ((writing p room).number ≡ 40) ↔ (IsProgram p → ⊥)
  pub refuses_54 : ((writing p room).number ≡ 54) ↔ (IsProgram p × (length room < 512 * spool_blocks (length p)))
  pub accepts : ((writing p room).number ≡ 0) ↔ (IsProgram p × (512 * spool_blocks (length p) ≤ length room))
  pub kept : ((writing p room).number ≡ 0 → ⊥) → writing p room ≡ outcome (writing p room).number 0 room

-- when salvage answers each number
pub record SalvageSettles (s spares report : List ℕ) : Type 0 where
  pub refuses_50 : ((salvaging s spares report).number ≡ 50) ↔ (GoodLength (length s) × (length spares % 512 ≡ 0) → ⊥)
  pub refuses_54 : ((salvaging s spares report).number ≡ 54) ↔ (GoodLength (length s) × (length spares % 512 ≡ 0) × (length report < blocks_in s))
  pub accepts : ((salvaging s spares report).number ≡ 0) ↔ (GoodLength (length s) × (length spares % 512 ≡ 0) × (blocks_in s ≤ length report))
  pub kept : ((salvaging s spares report).number ≡ 0 → ⊥) → salvaging s spares report ≡ salvaging_as (salvaging s spares report).number s report

-- what becomes of the block b at place i of n: what then stands there, and what is reported
pub data Fate (n i : ℕ) (spares b : List ℕ) : List ℕ → ℕ → Type 0 where
  -- a good block is kept
  keeps : block_refusal n i b ≡ 0 → Fate n i spares b b 0
  -- a bad one is replaced by the first spare that is good there
  replaces : (block_refusal n i b ≡ 0 → ⊥) → (k : ℕ) → k < blocks_in spares → block_refusal n i (block_at spares k) ≡ 0
      → ((j : ℕ) → j < k → block_refusal n i (block_at spares j) ≡ 0 → ⊥) → Fate n i spares b (block_at spares k) 1
  -- and is lost, and stays as it was, only where none is
  loses : (block_refusal n i b ≡ 0 → ⊥) → ((j : ℕ) → j < blocks_in spares → block_refusal n i (block_at spares j) ≡ 0 → ⊥) → Fate n i spares b b 2

-- a spool s that was salvaged with spares: it is t afterwards, and the report r, which was old before
pub record Salvaged (s spares old t r : List ℕ) : Type 0 where
  pub size : length t ≡ length s
  pub places : (i : ℕ) → i < blocks_in s → Fate (blocks_in s) i spares (block_at s i) (block_at t i) (get_or r i 0)
  -- a longer report stays behind its entries
  pub rest : (length r ≡ length old) × (drop (blocks_in s) r ≡ drop (blocks_in s) old)
  -- it reads, given room, exactly where no block is lost
  pub reads : (room : List ℕ) → 472 * blocks_in s ≤ length room → ((reading t room).number ≡ 0) ↔ ((i : ℕ) → i < blocks_in s → get_or r i 0 ≡ 2 → ⊥)
  -- where each block that is good at a place, in spool and spares, is that of one program, and none is lost, it is that program's spool
  pub mends : (p : List ℕ) → IsProgram p → length s ≡ length (spool_of p)
      → ((i : ℕ) → i < blocks_in s → refusal_at s i ≡ 0 → block_at s i ≡ block_at (spool_of p) i)
      → ((i k : ℕ) → i < blocks_in s → k < blocks_in spares → block_refusal (blocks_in s) i (block_at spares k) ≡ 0 → block_at spares k ≡ block_at (spool_of p) i)
      → ((i : ℕ) → i < blocks_in s → get_or r i 0 ≡ 2 → ⊥) → t ≡ spool_of p

pub record Spools : Type 0 where
  -- the number settles the answer
  pub answers : (x y : Result Unit Refusal) → number_of x ≡ number_of y → x ≡ y
  pub reads : (s room : List ℕ) → ReadSettles s room
  pub writes : (p room : List ℕ) → WriteSettles p room
  pub salvages : (s spares report : List ℕ) → SalvageSettles s spares report
  -- a look at a place: what the block there gives
  pub looks : (s : List ℕ) (i : ℕ) → GoodLength (length s) → i < blocks_in s → look_refusal s i ≡ refusal_at s i
  pub no_block : (s : List ℕ) (i : ℕ) → (GoodLength (length s) × (i < blocks_in s) → ⊥) → look_refusal s i ≡ 50
  -- what the writer wrote of a program reads back as that program, given room
  pub round : (p out room : List ℕ) → IsProgram p → 512 * spool_blocks (length p) ≤ length out → 472 * spool_blocks (length p) ≤ length room
      → reading (take (writing p out).len (writing p out).room) room ≡ outcome 0 (length p) (put_in room p)
  -- and nothing else does: bytes read as a program, given room, exactly where they are the writer's spool for it, byte for byte
  pub exactly : (s p room : List ℕ) → Bytes s → 472 * blocks_in s ≤ length room
      → (reading s room ≡ outcome 0 (length p) (put_in room p)) ↔ (IsProgram p × (s ≡ spool_of p))
  -- so two spools that read alike are equal
  pub one_spool : (s t room : List ℕ) → Bytes s → Bytes t → (reading s room).number ≡ 0 → reading s room ≡ reading t room → s ≡ t
  -- every accepted salvage
  pub salvaged : (s spares report : List ℕ) → (salvaging s spares report).number ≡ 0
      → Salvaged s spares report (salvaging s spares report).spool (salvaging s spares report).report
  -- with the program's own spool as spares nothing is lost, whatever the damage
  pub own_spares : (p s report : List ℕ) → IsProgram p → length s ≡ length (spool_of p) → (salvaging s (spool_of p) report).number ≡ 0
      → (i : ℕ) → i < blocks_in s → get_or (salvaging s (spool_of p) report).report i 0 ≡ 2 → ⊥
  -- a spool of zeros, salvaged with nothing, is lost
  pub lost : salvaging (zeros 512) [] (7 ∷ 8 ∷ []) ≡ salvaging_as 0 (zeros 512) (2 ∷ 8 ∷ [])
