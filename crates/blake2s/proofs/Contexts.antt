-- A context: how its parts follow from how many bytes have come, and what a part of the message does to it.
use mathlib.Core.Path.{◌≡◌, refl, ap, sym, ◌∙◌}
use mathlib.Core.Bool.{false}
use mathlib.Core.List.{List, ◌++◌, append-nil}
use Prim.Native.Nat.{ℕ, suc, ◌+◌, ◌-◌, ◌*◌, ◌<◌, ◌≤◌}
use native.Mathlib.Nat.{zero-add}
use native.Mathlib.Omega.{arith}
use lib.ListN.{length, take, drop, length-append, length-drop}
use lib.Seq.{take_at, paste, length-paste, drop-append-add, take-append-add, length-take-le, take-length, drop-length, drop-drop}
use Rattle.rfc7693.specs.Rfc7693.{F, words, block_at}
use Rattle.endian.specs.Lists.{padded, zeros}
use Rattle.blake2s.specs.Steps.{compressed_blocks, waiting_then, state_after, block_after}
use Rattle.blake2s.specs.Stream.{earlier, total, done, waiting, extended}
use Rattle.blake2s.specs.declared.Context.{Context}
use Rattle.endian.proofs.Lists.{drop_replicate}
use Rattle.rfc7693.proofs.Blocks.{block_full, block_last, block_behind}
use Rattle.blake2s.proofs.Blocks.{blocks_one, after_zero, after_suc, after_blocks}

-- s at the front of zeros
pub copied_padded : (s : List ℕ) → paste (zeros 64) 0 s (length s) ≡ padded 64 s
copied_padded s = rw (take-length, zero-add, drop_replicate)

suc_is : (m : ℕ) → suc m ≡ 1 + m
suc_is m = omega arith

-- at most a block waits
pub last_fits : (n : ℕ) → (64 * earlier n ≤ n) × (n ≤ 64 * earlier n + 64)
unfolding earlier
last_fits n = omega arith

pub earlier_sum : (m k : ℕ) → earlier (m + k) ≡ earlier m + earlier (m - 64 * earlier m + k)
unfolding earlier
earlier_sum m k = omega arith

-- a block that is padded gives back its bytes
take_padded : (x : List ℕ) (n : ℕ) → length x ≡ n → take n (padded 64 x) ≡ x
take_padded x n e = take_at x _ n e

module _ (c : Context) (long : length c.block ≡ 64) where
  pub waits : length (waiting c) ≡ total c - done c
  unfolding waiting done
  waits =
      let f = last_fits (total c) in
      length-take-le (total c - done c) c.block (omega arith)

  done_le : done c ≤ total c
  unfolding done
  done_le = (last_fits (total c)).0

  module _ (s : List ℕ) where
    pub total_extended : total (extended c s) ≡ total c + length s
    unfolding total extended
    total_extended = omega arith

    now_waits : length (waiting c ++ s) ≡ total c - done c + length s
    now_waits = rw (length-append, waits)

    pub done_extended : done (extended c s) ≡ done c + 64 * earlier (length (waiting c ++ s))
    unfolding done
    done_extended =
        let e = earlier_sum (total c) (length s) in
        rw (total_extended, now_waits, e) (omega arith)

    -- what waits after s is what no whole block has taken
    pub waiting_extended : waiting (extended c s) ≡ drop (64 * earlier (length (waiting c ++ s))) (waiting c ++ s)
    unfolding waiting extended
    waiting_extended =
        let d = waiting c ++ s in
        let n = earlier (length d) in
        let f = last_fits (length d) in
        let g = done_le in
        let l : length (drop (64 * n) d) ≡ length d - 64 * n = length-drop (64 * n) d in
        let k = now_waits in
        let q : length (drop (64 * n) d) ≡ total c + length s - (done c + 64 * n) = omega arith in
        rw (total_extended, done_extended, block_last d n f.1) (take_padded (drop (64 * n) d) (total c + length s - (done c + 64 * n)) q)

    -- the parts of the code make the context's state and block, and what waits is the block
    pub extended_state : state_after c.h c.block (total c) s ≡ (extended c s).h
    unfolding state_after extended waiting done
    extended_state = refl

    pub extended_block : block_after c.block (total c) s ≡ (extended c s).block
    unfolding block_after extended waiting done
    extended_block = refl

    pub waits_padded : padded 64 (waiting (extended c s)) ≡ (extended c s).block
    unfolding extended
    waits_padded =
        let d = waiting c ++ s in
        rw waiting_extended (sym (block_last d (earlier (length d)) (last_fits (length d)).1))

module _ (block : List ℕ) (n at : ℕ) (long : length block ≡ 64) (sum : 64 * earlier n + at ≡ n) (fits : at ≤ 64) (s : List ℕ) where
  waits_long : length (take at block) ≡ at
  waits_long = length-take-le at block (omega arith)

  waits_at : waiting_then block n s ≡ take at block ++ s
  waits_at =
      let k : n - 64 * earlier n ≡ at = omega arith in
      rw k

  then_long : length (waiting_then block n s) ≡ at + length s
  then_long = rw (waits_at, length-append, waits_long)

  -- a part for which the block that waits has room
  module _ (short : at + length s ≤ 64) where
    none_full : earlier (length (waiting_then block n s)) ≡ 0
    unfolding earlier
    none_full =
        let k = then_long in
        omega arith

    pub state_short : (h : List ℕ) → h ≡ state_after h block n s
    unfolding state_after
    state_short h = rw (none_full, after_zero)

    pub block_short : padded 64 (take at block ++ s) ≡ block_after block n s
    unfolding block_after
    block_short =
        let k = then_long in
        rw (none_full, block_last (waiting_then block n s) 0 (omega arith), waits_at)

  -- a longer part: room is what the block that waits has left, and rest what stands behind that in s
  module _ (room : ℕ) (rest : List ℕ) (r : room ≡ 64 - at) (more : room < length s) (p : rest ≡ drop room s) where
    some_full : earlier (length (waiting_then block n s)) ≡ suc (earlier (length rest))
    unfolding earlier
    some_full =
        let k = then_long in
        let b : length rest ≡ length s - room = rw (p, length-drop) in
        omega arith

    seam : 64 ≡ length (take at block) + room
    seam =
        let k = waits_long in
        omega arith

    -- the block that is filled up, and what comes behind it
    full : paste block at (take room s) (length (take room s)) ≡ block_at (waiting_then block n s) 0
    full =
        let k = then_long in
        let l : length (take room s) ≡ room = length-take-le room s (omega arith) in
        let j : at + room ≡ length block = omega arith in
        rw (block_full (waiting_then block n s) 0 (omega arith), waits_at, seam, take-append-add (take at block) s room, take-length, l, j, drop-length)
        (append-nil (take at block ++ take room s))

    pub full_long : length (paste block at (take room s) (length (take room s))) ≡ 64
    full_long =
        let l : length (take room s) ≡ room = length-take-le room s (omega arith) in
        length-paste block at (take room s) (length (take room s)) (omega arith) (omega arith) ∙ long

    behind : drop 64 (waiting_then block n s) ≡ rest
    behind = rw (waits_at, seam, drop-append-add (take at block) s room, p)

    pub state_long : (h : List ℕ) {b next end : List ℕ} {k : ℕ} → b ≡ paste block at (take room s) (length (take room s))
        → next ≡ compressed_blocks h (n + room) b 1 false → k ≡ earlier (length rest)
        → end ≡ compressed_blocks next (n + room + 64) rest k false → end ≡ state_after h block n s
    unfolding state_after
    state_long h {b = b} eb en ek ee =
        let d = waiting_then block n s in
        let t : n + room ≡ 64 * earlier n + 64 = omega arith in
        rw (
          ee,
          ek,
          en,
          blocks_one h (n + room) b false (rw eb full_long),
          eb,
          full,
          t,
          after_blocks (F h (words (block_at d 0)) (64 * earlier n + 64) false) (64 * earlier n + 64) rest (earlier (length rest)),
          some_full,
          after_suc h (64 * earlier n) d (earlier (length rest)),
          behind,
        )

    pub block_long : {k : ℕ} → k ≡ earlier (length rest) → padded 64 (drop (room + 64 * k) s) ≡ block_after block n s
    unfolding block_after
    block_long ek =
        let d = waiting_then block n s in
        let m = earlier (length rest) in
        let y : block_at rest m ≡ block_at d (suc m) =
        ap (λ (x : List ℕ). block_at x m) (sym behind) ∙ block_behind d 1 m ∙ ap (λ (i : ℕ). block_at d i) (sym (suc_is m)) in
        rw (ek, ← drop-drop (64 * m) room s, ← p, some_full) (sym (block_last rest m (last_fits (length rest)).1) ∙ y)
