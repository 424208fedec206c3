-- The calls of F for the blocks of some data, one after the other.
use mathlib.Core.Path.{◌≡◌, refl, ap, sym, ◌∙◌}
use mathlib.Core.Bool.{Bool, false}
use mathlib.Core.List.{List, ◌++◌}
use Prim.Native.Nat.{ℕ, zero, suc, ◌+◌, ◌-◌, ◌*◌, ◌<◌, ◌≤◌}
use native.Mathlib.Nat.{add-zero, zero-add, suc-add}
use native.Mathlib.Omega.{arith}
use lib.ListN.{length, take, drop, length-append, length-drop}
use lib.Seq.{take-append-le, drop-append-le, drop-drop, take_all}
use Rattle.rfc7693.specs.Rfc7693.{F, words, block_at, Compression, leading, compressed}
use Rattle.blake2s.specs.Steps.{compressed_blocks}
use Rattle.endian.proofs.Lists.{each_ext}
use Rattle.rfc7693.proofs.Blocks.{block_full, block_behind}

-- blocks one after the other: none, and the first of several
module _ (h : List ℕ) (t : ℕ) (d : List ℕ) (f : Bool) where
  pub blocks_none : compressed_blocks h t d 0 f ≡ h
  unfolding compressed_blocks compressed
  blocks_none = refl

  pub blocks_suc : (n : ℕ) → compressed_blocks h t d (suc n) f ≡ compressed_blocks (F h (words (block_at d 0)) t f) (t + 64) (drop 64 d) n f
  unfolding compressed_blocks compressed
  blocks_suc n =
      rw add-zero
      (ap (λ (cs : List Compression). compressed (F h (words (block_at d 0)) t f) cs)
      (each_ext n
      (λ i. record { block = block_at d (suc i); counter = t + 64 * suc i; last = f })
      (λ i. record { block = block_at (drop 64 d) i; counter = t + 64 + 64 * i; last = f })
      (λ i.
      let e : suc i ≡ 1 + i = omega arith in
      let k : t + 64 * suc i ≡ t + 64 + 64 * i = omega arith in
      rw (k, e, ← block_behind d 1 i))))

pub blocks_one : (h : List ℕ) (t : ℕ) (d : List ℕ) (f : Bool) → length d ≡ 64 → compressed_blocks h t d 1 f ≡ F h (words d) t f
blocks_one h t d f l = rw (blocks_suc h t d f 0, block_full d 0 (omega arith), take_all 64 d (omega arith), blocks_none)

-- a turn of the loop over n blocks, at block i
pub blocks_step : (h : List ℕ) (t : ℕ) (d : List ℕ) (f : Bool) (n i : ℕ) → i < n → 64 * n ≤ length d
    → compressed_blocks (F h (words (take 64 (drop (64 * i) d))) (t + 64 * i) f) (t + 64 * (i + 1)) (drop (64 * (i + 1)) d) (n - (i + 1)) f
    ≡ compressed_blocks h (t + 64 * i) (drop (64 * i) d) (n - i) f
blocks_step h t d f n i l b =
    let k : n - i ≡ suc (n - (i + 1)) = omega arith in
    let u : t + 64 * (i + 1) ≡ t + 64 * i + 64 = omega arith in
    let e : 64 * (i + 1) ≡ 64 * i + 64 = omega arith in
    let g : length (drop (64 * i) d) ≡ length d - 64 * i = length-drop (64 * i) d in
    rw (k, u, e, ← drop-drop 64 (64 * i) d, blocks_suc h (t + 64 * i) (drop (64 * i) d) f (n - (i + 1)), block_full (drop (64 * i) d) 0 (omega arith))

-- the state after the first n blocks of d, where t bytes came before and none of them is final
abbrev pub after : ℕ → List ℕ → ℕ → List ℕ → List ℕ
after n h t d = compressed h (leading n t d)

pub after_blocks : (h : List ℕ) (t : ℕ) (d : List ℕ) (n : ℕ) → compressed_blocks h (t + 64) d n false ≡ after n h t d
unfolding compressed_blocks leading
after_blocks h t d n =
    ap (compressed h)
    (each_ext n
    (λ i. record { block = block_at d i; counter = t + 64 + 64 * i; last = false })
    (λ i. record { block = block_at d i; counter = t + (i + 1) * 64; last = false })
    (λ i.
    let k : t + 64 + 64 * i ≡ t + (i + 1) * 64 = omega arith in
    rw k))

pub after_zero : (h : List ℕ) (t : ℕ) (d : List ℕ) → after 0 h t d ≡ h
after_zero h t d = sym (after_blocks h t d 0) ∙ blocks_none h (t + 64) d false

pub after_suc : (h : List ℕ) (t : ℕ) (d : List ℕ) (n : ℕ)
    → after (suc n) h t d ≡ after n (F h (words (block_at d 0)) (t + 64) false) (t + 64) (drop 64 d)
after_suc h t d n =
    sym (after_blocks h t d (suc n)) ∙ blocks_suc h (t + 64) d false n
    ∙ after_blocks (F h (words (block_at d 0)) (t + 64) false) (t + 64) (drop 64 d) n

-- n blocks and then k more, where the bytes e come behind those of the n blocks
pub after_split : (n k : ℕ) (h : List ℕ) (t : ℕ) (d e : List ℕ) → 64 * n ≤ length d
    → after (n + k) h t (d ++ e) ≡ after k (after n h t d) (t + 64 * n) (drop (64 * n) d ++ e)
after_split zero k h t d e l = rw (zero-add, add-zero, after_zero)
after_split (suc n) k h t d e l =
    let b : length (drop 64 d) ≡ length d - 64 = length-drop 64 d in
    let a : length (d ++ e) ≡ length d + length e = length-append d e in
    let f : 64 ≤ length d = omega arith in
    let m : 64 * suc n ≡ 64 + 64 * n = omega arith in
    let q : t + (64 + 64 * n) ≡ t + 64 + 64 * n = omega arith in
    let u : block_at (d ++ e) 0 ≡ block_at d 0 = block_full (d ++ e) 0 (omega arith) ∙ take-append-le 64 d e f ∙ sym (block_full d 0 (omega arith)) in
    let g = F h (words (block_at d 0)) (t + 64) false in
    rw (
      suc-add n k,
      after_suc h t (d ++ e) (n + k),
      after_suc h t d n,
      u,
      drop-append-le 64 d e f,
      m,
      q,
      ← drop-drop (64 * n) 64 d,
    ) (after_split n k g (t + 64) (drop 64 d) e (omega arith))
