-- The calls of F for a key and a message: how many there are, and the last of them.
use mathlib.Core.Path.{◌≡◌, refl, ◌∙◌}
use mathlib.Core.Bool.{Bool, true, false, cond}
use mathlib.Core.List.{List, [], ◌∷◌, ◌++◌}
use Prim.Native.Nat.{ℕ, suc, ◌+◌, ◌-◌, ◌*◌, ◌/◌, ◌<◌, ◌≤◌}
use native.Mathlib.Omega.{arith}
use lib.Dec.{eqb}
use lib.ListN.{length, get_or, drop, length-append, length-drop}
use lib.Seq.{get_or_at, take_all}
use borrow.Author.Tests.{ne_eqb, eqb-true, eqb-false}
use Rattle.endian.specs.Lists.{padded}
use Rattle.rfc7693.specs.Rfc7693.{input, block_at, block_count, Compression, leading, compressions}
use Rattle.endian.proofs.Lists.{length_each}
use Rattle.rfc7693.proofs.Blocks.{length_padded, block_full}

-- the input's length is the counter of the last call,
pub length_input : (key msg : List ℕ) → length key ≤ 32 → length (input key msg) ≡ cond (eqb (length key) 0) (length msg) (length msg + 64)
unfolding input
length_input [] msg h = refl
length_input (k ∷ ks) msg h =
    let e : eqb (length (k ∷ ks)) 0 ≡ false = ne_eqb (length (k ∷ ks)) 0 (λ z. omega arith) in
    let l : length (padded 64 (k ∷ ks)) ≡ 64 = length_padded (k ∷ ks) (omega arith) in
    rw (e, length-append, l) (omega arith)

-- and from it the number of blocks: those before the final one, and one more
pub blocks : (kk ll : ℕ) → kk ≤ 32 → block_count kk ll ≡ suc ((cond (eqb kk 0) ll (ll + 64) - 1) / 64)
unfolding block_count
blocks kk ll h = go (eqb kk 0) (eqb (kk + ll) 0) refl refl
  where
    go : (x y : Bool) → eqb kk 0 ≡ x → eqb (kk + ll) 0 ≡ y → cond y 1 ((kk + 63) / 64 + (ll + 63) / 64) ≡ suc ((cond x ll (ll + 64) - 1) / 64)
    go true true p q = let a = eqb-true kk 0 p in let b = eqb-true (kk + ll) 0 q in omega arith
    go true false p q = let a = eqb-true kk 0 p in omega (arith, eqb-false (kk + ll) 0 q)
    go false true p q = absurd (omega (arith, eqb-false kk 0 p, eqb-true (kk + ll) 0 q))
    go false false p q = omega (arith, eqb-false kk 0 p)

-- the calls of F for a key and a message, by the number of blocks before the final one
pub calls : (key msg : List ℕ) → length key ≤ 32
    → compressions key msg
    ≡ leading ((length (input key msg) - 1) / 64) 0 (input key msg) ++
    record { block = block_at (input key msg) ((length (input key msg) - 1) / 64); counter = length (input key msg); last = true } ∷ []
unfolding compressions
calls key msg h =
    let l = length_input key msg h in
    let b : block_count (length key) (length msg) - 1 ≡ (length (input key msg) - 1) / 64 = rw (blocks (length key) (length msg) h, ← l) (omega arith) in
    rw (b, ← l)

module _ (key msg : List ℕ) (fits : length key ≤ 32) where
  leading_count : (n : ℕ) → length (leading n 0 (input key msg)) ≡ n
  unfolding leading
  leading_count n = length_each n _

  -- as many calls as blocks
  pub count : length (compressions key msg) ≡ block_count (length key) (length msg)
  count =
      let l = length_input key msg fits in
      let n = (length (input key msg) - 1) / 64 in
      let e : length (leading n 0 (input key msg)) ≡ n = leading_count n in
      rw (calls key msg fits, length-append, e, blocks (length key) (length msg) fits, ← l) (omega arith)

  -- the last call's counter
  pub last_counter : (z : Compression) (i : ℕ) → suc i ≡ length (compressions key msg) → (get_or (compressions key msg) i z).counter ≡ length (input key msg)
  last_counter z i e =
      let n = (length (input key msg) - 1) / 64 in
      let k : length (leading n 0 (input key msg)) ≡ n = leading_count n in
      let c : length (compressions key msg) ≡ suc n = rw (calls key msg fits, length-append, k) (omega arith) in
      let j : length (leading n 0 (input key msg)) ≡ i = omega arith in
      rw (calls key msg fits, get_or_at (leading n 0 (input key msg)) _ [] z i j)

pub unkeyed_count : (msg : List ℕ) → 0 < length msg → length (compressions [] msg) ≡ (length msg + 63) / 64
unfolding block_count
unkeyed_count msg h = rw (count [] msg (omega arith), ne_eqb (0 + length msg) 0 (λ e. omega arith)) (omega arith)

pub keyed_count : (key msg : List ℕ) → 0 < length key → length key ≤ 32 → length (compressions key msg) ≡ 1 + (length msg + 63) / 64
unfolding block_count
keyed_count key msg p h = rw (count key msg h, ne_eqb (length key + length msg) 0 (λ e. omega arith)) (omega arith)

pub full_last : (key msg : List ℕ) (k : ℕ) → length key ≤ 32 → length (input key msg) ≡ 64 * suc k
    → compressions key msg
    ≡ leading k 0 (input key msg) ++ record { block = drop (64 * k) (input key msg); counter = length (input key msg); last = true } ∷ []
full_last key msg k h e =
    let d = input key msg in
    let n : (length d - 1) / 64 ≡ k = omega arith in
    let l : length (drop (64 * k) d) ≡ length d - 64 * k = length-drop (64 * k) d in
    let b : block_at d k ≡ drop (64 * k) d = block_full d k (omega arith) ∙ take_all 64 (drop (64 * k) d) (omega arith) in
    rw (calls key msg h, n, b)
