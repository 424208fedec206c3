-- A message in parts: two parts are as one, and a whole message as one part gives the definition of RFC 7693.
use mathlib.Core.Path.{◌≡◌, refl, ap, sym, ◌∙◌}
use mathlib.Core.Bool.{Bool, true, false, cond, not}
use mathlib.Core.List.{List, [], ◌∷◌, ◌++◌, append_assoc}
use Prim.Native.Nat.{ℕ, ◌+◌, ◌-◌, ◌*◌, ◌/◌, ◌≤◌}
use native.Mathlib.Nat.{zero-add, add-zero}
use native.Mathlib.Omega.{arith}
use lib.Dec.{eqb}
use lib.ListN.{length, drop, length-append, length-drop}
use lib.Seq.{drop-append-le, take_all}
use borrow.Author.Tests.{ne_eqb}
use Rattle.endian.specs.Lists.{padded}
use Rattle.endian.specs.Endian.{first_bytes}
use Rattle.rfc7693.specs.Rfc7693.{words, F, input, block_at, leading, compressions, compressed, initial, blake2s}
use Rattle.blake2s.specs.Steps.{state_after, block_after}
use Rattle.blake2s.specs.Stream.{earlier, total, done, waiting, begun, extended, closed}
use Rattle.blake2s.specs.declared.Context.{Context}
use Rattle.endian.proofs.Lists.{foldl_snoc}
use Rattle.endian.proofs.Words.{bytes_front}
use Rattle.rfc7693.proofs.Blocks.{length_padded, block_last, block_behind}
use Rattle.rfc7693.proofs.Calls.{length_input, calls}
use Rattle.blake2s.proofs.Blocks.{after, after_split}
use Rattle.blake2s.proofs.Contexts.{last_fits, earlier_sum, total_extended, done_extended, waiting_extended, extended_state, extended_block, waits_padded}

module _ (c : Context) (long : length c.block ≡ 64) (s e : List ℕ) where
  pub in_parts : extended (extended c s) e ≡ extended c (s ++ e)
  unfolding extended
  in_parts =
      let d = waiting c ++ s in
      let n = earlier (length d) in
      let x = drop (64 * n) d in
      let w : waiting (extended c s) ≡ x = waiting_extended c long s in
      let o : done (extended c s) ≡ done c + 64 * n = done_extended c long s in
      let v : 64 * n ≤ length d = (last_fits (length d)).0 in
      let a : waiting c ++ (s ++ e) ≡ d ++ e = sym (append_assoc (waiting c) s e) in
      let lx : length (x ++ e) ≡ length d - 64 * n + length e = rw (length-append x e, length-drop (64 * n) d) in
      let ld : length (d ++ e) ≡ length d + length e = length-append d e in
      let m = earlier (length (x ++ e)) in
      let k : earlier (length (d ++ e)) ≡ n + m = rw (ld, lx) (earlier_sum (length d) (length e)) in
      let y : block_at (d ++ e) (n + m) ≡ block_at (x ++ e) m = sym (block_behind (d ++ e) n m) ∙ ap (λ (z : List ℕ). block_at z m) (drop-append-le (64 * n) d e v) in
      let p : c.message + length (s ++ e) ≡ c.message + length s + length e = rw length-append (omega arith) in
      rw (w, o, a, k, y, p, after_split n m c.h (done c) d e v)

-- before the message: what came is the key's block, and all of it waits
begun_total : (key : List ℕ) (nn : ℕ) → total (begun key nn) ≡ cond (eqb (length key) 0) 0 64
unfolding total begun
begun_total key nn = go (eqb (length key) 0)
  where
    go : (b : Bool) → cond (not b) 64 0 + 0 ≡ cond b 0 64
    go true = refl
    go false = refl

begun_done : (key : List ℕ) (nn : ℕ) → done (begun key nn) ≡ 0
unfolding done earlier
begun_done key nn = rw (begun_total key nn) (go (eqb (length key) 0))
  where
    go : (b : Bool) → 64 * ((cond b 0 64 - 1) / 64) ≡ 0
    go true = refl
    go false = refl

pub begun_waits : (key msg : List ℕ) (nn : ℕ) → length key ≤ 32 → waiting (begun key nn) ++ msg ≡ input key msg
unfolding waiting begun input
begun_waits [] msg nn h = rw (begun_total [] nn, begun_done [] nn)
begun_waits (k ∷ ks) msg nn h =
    let e : eqb (length (k ∷ ks)) 0 ≡ false = ne_eqb (length (k ∷ ks)) 0 (λ z. omega arith) in
    let l : length (padded 64 (k ∷ ks)) ≡ 64 = length_padded (k ∷ ks) (omega arith) in
    rw (begun_total (k ∷ ks) nn, begun_done (k ∷ ks) nn, e) (ap (λ (x : List ℕ). x ++ msg) (take_all 64 (padded 64 (k ∷ ks)) (omega arith)))

module _ (key msg : List ℕ) (nn : ℕ) (fits : length key ≤ 32) where
  pub begun_long : length (begun key nn).block ≡ 64
  unfolding begun
  begun_long = length_padded key (omega arith)

  -- the key's block and the message together
  begun_sum : total (begun key nn) + length msg ≡ length (input key msg)
  begun_sum = rw (begun_total key nn, length_input key msg fits) (go (eqb (length key) 0))
    where
      go : (b : Bool) → cond b 0 64 + length msg ≡ cond b (length msg) (length msg + 64)
      go true = zero-add (length msg)
      go false = omega arith

  pub stream_size : (extended (begun key nn) msg).size ≡ nn
  unfolding extended begun
  stream_size = refl

  stream_state : (extended (begun key nn) msg).h ≡ after (earlier (length (input key msg))) (initial (length key) nn) 0 (input key msg)
  unfolding extended begun
  stream_state = rw (begun_done key nn, begun_waits key msg nn fits)

  -- a message that comes as one part
  pub streamed : closed (extended (begun key nn) msg) ≡ blake2s key msg nn
  unfolding closed blake2s compressed earlier
  streamed =
      let c = begun key nn in
      let d = input key msg in
      let n = earlier (length d) in
      let j : waiting c ++ msg ≡ d = begun_waits key msg nn fits in
      let w : waiting (extended c msg) ≡ drop (64 * n) d = rw j at (waiting_extended c begun_long msg) in
      let t : total (extended c msg) ≡ length d = total_extended c begun_long msg ∙ begun_sum in
      let b : padded 64 (drop (64 * n) d) ≡ block_at d n = sym (block_last d n (last_fits (length d)).1) in
      let k : compressions key msg ≡ leading n 0 d ++ record { block = block_at d n; counter = length d; last = true } ∷ [] = calls key msg fits in
      rw (w, t, b, k, foldl_snoc, stream_state, stream_size)

  -- the same from what the parts of the code make; before the message comes the key's block
  abbrev ahead : ℕ
  ahead = cond (not (eqb (length key) 0)) 64 0

  pub in_one : nn ≤ 32
      → first_bytes nn (F (state_after (initial (length key) nn) (padded 64 key) (ahead + 0) msg) (words (block_after (padded 64 key) (ahead + 0) msg)) (ahead + length msg) true)
      ≡ blake2s key msg nn
  unfolding closed begun total
  in_one small =
      let c = begun key nn in
      let h : state_after (initial (length key) nn) (padded 64 key) (ahead + 0) msg ≡ (extended c msg).h = extended_state c begun_long msg in
      let b : block_after (padded 64 key) (ahead + 0) msg ≡ (extended c msg).block = extended_block c begun_long msg in
      let t : ahead + length msg ≡ total (extended c msg) = rw (total_extended c begun_long msg, add-zero) in
      rw (h, b, t) (sym (bytes_front nn 32 _ small) ∙ (rw (waits_padded c begun_long msg, stream_size) at streamed))
