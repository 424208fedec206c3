-- The calls of update after an accepted begin. Each context reached is that of the key and of one part, the accepted ones joined.
use mathlib.Core.Path.{◌≡◌, refl}
use mathlib.Core.Bool.{Bool, true, false, cond}
use mathlib.Core.List.{List, [], ◌∷◌, ◌++◌, append-nil, append_assoc}
use Prim.Native.Nat.{ℕ, zero, suc, ◌+◌, ◌<◌, ◌≤◌}
use native.Mathlib.Nat.{zero-add}
use native.Mathlib.Omega.{arith}
use lib.Dec.{ltb, eqb}
use lib.ListN.{length, get_or, length-append}
use borrow.Author.Tests.{ltb-true, ltb-false}
use Rattle.endian.specs.Lists.{padded}
use Rattle.rfc7693.specs.Rfc7693.{input, block_at}
use Rattle.blake2s.specs.Hash.{kept}
use Rattle.blake2s.specs.Stream.{earlier, begun, extended, in_range, update_number, update_context}
use Rattle.blake2s.specs.Theorems.{run, numbers, accepted_parts}
use Rattle.blake2s.specs.declared.Context.{Context}
use Rattle.rfc7693.proofs.Blocks.{length_padded, padded_full, block_last}
use Rattle.blake2s.proofs.Blocks.{after_zero}
use Rattle.blake2s.proofs.Numbers.{size_range, update_message, update_accepted}
use Rattle.rfc7693.proofs.Calls.{length_input}
use Rattle.blake2s.proofs.Streams.{begun_waits, begun_long, in_parts, stream_size}

-- the block of the key alone
key_block : (key : List ℕ) → length key ≤ 32 → block_at (input key []) 0 ≡ padded 64 key
unfolding input
key_block [] h = block_last [] 0 (omega arith)
key_block (k ∷ ks) h =
    let l : length (padded 64 (k ∷ ks)) ≡ 64 = length_padded (k ∷ ks) (omega arith) in
    rw (append-nil, block_last (padded 64 (k ∷ ks)) 0 (omega arith), padded_full (padded 64 (k ∷ ks)) l)

key_fits : (key : List ℕ) → length key ≤ 32 → length (input key []) ≤ 64
key_fits key h = rw (length_input key [] h) (go (eqb (length key) 0))
  where
    go : (b : Bool) → cond b 0 64 ≤ 64
    go true = omega arith
    go false = omega arith

-- no byte changes nothing
pub begun_nil : (key : List ℕ) (nn : ℕ) → length key ≤ 32 → extended (begun key nn) [] ≡ begun key nn
unfolding extended begun earlier
begun_nil key nn h =
    let l = key_fits key h in
    let z : earlier (length (input key [])) ≡ 0 = omega arith in
    rw (begun_waits key [] nn h, z, after_zero, key_block key h)

-- a number that is not 1 in front of numbers that are not 1
not_first : (k : ℕ) (ns : List ℕ) → (k ≡ 1 → ⊥) → ((i : ℕ) → get_or ns i 0 ≡ 1 → ⊥) → (i : ℕ) → get_or (k ∷ ns) i 0 ≡ 1 → ⊥
not_first k ns p q zero = p
not_first k ns p q (suc i) = q i

-- the greatest length of a message
abbrev most : ℕ
most = 4294967295

module _ (key : List ℕ) (nn : ℕ) (fits : length key ≤ 32) (some : 0 < nn) (small : nn ≤ 32) where
  -- the context after a key and the bytes x
  abbrev at : List ℕ → Context
  at x = extended (begun key nn) x

  at_message : (x : List ℕ) → (at x).message ≡ length x
  unfolding extended begun
  at_message x = zero-add (length x)

  pub at_range : (x : List ℕ) → in_range (at x) ≡ true
  at_range x =
      let e = stream_size key x nn fits in
      size_range (at x) (omega arith) (omega arith)

  -- a call of update, accepted or refused
  by_update : (x s : List ℕ) (P : ℕ → Context → Type 0) → (length x + length s ≤ most → P 0 (at (x ++ s))) → (most < length x + length s → P 10 (at x))
      → P (update_number (at x) (length s)) (update_context (at x) s)
  unfolding update_context
  by_update x s P f g = go (ltb most (length x + length s)) refl
    where
      go : (t : Bool) → ltb most (length x + length s) ≡ t → P (update_number (at x) (length s)) (update_context (at x) s)
      go true e =
          let m = at_message x in
          let h = ltb-true most (length x + length s) e in
          let k : update_number (at x) (length s) ≡ 10 = update_message (at x) (length s) (at_range x) (omega arith) in
          rw k (g h)
      go false e =
          let m = at_message x in
          let h = ltb-false most (length x + length s) e in
          let k : update_number (at x) (length s) ≡ 0 = update_accepted (at x) (length s) (at_range x) (omega arith) in
          rw (k, in_parts (begun key nn) (begun_long key [] nn fits) x s) (f h)

  -- any calls of update, from the context of the bytes x on
  pub record Run (x : List ℕ) (c : Context) (ns : List ℕ) (more : List ℕ) : Type 0 where
    pub last : c ≡ at (x ++ more)
    pub short : length (x ++ more) ≤ most
    pub quiet : (i : ℕ) → get_or ns i 0 ≡ 1 → ⊥

  pub runs : (ss : List (List ℕ)) (x : List ℕ) → length x ≤ most → Run x (run (at x) ss) (numbers (at x) ss) (accepted_parts (at x) ss)
  unfolding run numbers accepted_parts
  runs [] x h = record { last = rw append-nil; short = rw append-nil h; quiet = λ i e. omega arith }
  runs (s ∷ ss) x h =
      by_update x s (λ (k : ℕ) (c : Context). Run x (run c ss) (k ∷ numbers c ss) (kept k s [] ++ accepted_parts c ss))
      (λ l.
      let r = runs ss (x ++ s) (rw length-append l) in
      record {
        last = rw (← append_assoc x s (accepted_parts (at (x ++ s)) ss)) r.last;
        short = rw (← append_assoc x s (accepted_parts (at (x ++ s)) ss)) r.short;
        quiet = not_first 0 (numbers (at (x ++ s)) ss) (λ e. omega arith) r.quiet;
      })
      (λ l.
      let r = runs ss x h in
      record {
        last = r.last;
        short = r.short;
        quiet = not_first 10 (numbers (at x) ss) (λ e. omega arith) r.quiet;
      })
