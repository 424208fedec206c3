-- What is proved about hashing besides the promises. The proof is `streaming` in proofs/Proved.antt.
use Rattle.std.specs.Prelude.{ℕ, ◌≡◌, true, List, [], ◌∷◌, ◌++◌, ◌↔◌, length, get_or, Result, ⊤}
use Rattle.blake2s.specs.Hash.{number_of, kept, hash_number, hash_output}
use Rattle.blake2s.specs.Stream.{in_range, begin_number, begin_context, update_number, update_context, finish_number, finish_output}
use Rattle.blake2s.specs.declared.Refusal.{Refusal}
use Rattle.blake2s.specs.declared.Context.{Context}

-- calls of update, one for each part, each on the context that the one before handed back: the last context,
unfoldable pub run : Context → List (List ℕ) → Context
run c [] = c
run c (s ∷ ss) = run (update_context c s) ss

-- the numbers answered
unfoldable pub numbers : Context → List (List ℕ) → List ℕ
numbers c [] = []
numbers c (s ∷ ss) = update_number c (length s) ∷ numbers (update_context c s) ss

-- and the accepted parts, one after the other
unfoldable pub accepted_parts : Context → List (List ℕ) → List ℕ
accepted_parts c [] = []
accepted_parts c (s ∷ ss) = kept (update_number c (length s)) s [] ++ accepted_parts (update_context c s) ss

-- a hash begun with a key for nn bytes: its context c, after updates that answered these numbers, of which the accepted parts are x
pub record Streamed (key : List ℕ) (nn : ℕ) (c : Context) (answers x : List ℕ) : Type 0 where
  -- the context is in range, and no call has answered 1 or will
  pub range : in_range c ≡ true
  pub updates : (i : ℕ) → get_or answers i 0 ≡ 1 → ⊥
  pub finishes : (n : ℕ) → finish_number c n ≡ 1 → ⊥
  -- finish gives what one call gives for x
  pub accepted : (finish_number c nn ≡ 0) × (hash_number (length key) (length x) nn ≡ 0)
  pub same : (out : List ℕ) → length out ≡ nn → finish_output c out ≡ hash_output key x out

pub record Streaming : Type 0 where
  -- the number settles the answer
  pub answers : (x y : Result ⊤ Refusal) → number_of x ≡ number_of y → x ≡ y
  -- so it is after every accepted begin, for every list of updates, refused ones included
  pub streamed : (key : List ℕ) (nn : ℕ) (parts : List (List ℕ)) → begin_number (length key) nn ≡ 0
      → Streamed key nn (run (begin_context key nn) parts) (numbers (begin_context key nn) parts) (accepted_parts (begin_context key nn) parts)
  -- two parts are as one part of both: they are accepted as it is,
  pub both : (c : Context) (s e : List ℕ)
      → ((update_number c (length s) ≡ 0) × (update_number (update_context c s) (length e) ≡ 0)) ↔ (update_number c (length (s ++ e)) ≡ 0)
  -- and lead to the same context; a context's block is an array of 64 bytes
  pub composed : (c : Context) (s e : List ℕ) → length c.block ≡ 64 → update_number c (length (s ++ e)) ≡ 0
      → update_context (update_context c s) e ≡ update_context c (s ++ e)
  -- what a refused begin hands back is refused by every later call with 1, and no update changes it
  pub refused : (key : List ℕ) (nn : ℕ) → (begin_number (length key) nn ≡ 0 → ⊥) → (s : List ℕ) (n : ℕ)
      → (update_number (begin_context key nn) (length s) ≡ 1) × (update_context (begin_context key nn) s ≡ begin_context key nn) × (finish_number (begin_context key nn) n ≡ 1)
