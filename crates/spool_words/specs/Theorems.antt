-- What is proved about the words besides the promises. The proof is `words` in proofs/Proved.antt.
use Rattle.std.specs.Prelude.{ℕ, ◌≤◌, ◌≡◌, List, length}
use Rattle.text.specs.Text.{ascii}
use Rattle.spool_words.specs.Words.{fault_words, block_words, refusal_words}

pub record Words : Type 0 where
  -- every one fits a text, with room for what stands before it
  pub fault_fits : (k : ℕ) → length (fault_words k) ≤ 62
  pub block_fits : (i k : ℕ) → length (block_words i k) ≤ 90
  pub refusal_fits : (s : List ℕ) → length (refusal_words s) ≤ 90
  -- literal words
  pub bad_check : block_words 1 51 ≡ ascii "block 1: its check is not the hash of its bytes (51)"
  pub bad_number : block_words 277 52 ≡ ascii "block 277: it has another number (52)"
