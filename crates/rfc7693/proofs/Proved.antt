-- The theorems of specs/Theorems.antt.
use mathlib.Core.Path.{◌≡◌, refl, ap, ◌∙◌}
use mathlib.Core.Bool.{true}
use mathlib.Core.List.{List, [], ◌∷◌}
use Prim.Native.Nat.{ℕ, suc, ◌+◌, ◌^◌}
use native.Mathlib.Omega.{arith}
use lib.ListN.{length, take}
use borrow.Author.Tests.{ne_eqb}
use Rattle.endian.specs.Lists.{each, padded}
use Rattle.endian.specs.Endian.{word, first_bytes}
use Rattle.rfc7693.specs.Rfc7693.{rotr, words, iv, sigma, added, xor_rotated, G, work_vector, round, rounds, F, input, block_at, block_count, leading, compressions, compressed, initial, blake2s}
use Rattle.rfc7693.specs.Theorems.{message, Examples, printed, Trace, Hashing}
use Rattle.rfc7693.proofs.Orders.{order_length, order_once, over_table}
use Rattle.rfc7693.proofs.Vectors.{laid_out_is}
use Rattle.rfc7693.proofs.Calls.{length_input, count, last_counter, unkeyed_count, keyed_count, full_last}

pub examples : Examples
unfolding rotr word words first_bytes iv sigma added xor_rotated G work_vector round rounds F input block_at block_count leading compressions compressed initial blake2s
examples = record { abc = refl; keyed = refl }

-- the vectors of the rounds, each made from the one before, so that no round is computed twice
unfoldable vectors : List ℕ → List (List ℕ) → List ℕ → List (List ℕ)
vectors m [] v = v ∷ []
vectors m (s ∷ ss) v = v ∷ vectors m ss (round m s v)

after_rounds : (m : List ℕ) (ss : List (List ℕ)) (v : List ℕ) → each (suc (length ss)) (λ i. rounds m (take i ss) v) ≡ vectors m ss v
unfolding rounds vectors
after_rounds m [] v = refl
after_rounds m (s ∷ ss) v = ap (λ (l : List (List ℕ)). v ∷ l) (after_rounds m ss (round m s v))

as_printed : vectors (words (padded 64 message)) sigma (work_vector (initial 0 32) 3 true) ≡ printed
unfolding rotr word words iv sigma added xor_rotated G work_vector round initial vectors printed
as_printed = refl

pub trace : Trace
unfolding rotr word words iv sigma added xor_rotated G work_vector round rounds F input block_at block_count leading compressions initial
trace = record { call = refl; m = refl; v = after_rounds _ sigma _ ∙ as_printed; h = refl }

pub hashing : Hashing
unfolding sigma block_count
hashing = record {
  orders = refl;
  permutation = λ r h. (order_length r h, order_once r h);
  by_table = over_table;
  empty = count [] [] (omega arith);
  unkeyed = unkeyed_count;
  keyed = keyed_count;
  full = full_last;
  longest = λ key msg p h e z i j.
      let l : length (input key msg) ≡ length msg + 64 = rw (length_input key msg h, ne_eqb (length key) 0 (λ o. omega arith)) in
      last_counter key msg h z i j ∙ omega arith;
  carry = λ h f e. (rw (← laid_out_is h (2 ^ 32 + 63) f e), rw (← laid_out_is h (2 ^ 32 + 63) f e));
}
