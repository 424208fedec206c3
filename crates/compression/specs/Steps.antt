-- What only the promises of private functions cite. No public promise and no theorem rests on it.
use Rattle.std.specs.Prelude.{ℕ, ◌+◌, ◌<◌, List, slice_index}
use mathlib.Core.List.{foldl}
use Rattle.endian.specs.Lists.{each}
use Rattle.rfc7693.specs.Rfc7693.{mixing}

-- each of the n numbers of s is the place of one of sixteen words: an order has 16 places in the message, a row 4 in the working vector
pub record Places (n : ℕ) (s : List ℕ) : Type 0 where
  pub below : (i : ℕ) → i < n → slice_index s i < 16

-- four mixings of a round, from row k of the table on: the column step from row 0, the diagonal step from row 4
unfoldable pub four_mixings : List ℕ → List ℕ → ℕ → List ℕ → List ℕ
four_mixings m s k v = foldl (mixing m s) v (each 4 (λ i. k + i))
