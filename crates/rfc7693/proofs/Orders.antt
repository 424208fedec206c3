-- The tables of the rounds: each message order has sixteen entries, each number below sixteen once, by a computed test over the table; the
-- mixings at the rows of positions make the RFC's round.
use mathlib.Core.Path.{◌≡◌, refl}
use mathlib.Core.Bool.{Bool}
use mathlib.Core.List.{List, []}
use Prim.Native.Nat.{ℕ, ◌<◌}
use lib.Dec.{eqb, eqb→eq}
use lib.ListN.{length, get_or}
use Rattle.rfc7693.specs.Rfc7693.{sigma, round, positions, mixing, TableRound}
use Rattle.rfc7693.specs.Theorems.{times}
use Rattle.rfc7693.proofs.Table.{below, below_at, all_at}

sixteen : List ℕ → Bool
sixteen s = eqb (length s) 16

once : List ℕ → Bool
once s = below 16 (λ k. eqb (times k s) 1)

module _ (r : ℕ) (h : r < 10) where
  pub order_length : length (get_or sigma r []) ≡ 16
  unfolding sigma sixteen
  order_length = eqb→eq (length (get_or sigma r [])) 16 (all_at sixteen sigma [] tt r h)

  pub order_once : (k : ℕ) → k < 16 → times k (get_or sigma r []) ≡ 1
  unfolding sigma once times
  order_once k b = eqb→eq (times k (get_or sigma r [])) 1 (below_at 16 (λ j. eqb (times j (get_or sigma r [])) 1) (all_at once sigma [] tt r h) k b)

-- the round over the table is the RFC's
pub over_table : TableRound
unfolding mixing positions round
over_table m s v = refl
