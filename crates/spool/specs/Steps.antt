-- What only the promises of private functions cite. No public promise and no theorem rests on it.
use Rattle.std.specs.Prelude.{ℕ, suc, ◌+◌, cond, ltb, length, drop, map}
use mathlib.Core.List.{List, [], ◌∷◌, flatten}
use Rattle.spool_block.specs.Block.{used_in, block_refusal}

-- what blocks give at the places from i on of a spool of n
abbrev pub verdicts : ℕ → ℕ → List (List ℕ) → List ℕ
verdicts n i [] = []
verdicts n i (b ∷ bs) = block_refusal n i b ∷ verdicts n (suc i) bs

-- what those of a spool give from a place on
abbrev pub verdicts_from : List (List ℕ) → ℕ → List ℕ
verdicts_from bs i = verdicts (length bs) i (drop i bs)

-- the place behind place i; behind the last block there is none
unfoldable pub place_after : List (List ℕ) → ℕ → ℕ
place_after bs i = cond (ltb i (length bs)) (i + 1) i

-- what blocks use, one after the other
abbrev pub uses_of : List (List ℕ) → List ℕ
uses_of bs = flatten (map used_in bs)
