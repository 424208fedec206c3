-- What only the promises of private functions cite. No public promise and no theorem rests on it.
use Rattle.std.specs.Prelude.{ℕ, ◌+◌, ◌-◌, ◌*◌, Bool, List, ◌++◌, length, take}
use Rattle.endian.specs.Lists.{each}
use Rattle.rfc7693.specs.Rfc7693.{bb, block_at, leading, compressed}
use Rattle.blake2s.specs.Stream.{earlier}

-- the state after the first n blocks of d, each with the flag f; the first has the counter t
unfoldable pub compressed_blocks : List ℕ → ℕ → List ℕ → ℕ → Bool → List ℕ
compressed_blocks h t d n f = compressed h (each n (λ i. record { block = block_at d i; counter = t + bb * i; last = f }))

-- what waits in the block where n bytes have come, and then s
abbrev pub waiting_then : List ℕ → ℕ → List ℕ → List ℕ
waiting_then block n s = take (n - bb * earlier n) block ++ s

-- the state after s, where n bytes came before it: all blocks but the last are compressed
unfoldable pub state_after : List ℕ → List ℕ → ℕ → List ℕ → List ℕ
state_after h block n s = let d = waiting_then block n s in compressed h (leading (earlier (length d)) (bb * earlier n) d)

-- and the block that then waits
unfoldable pub block_after : List ℕ → ℕ → List ℕ → List ℕ
block_after block n s = let d = waiting_then block n s in block_at d (earlier (length d))
