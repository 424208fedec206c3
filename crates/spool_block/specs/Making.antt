-- A block as it is written: change request 10.
use Rattle.std.specs.Prelude.{ℕ, List, [], ◌++◌, length}
use Rattle.rfc7693.specs.Rfc7693.{blake2s}
use Rattle.endian.specs.Lists.{padded}
use Rattle.endian.specs.Fields.{word_bytes}

-- bytes 0 to 479 of the block with a number and program bytes x, of which there are at most 472
unfoldable pub checked_part : ℕ → List ℕ → List ℕ
checked_part number x = word_bytes number ++ word_bytes (length x) ++ padded 472 x

-- and behind them their check
unfoldable pub block_of : ℕ → List ℕ → List ℕ
block_of number x = let front = checked_part number x in front ++ blake2s [] front 32
