-- A program written as a spool: change request 10.
use Rattle.std.specs.Prelude.{ℕ, ◌+◌, ◌*◌, ◌/◌, cond, not, ltb, length}
use mathlib.Core.List.{List, flatten}
use Rattle.endian.specs.Lists.{each}
use Rattle.protocol.specs.Commands.{length_ok}
use Rattle.spool_block.specs.Block.{block_size}
use Rattle.spool_block.specs.Making.{block_of}
use Rattle.spool.specs.Answers.{Outcome, given}
use Rattle.spool.specs.Reading.{part}

-- ceil(n / 472)
abbrev pub spool_blocks : ℕ → ℕ
spool_blocks n = (n + 471) / 472

-- block i, from 0, uses program bytes 472i to 472i + 471, or as many as there are
unfoldable pub spool_of : List ℕ → List ℕ
spool_of p = flatten (each (spool_blocks (length p)) (λ i. block_of i (part 472 p i)))

-- 40: the program's length; then 54: room under 512 bytes a block
unfoldable pub write_refusal : ℕ → ℕ → ℕ
write_refusal n room =
    cond (not (length_ok n)) 40
    (cond (ltb room (block_size * spool_blocks n)) 54 0)

unfoldable pub writing : List ℕ → List ℕ → Outcome
writing p room = given (write_refusal (length p) (length room)) (spool_of p) room
