-- A block of a design spool: change request 10. What its bytes say, and when it is good at a place of a spool.
use Rattle.std.specs.Prelude.{ℕ, ◌+◌, ◌-◌, Bool, cond, not, ◌&&◌, List, [], eqb, leb, take, drop, Result, Ok, Err}
use Rattle.rfc7693.specs.Rfc7693.{blake2s}
use Rattle.endian.specs.Lists.{zeros, same}
use Rattle.endian.specs.Fields.{Field, field_of, number_in}
use Rattle.spool_block.specs.declared.Fault.{Fault}
use Rattle.spool_block.specs.declared.Fault.TheVariants.{Check, Number, Count}

-- a block has 512 bytes: its number, from 0, how many program bytes it uses, program bytes, and the check
abbrev pub block_size : ℕ
block_size = 512

abbrev pub number_field : Field
number_field = record { from = 0; size = 4 }

abbrev pub count_field : Field
count_field = record { from = 4; size = 4 }

abbrev pub program_field : Field
program_field = record { from = 8; size = 472 }

abbrev pub check_field : Field
check_field = record { from = 480; size = 32 }

-- what the check is of
abbrev pub checked_field : Field
checked_field = record { from = 0; size = 480 }

abbrev pub count_in : List ℕ → ℕ
count_in b = number_in count_field b

-- the program bytes that are used, and those that are not
unfoldable pub used_in : List ℕ → List ℕ
used_in b = take (count_in b) (field_of program_field b)

unfoldable pub filler_in : List ℕ → List ℕ
filler_in b = drop (count_in b) (field_of program_field b)

-- the check is the BLAKE2s-256 of bytes 0 to 479
unfoldable pub good_check : List ℕ → Bool
good_check b = same (field_of check_field b) (blake2s [] (field_of checked_field b) 32)

-- all blocks but the last use 472; the last uses 1 to 472, block 277 at most 328: a program has at most 131,072 bytes
abbrev pub most_at : ℕ → ℕ
most_at i = cond (eqb i 277) 328 472

unfoldable pub good_count : ℕ → ℕ → ℕ → Bool
good_count n i count = cond (eqb (i + 1) n) (leb 1 count && leb count (most_at i)) (eqb count 472)

-- unused bytes are zero
unfoldable pub good_filler : List ℕ → Bool
good_filler b = same (filler_in b) (zeros (472 - count_in b))

-- the first refusal that a block gives at place i of a spool of n blocks: 51 check, 52 number, 53 count or filler; 0 where it is good there
unfoldable pub block_refusal : ℕ → ℕ → List ℕ → ℕ
block_refusal n i b =
    cond (not (good_check b)) 51
    (cond (not (eqb (number_in number_field b) i)) 52
    (cond (not (good_count n i (count_in b) && good_filler b)) 53 0))

abbrev pub is_good : ℕ → ℕ → List ℕ → Bool
is_good n i b = eqb (block_refusal n i b) 0

abbrev pub fault_number : Fault → ℕ
fault_number Check = 51
fault_number Number = 52
fault_number Count = 53

-- 0 for a block that is good
abbrev pub number_of : Result Unit Fault → ℕ
number_of (Ok _) = 0
number_of (Err fault) = fault_number fault
