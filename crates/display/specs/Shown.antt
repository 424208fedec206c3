-- What a simulated head shows of its session, line by line. On a terminal the blocks are one line, which each block writes again from its
-- start; elsewhere there is one line once all have come.
use Rattle.std.specs.Prelude.{ℕ, Bool, cond, List, [], ◌++◌, eqb, Result, Ok, Err}
use Rattle.protocol.specs.Commands.{blocks_for}
use Rattle.text.specs.Text.{ascii, hex_of, decimal_of}
use Rattle.head.specs.Answers.{refusal_number, stop_number}
use Rattle.head.specs.declared.Refusal.{Refusal}
use Rattle.head.specs.declared.Stop.{Stop}
use Rattle.head.specs.declared.Stop.TheVariants.{UnknownType, HeaderBit, Command, BodyLength, Digest, ProgramSize}
use Rattle.head.specs.declared.Answer.{Answer}
use Rattle.head.specs.declared.Answer.TheVariants.{Continue, Whole, Stopped, Started}
use Rattle.head.specs.declared.Progress.{Progress}

-- a load of n bytes was taken
abbrev pub loading_line : ℕ → List ℕ
loading_line n = ascii "loading " ++ decimal_of n ++ ascii " bytes\n"

-- k of n blocks have come
abbrev pub block_text : ℕ → ℕ → List ℕ
block_text k n = ascii "\rblock " ++ decimal_of k ++ ascii " of " ++ decimal_of n

-- all n blocks have come
abbrev pub all_blocks : Bool → ℕ → List ℕ
all_blocks terminal n = cond terminal (block_text n n ++ ascii "\n") (decimal_of n ++ ascii " blocks\n")

-- a program of n bytes was started
unfoldable pub start_line : ℕ → List ℕ → List ℕ
start_line n cdi = ascii "started, " ++ decimal_of n ++ ascii " bytes, CDI " ++ hex_of cdi ++ ascii "\n"

-- the words of README's table of stops
abbrev pub words_of : Stop → List ℕ
words_of UnknownType = ascii "the record's type is 6 or above"
words_of HeaderBit = ascii "bit 7 or bit 2 of a header is set"
words_of Command = ascii "the command is not allowed now, or unknown"
words_of BodyLength = ascii "the command has another body length"
words_of Digest = ascii "the program's digest is not allowed"
words_of ProgramSize = ascii "the size of the program in flash is 0, over the slot or over the RAM"

unfoldable pub stop_line : Stop → List ℕ
stop_line s = ascii "stopped " ++ decimal_of (stop_number s) ++ ascii ": " ++ words_of s ++ ascii "\n"

-- no call of a simulation is refused; if one were, it would be seen
abbrev pub refusal_line : Refusal → List ℕ
refusal_line r = ascii "refused " ++ decimal_of (refusal_number r) ++ ascii "\n"

-- what begin shows: by its answer. A program from flash starts without a block, and begin makes no frame whole
abbrev pub begin_text : Result Answer Refusal → List ℕ
begin_text (Ok Continue) = ascii "waiting\n"
begin_text (Ok Whole) = []
begin_text (Ok (Stopped s)) = stop_line s
begin_text (Ok (Started x)) = start_line x.size x.cdi
begin_text (Err r) = refusal_line r

-- a byte after which the session goes on: a size that is new is that of a load, a number that is new that of the next block
abbrev pub progress_text : Bool → Progress → Progress → List ℕ
progress_text terminal before after =
    cond (eqb before.size after.size)
    (cond (eqb before.block after.block) [] (cond terminal (block_text after.block (blocks_for after.size)) []))
    (loading_line after.size)

-- the line of blocks is ended if there is one: k have come
abbrev pub line_end : ℕ → List ℕ
line_end k = cond (eqb k 0) [] (ascii "\n")

-- with stop 25 all blocks have come; any other stop may come within the line of blocks, and ends it
abbrev pub before_stop : Bool → Progress → Stop → List ℕ
before_stop terminal before s =
    cond (eqb (stop_number s) 25)
    (all_blocks terminal (blocks_for before.size))
    (cond terminal (line_end before.block) [])

-- what a received byte shows: by the progress before it, the answer and the progress after it. A frame that is whole with it shows nothing until
-- it is acted on
abbrev pub received_text : Bool → Progress → Result Answer Refusal → Progress → List ℕ
received_text terminal before (Ok Continue) after = progress_text terminal before after
received_text terminal before (Ok Whole) after = []
received_text terminal before (Ok (Stopped s)) after = before_stop terminal before s ++ stop_line s
received_text terminal before (Ok (Started x)) after = all_blocks terminal (blocks_for before.size) ++ start_line x.size x.cdi
received_text terminal before (Err r) after = refusal_line r

-- the exit status of a simulation: 0 for a start, the number of a stop, and 1 if it ended with neither
abbrev pub exit_number : Result Answer Refusal → ℕ
exit_number (Ok Continue) = 1
exit_number (Ok Whole) = 1
exit_number (Ok (Stopped s)) = stop_number s
exit_number (Ok (Started x)) = 0
exit_number (Err r) = 1
