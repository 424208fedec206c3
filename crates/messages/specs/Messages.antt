-- The words of `./load`, in ASCII. A line of a failure is `load: `, the name of the file or the device, `: ` and one of the messages.
use Rattle.std.specs.Prelude.{ℕ, ◌-◌, ◌*◌, ◌/◌, ◌%◌, min, cond, List, [], ◌∷◌, ◌++◌, eqb, replicate, Option, None, Some}
use Rattle.text.specs.Text.{ascii, hex_of, decimal_of}
use Rattle.protocol.specs.Commands.{length_ok, blocks_for, place_of}
use Rattle.client.specs.Replies.{taking, differing}
use Rattle.client.specs.declared.Difference.{Difference}
use Rattle.client.specs.declared.Difference.TheVariants.{Header, Length, Code, Status, Filler}
use Rattle.upload.specs.Upload.{came_of}
use Rattle.upload.specs.declared.Job.{Job}
use Rattle.upload.specs.declared.Exchange.{Exchange}
use Rattle.upload.specs.declared.Failure.{Failure}
use Rattle.upload.specs.declared.Failure.TheVariants.{ProgramLength, FrameId, SecretLength, Device, NoAnswer, LineClosed, UnexpectedReply, Refused, OtherDigest}

-- ---- parts of a message

abbrev pub block_name : ℕ → ℕ → List ℕ
block_name k n = ascii "block " ++ decimal_of k ++ ascii " of " ++ decimal_of n

unfoldable pub frame_name : Job → ℕ → List ℕ
frame_name job k =
    ascii "frame " ++ decimal_of k
    ++ cond (eqb k 0) (ascii " (the load)") (ascii " (" ++ block_name k (blocks_for job.len) ++ ascii ")")

-- a tick is a tenth of a second
abbrev pub seconds_of : ℕ → List ℕ
seconds_of ticks = decimal_of (ticks / 10) ++ cond (eqb (ticks % 10) 0) (ascii " s") (ascii "." ++ decimal_of (ticks % 10) ++ ascii " s")

abbrev pub came_name : Exchange → List ℕ
came_name x = cond (eqb x.got 0) (ascii "no answer") (ascii "only " ++ hex_of (came_of x) ++ ascii " came in answer")

-- `None` stands for a reply that goes on behind the longest one's end
abbrev pub difference_words : Option Difference → List ℕ
difference_words None = ascii "length differs"
difference_words (Some Header) = ascii "header differs"
difference_words (Some Length) = ascii "length differs"
difference_words (Some Code) = ascii "code differs"
difference_words (Some Status) = ascii "status is not bit 2 of its header"
difference_words (Some Filler) = ascii "filler differs"

-- ---- messages

abbrev pub no_answer : Job → Exchange → List ℕ
no_answer job x =
    came_name x ++ ascii " to " ++ frame_name job x.k ++ ascii " in " ++ seconds_of job.wait
    ++ ascii " of silence; is the head waiting for a program? has it stopped?"

abbrev pub line_closed : Job → Exchange → List ℕ
line_closed job x =
    ascii "the line closed before the reply to " ++ frame_name job x.k
    ++ ascii " was whole; is the cable plugged in? has the head power?"

abbrev pub unexpected : Job → Exchange → List ℕ
unexpected job x =
    ascii "the reply to " ++ frame_name job x.k ++ ascii " is not the expected one (43), its "
    ++ difference_words (differing job.len job.id x.k (came_of x)) ++ ascii ": " ++ hex_of (came_of x)
    ++ ascii "; reset the head and load again"

abbrev pub refused : Job → Exchange → List ℕ
refused job x =
    cond (eqb x.k 0) (ascii "the program does not fit this head's RAM (status 1); load a smaller one")
    (ascii "the head refused " ++ frame_name job x.k ++ ascii " (status 1); reset the head and load again")

abbrev pub other_digest : Job → Exchange → List ℕ
other_digest job x =
    ascii "the head measured another digest, " ++ hex_of (taking job.len job.id x.k (came_of x)).digest
    ++ ascii "; it has not this program, and if it is of type 4 it has started another: reset the head and load again"

abbrev pub length_words : Job → List ℕ
length_words job =
    cond (eqb job.len 0) (ascii "has no byte; a program has 1 to 131072") (ascii "is too long; a program has 1 to 131072 bytes")

abbrev pub message_of : Job → Exchange → Failure → List ℕ
message_of job x ProgramLength = length_words job
message_of job x FrameId = ascii "a frame ID is 0, 1, 2 or 3"
message_of job x SecretLength = ascii "a user secret has exactly 32 bytes"
message_of job x Device = ascii "is not a serial line"
message_of job x NoAnswer = no_answer job x
message_of job x LineClosed = line_closed job x
message_of job x UnexpectedReply = unexpected job x
message_of job x Refused = refused job x
message_of job x OtherDigest = other_digest job x

-- ---- a load

abbrev pub loaded_line : Job → List ℕ
loaded_line job = ascii "loaded " ++ decimal_of job.len ++ ascii " bytes, digest " ++ hex_of job.digest ++ ascii "\n"

-- the last reply is the same where the head starts and where it stops with 25
abbrev pub started_line : List ℕ
started_line = ascii "a head of type 4 has started it; one of type 5 has if its record allows this digest, and shows its lamp (25) otherwise\n"

-- ---- the line that is rewritten meanwhile

-- 32 places, so many of them filled
abbrev pub bar_of : ℕ → List ℕ
bar_of filled = replicate filled 35 ++ replicate (32 - filled) 46

abbrev pub count_of : ℕ → ℕ → List ℕ
count_of done n = decimal_of done ++ ascii " of " ++ decimal_of n ++ ascii " blocks, " ++ decimal_of (100 * done / n) ++ ascii "%"

-- nothing before a second has passed
abbrev pub rate_of : ℕ → ℕ → List ℕ
rate_of bytes seconds = cond (eqb seconds 0) [] (ascii ", " ++ decimal_of (bytes / seconds) ++ ascii " bytes/s")

-- `done` blocks of a program of n bytes; the line goes back to its beginning (13) and clears what stands behind it (27, `[K`)
abbrev pub line_at : ℕ → ℕ → ℕ → List ℕ
line_at n done seconds =
    13 ∷ ascii "[" ++ bar_of (32 * done / blocks_for n) ++ ascii "] " ++ count_of done (blocks_for n) ++ rate_of (min n (place_of done)) seconds
    ++ 27 ∷ ascii "[K"

unfoldable pub progress_line : ℕ → ℕ → ℕ → List ℕ
progress_line n done seconds = cond (length_ok n) (line_at n (min done (blocks_for n)) seconds) []
