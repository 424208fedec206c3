-- The output turn by turn: what the promises of `open` and `advance` cite. That the turns fold to the output of specs/Output.antt is `folds` in
-- specs/Theorems.antt.
use Rattle.std.specs.Prelude.{ℕ, ◌+◌, ◌-◌, ◌^◌, Bool, cond, Option, None, Some, List, [], ◌∷◌, eqb, ltb, length, take, drop}
use Rattle.endian.specs.Lists.{zeros, padded}
use Rattle.head.specs.Answers.{Report, Outcome, refusal_number, report_of, cdi_in}
use Rattle.std.specs.declared.ops.ControlFlow.{ControlFlow}
use Rattle.std.specs.declared.ops.ControlFlow.TheVariants.{Continue, Break}
use Rattle.head.specs.declared.Refusal.{Refusal}
use Rattle.head.specs.declared.Answer.{Answer}
use Rattle.text.specs.Text.{text_of}
use Rattle.printer.specs.Lines.{waiting_line, error_line, end_line}
use Rattle.printer.specs.Output.{after_begin, after_byte, call_text, is_over, Output, behind}
use Rattle.printer.specs.declared.turns.Session.{Session}
use Rattle.printer.specs.declared.turns.Turn.{Turn}

-- the session goes on after what a call reports, or has ended with it
abbrev pub going : Report → Session → ControlFlow Session Session
going r s = cond (is_over r) (Break s) (Continue s)

-- the session that is left, whether it goes on or has ended
abbrev pub left : ControlFlow Session Session → Session
left (Continue s) = s
left (Break s) = s

-- the turn of a call, with which n bytes were received
abbrev pub turn_of : ℕ → Outcome → Turn
turn_of n o =
    record { text = text_of (call_text o); session = going o.report (record { state = o.state; words = o.uds; received = n }) }

-- the turn of a call that was refused, and of one without a reply
abbrev pub refused_turn : Session → Refusal → Turn
refused_turn s r = record { text = text_of (error_line (refusal_number r)); session = Break s }

abbrev pub unreplied_turn : Session → Answer → Turn
unreplied_turn s a = record { text = text_of (end_line (report_of a) (cdi_in a)); session = going (report_of a) s }

-- begin's turn, with all of the first 296 bytes
abbrev pub begin_turn : List ℕ → List ℕ → Turn
begin_turn front ram = turn_of 0 (after_begin front ram)

-- the first turn, with so many bytes got: under 296 that is all
unfoldable pub opening : List ℕ → ℕ → List ℕ → Turn
opening front got ram =
    cond (ltb got 296) (record { text = text_of (error_line 1); session = Break (left (begin_turn front ram).session) }) (begin_turn front ram)

-- the input has ended
abbrev pub waited : Session → Turn
waited s = record { text = text_of (waiting_line s.received); session = Break s }

-- the count has 64 bits: a session that has received 2^64 - 1 bytes ends as if the input did
abbrev pub is_full : Session → Bool
is_full s = eqb s.received (2 ^ 64 - 1)

-- every other turn: of a received byte, or of the end of the input
abbrev pub turned : Session → Option ℕ → List ℕ → Turn
turned s None ram = waited s
turned s (Some b) ram = cond (is_full s) (waited s) (turn_of (s.received + 1) (after_byte s.state s.words ram b))

-- and what RAM then holds
abbrev pub ram_after : Session → Option ℕ → List ℕ → List ℕ
ram_after s None ram = ram
ram_after s (Some b) ram = cond (is_full s) ram (after_byte s.state s.words ram b).ram

-- ---- the loop of `headlog`

-- what is written of a turn
abbrev pub lines : Turn → List ℕ
lines t = take t.text.len t.text.bytes

-- from a session on, with n bytes read: until it has ended, the next byte or the end of the input makes the next turn
abbrev pub goes : List ℕ → ControlFlow Session Session → List ℕ → ℕ → Output
goes bytes (Break s) ram n = record { printed = []; read = n }
goes [] (Continue s) ram n = record { printed = lines (turned s None ram); read = n }
goes (b ∷ bytes) (Continue s) ram n =
    let t = turned s (Some b) ram in
    behind (lines t) (goes bytes t.session (ram_after s (Some b) ram) (n + 1))

-- from the turn t on
abbrev pub loop : Turn → List ℕ → ℕ → List ℕ → Output
loop t ram n bytes = behind (lines t) (goes bytes t.session ram n)

-- the first turn takes the first 296 bytes at once
abbrev pub turns : List ℕ → ℕ → Output
turns input m =
    let front = take 296 input in
    loop (opening (padded 296 front) (length front) (zeros m)) (zeros m) (length front) (drop 296 input)
