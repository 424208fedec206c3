-- The whole output of a whole input: document 01, "Session printer". Standard input has 256 bytes of record, 32 of UDS and 8 of UDI, and
-- then the bytes that are received.
use Rattle.std.specs.Prelude.{ℕ, ◌+◌, ◌*◌, Bool, true, false, cond, List, [], ◌∷◌, ◌++◌, eqb, ltb, length, take, drop}
use Rattle.endian.specs.Lists.{each, zeros}
use Rattle.endian.specs.Endian.{word}
use Rattle.head.specs.Answers.{Report, refused, continues, whole, stopped, started, reports_whole, Outcome, replied}
use Rattle.head.specs.Begin.{Flash, flash_of, beginning}
use Rattle.head.specs.Gather.{gathered}
use Rattle.head.specs.Act.{plain, acted}
use Rattle.head.specs.declared.State.{State}
use Rattle.printer.specs.Lines.{reply_line, waiting_line, error_line, end_line}

-- each word of the UDS has four bytes, lowest first
abbrev pub words_in : List ℕ → List ℕ
words_in front = each 8 (λ i. word front (256 + 4 * i))

-- empty slots of size 0: change request 3
abbrev pub no_flash : Flash
no_flash = flash_of [] 0 [] 0 (zeros 32)

-- begin on the first 296 bytes, as a call without a reply
unfoldable pub after_begin : List ℕ → List ℕ → Outcome
after_begin front ram = replied 0 [] (beginning (take 256 front) (drop 288 front) no_flash ram (words_in front))

-- a byte is gathered; a frame that is whole with it is acted on at once, with a reply room of 129 zeros, and otherwise there is no reply
unfoldable pub after_byte : State → List ℕ → List ℕ → ℕ → Outcome
after_byte s uds ram b =
    let g = gathered s b in
    cond (reports_whole g.report) (acted g.state (zeros 129) ram uds) (plain g.report 0 g.state [] ram uds)

-- the line of a reply of n bytes; none for no reply
abbrev pub reply_text : List ℕ → ℕ → List ℕ
reply_text room n = cond (eqb n 0) [] (reply_line (take n room))

-- what is printed of a call: its reply, and the last line if the session is then over
abbrev pub call_text : Outcome → List ℕ
call_text o = reply_text o.room o.reply ++ end_line o.report o.cdi

-- a session that does not go on is over; no outcome here reports `whole`
abbrev pub is_over : Report → Bool
is_over (refused k) = true
is_over continues = false
is_over whole = false
is_over (stopped k) = true
is_over (started address n) = true

-- what is printed, and how many bytes of the input are read
pub record Output : Type 0 where
  pub printed : List ℕ
  pub read : ℕ

-- an output behind a text
abbrev pub behind : List ℕ → Output → Output
behind text x = record { printed = text ++ x.printed; read = x.read }

-- from the call o on, with which n bytes were received: no byte is read after the end, and where the input ends first the last line says how many
-- were received
abbrev pub output_from : Outcome → ℕ → List ℕ → Output
output_from o n [] = record { printed = call_text o ++ cond (is_over o.report) [] (waiting_line n); read = 296 + n }
output_from o n (b ∷ bytes) =
    cond (is_over o.report) (record { printed = call_text o; read = 296 + n })
    (behind (call_text o) (output_from (after_byte o.state o.uds o.ram b) (n + 1) bytes))

-- the output of a head with m bytes of RAM, all zero; an input under 296 bytes prints only `E 1`
unfoldable pub output : List ℕ → ℕ → Output
output input m =
    cond (ltb (length input) 296) (record { printed = error_line 1; read = length input })
    (output_from (after_begin (take 296 input) (zeros m)) 0 (drop 296 input))
