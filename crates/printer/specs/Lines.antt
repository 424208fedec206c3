-- The lines of a session, in ASCII: document 01, "Session printer".
use Rattle.std.specs.Prelude.{ℕ, List, [], ◌++◌}
use Rattle.text.specs.Text.{ascii, hex_of, decimal_of}
use Rattle.head.specs.Answers.{Report, refused, continues, whole, stopped, started}

-- `R `, the reply's bytes
abbrev pub reply_line : List ℕ → List ℕ
reply_line reply = ascii "R " ++ hex_of reply ++ ascii "\n"

-- `W `, how many bytes were received (document 01: heard)
abbrev pub waiting_line : ℕ → List ℕ
waiting_line n = ascii "W " ++ decimal_of n ++ ascii "\n"

-- `S `, the program's size, the CDI
abbrev pub start_line : ℕ → List ℕ → List ℕ
start_line n cdi = ascii "S " ++ decimal_of n ++ ascii " " ++ hex_of cdi ++ ascii "\n"

-- `F `, the number of the stop
abbrev pub stop_line : ℕ → List ℕ
stop_line k = ascii "F " ++ decimal_of k ++ ascii "\n"

-- `E ` and a number
abbrev pub error_line : ℕ → List ℕ
error_line k = ascii "E " ++ decimal_of k ++ ascii "\n"

-- the last line, by what a call reports: none while the session goes on, and none for `whole`, since such a frame is acted on before anything
-- is printed. Document 01 has no line for a refused call, and `headlog` makes none
abbrev pub end_line : Report → List ℕ → List ℕ
end_line (refused k) cdi = error_line k
end_line continues cdi = []
end_line whole cdi = []
end_line (stopped k) cdi = stop_line k
end_line (started address n) cdi = start_line n cdi
