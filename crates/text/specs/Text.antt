-- Texts in ASCII: the digits of bytes and numbers, and a text as the front of 512 bytes.
use Rattle.std.specs.Prelude.{ℕ, zero, suc, ◌+◌, ◌/◌, ◌%◌, cond, List, [], ◌∷◌, ◌++◌, ltb, set}
use Prim.Native.Char.{code}
use Prim.Native.String.{String, [] as []ˢ, ◌∷◌ as ◌∷ˢ◌}
use Rattle.endian.specs.Lists.{zeros}
use Rattle.text.specs.declared.Text.{Text}

-- the bytes of a text in ASCII
abbrev pub ascii : String → List ℕ
ascii []ˢ = []
ascii (c ∷ˢ s) = code c ∷ ascii s

-- a digit below 16: 48 is `0` and 97 is `a`
abbrev pub hex_digit : ℕ → ℕ
hex_digit d = cond (ltb d 10) (48 + d) (87 + d)

-- bytes in lower-case hex, two digits each
abbrev pub hex_of : List ℕ → List ℕ
hex_of [] = []
hex_of (b ∷ s) = hex_digit (b / 16) ∷ hex_digit (b % 16) ∷ hex_of s

-- a number below 10^k in decimal, without leading zeros
abbrev pub decimal_in : ℕ → ℕ → List ℕ
decimal_in zero n = []
decimal_in (suc k) n = cond (ltb n 10) ((48 + n) ∷ []) (decimal_in k (n / 10) ++ (48 + n % 10) ∷ [])

-- a number of 64 bits has at most 20 digits
unfoldable pub decimal_of : ℕ → List ℕ
decimal_of n = decimal_in 20 n

-- ---- a text

-- a byte goes behind the text; where there is no room it is left out
unfoldable pub with_byte : Text → ℕ → Text
with_byte t b = cond (ltb t.len 512) (record { len = t.len + 1; bytes = set t.bytes t.len b }) t

unfoldable pub added : Text → List ℕ → Text
added t [] = t
added t (b ∷ s) = added (with_byte t b) s

unfoldable pub text_of : List ℕ → Text
text_of s = added (record { len = 0; bytes = zeros 512 }) s
