-- Words of 32 bits as four bytes, the least significant first: RFC 7693, 2.4, and document 01, "Reset record and lent memory".
use Rattle.std.specs.Prelude.{ℕ, ◌+◌, ◌*◌, ◌/◌, ◌%◌, ◌^◌, List, get_or}
use Rattle.endian.specs.Lists.{each}

-- the word that the bytes x[i..i+3] give
unfoldable pub word : List ℕ → ℕ → ℕ
word x i = get_or x i 0 + get_or x (i + 1) 0 * 2 ^ 8 + get_or x (i + 2) 0 * 2 ^ 16 + get_or x (i + 3) 0 * 2 ^ 24

-- byte i of a word; 0 from byte 4 on
abbrev pub byte_of : ℕ → ℕ → ℕ
byte_of n i = n / 2 ^ (8 * i) % 2 ^ 8

-- the first n bytes of words, one after the other
unfoldable pub first_bytes : ℕ → List ℕ → List ℕ
first_bytes n ws = each n (λ i. byte_of (get_or ws (i / 4) 0) (i % 4))

-- the 32 bytes of eight words: those of a hash's state, and of the UDS
abbrev pub bytes : List ℕ → List ℕ
bytes ws = first_bytes 32 ws
