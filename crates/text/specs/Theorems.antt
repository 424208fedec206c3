-- What is proved about texts, besides the promises. The proof is `texts` in proofs/Proved.antt.
use Rattle.std.specs.Prelude.{ℕ, ◌*◌, ◌≤◌, ◌≡◌, List, [], ◌∷◌, ◌++◌, length, take}
use Rattle.endian.specs.Lists.{padded}
use Rattle.text.specs.Text.{ascii, hex_of, decimal_of, added, text_of}
use Rattle.text.specs.declared.Text.{Text}

pub record Texts : Type 0 where
  -- a text that fits is at the front of its bytes, with zeros behind it, and its first `len` bytes are all of it
  pub exact : (s : List ℕ) → length s ≤ 512 → text_of s ≡ record { len = length s; bytes = padded 512 s }
  pub written : (s : List ℕ) → length s ≤ 512 → take (text_of s).len (text_of s).bytes ≡ s
  -- a text is put together part by part
  pub parts : (t : Text) (a b : List ℕ) → added (added t a) b ≡ added t (a ++ b)
  -- a byte has two digits: 33 bytes have 66
  pub two : (s : List ℕ) → length (hex_of s) ≡ 2 * length s
  -- a number has at most 20 digits
  pub few : (n : ℕ) → length (decimal_of n) ≤ 20
  -- digits of bytes and of numbers; `ascii` as numbers
  pub hex : hex_of (0x09 ∷ 0xaf ∷ []) ≡ ascii "09af"
  pub decimal : (decimal_of 0 ≡ ascii "0") × (decimal_of 131072 ≡ ascii "131072") × (decimal_of 18446744073709551615 ≡ ascii "18446744073709551615")
  pub letters : ascii "09afSW \n" ≡ 48 ∷ 57 ∷ 97 ∷ 102 ∷ 83 ∷ 87 ∷ 32 ∷ 10 ∷ []
