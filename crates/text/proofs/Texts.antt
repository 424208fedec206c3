-- Parts of a text, one behind the other.
use Prim.Native.Nat.{ℕ, zero, suc, ◌+◌, ◌-◌, ◌<◌, ◌≤◌}
use native.Mathlib.Omega.{arith}
use native.Mathlib.Nat.{not-suc-le-zero}
use native.Mathlib.Numerals.{add-one}
use mathlib.Core.Path.{◌≡◌, refl, ap, sym, ◌∙◌}
use mathlib.Core.List.{List, [], ◌∷◌, ◌++◌, append_assoc, append-nil}
use lib.ListN.{length, set, get_or, drop, replicate, length-append}
use lib.Seq.{set-append_seam, drop-cons}
use borrow.Author.Tests.{lt-ltb}
use Rattle.endian.specs.Lists.{padded}
use Rattle.text.specs.Text.{hex_of, with_byte, added, text_of}
use Rattle.text.specs.declared.Text.{Text}

pub parts : (t : Text) (a b : List ℕ) → added (added t a) b ≡ added t (a ++ b)
unfolding added
parts t [] b = refl
parts t (x ∷ a) b = parts (with_byte t x) a b

-- a text, and a part behind it
pub behind : (a b : List ℕ) → added (text_of a) b ≡ text_of (a ++ b)
unfolding text_of
behind a b = parts _ a b

-- a part in an empty text
pub from_empty : (t r : Text) (a : List ℕ) → t ≡ text_of [] → r ≡ added t a → r ≡ text_of a
from_empty t r a e f = f ∙ ap (λ (x : Text). added x a) e ∙ behind [] a

-- the i-th byte of s before those that are left
pub next : (t : Text) (s : List ℕ) (i : ℕ) → i < length s → added (added t (get_or s i 0 ∷ [])) (drop (i + 1) s) ≡ added t (drop i s)
unfolding added
next t s i h = rw (add-one, drop-cons s i 0 h)

pub next_hex : (t : Text) (s : List ℕ) (i : ℕ) → i < length s
    → added (added t (hex_of (get_or s i 0 ∷ []))) (hex_of (drop (i + 1) s)) ≡ added t (hex_of (drop i s))
unfolding added
next_hex t s i h = rw (add-one, drop-cons s i 0 h)

-- one of those that are left
pub one_of_exactly : (t : Text) (b n : ℕ) → 0 < n → added (added t (b ∷ [])) (replicate (n - 1) b) ≡ added t (replicate n b)
unfolding added
one_of_exactly t b zero h = absurd (not-suc-le-zero h)
one_of_exactly t b (suc n) h = let e : suc n - 1 ≡ n = omega arith in rw e

-- ---- a text that fits

abbrev pub fitted : List ℕ → Text
fitted s = record { len = length s; bytes = padded 512 s }

seam : (t : List ℕ) (b k : ℕ) → set (t ++ replicate (suc k) 0) (length t) b ≡ (t ++ b ∷ []) ++ replicate k 0
seam t b k = set-append_seam t 0 (replicate k 0) b ∙ sym (append_assoc t (b ∷ []) (replicate k 0))

one_more : (s : List ℕ) (b : ℕ) → length s < 512 → with_byte (fitted s) b ≡ fitted (s ++ b ∷ [])
unfolding with_byte
one_more s b h =
    let e : 512 - length s ≡ suc (511 - length s) = omega arith in
    let n : length (s ++ b ∷ []) ≡ length s + 1 = length-append s (b ∷ []) in
    let d : 512 - (length s + 1) ≡ 511 - length s = omega arith in
    rw (lt-ltb (length s) 512 h, n, d, e, seam s b (511 - length s))

grown : (a s : List ℕ) → length a + length s ≤ 512 → added (fitted a) s ≡ fitted (a ++ s)
unfolding added
grown a [] h = ap fitted (sym (append-nil a))
grown a (b ∷ s) h =
    let l : length (a ++ b ∷ []) ≡ length a + 1 = length-append a (b ∷ []) in
    ap (λ (t : Text). added t s) (one_more a b (omega arith))
    ∙ grown (a ++ b ∷ []) s (omega arith)
    ∙ ap fitted (append_assoc a (b ∷ []) s)

pub exact : (s : List ℕ) → length s ≤ 512 → text_of s ≡ fitted s
unfolding text_of added
exact s h = grown [] s (omega arith)
