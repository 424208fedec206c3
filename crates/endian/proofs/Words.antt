-- The bytes of words: how many there are, their front, a turn of the loop that writes them, and the word that they give.
use mathlib.Core.Path.{◌≡◌, refl, ap, ◌∙◌}
use mathlib.Core.List.{List, [], ◌∷◌, ◌++◌}
use Prim.Native.Nat.{ℕ, zero, suc, ◌+◌, ◌-◌, ◌*◌, ◌/◌, ◌%◌, ◌^◌, ◌<◌, ◌≤◌}
use native.Mathlib.Nat.{add-zero, le_of_suc-le-suc}
use native.Mathlib.Omega.{arith}
use lib.ListN.{length, get_or, set, take, drop}
use lib.Seq.{get_or-take, get_or-drop}
use Rattle.endian.specs.Lists.{each, zeros, padded, Words}
use Rattle.endian.specs.Endian.{word, byte_of, first_bytes}
use Rattle.endian.proofs.Lists.{length_each, get_or_each, copy_more}

pub bytes_length : (n : ℕ) (ws : List ℕ) → length (first_bytes n ws) ≡ n
unfolding first_bytes
bytes_length n ws = length_each n (λ i. byte_of (get_or ws (i / 4) 0) (i % 4))

take_each : (k n : ℕ) (f : ℕ → ℕ) → k ≤ n → take k (each n f) ≡ each k f
take_each zero n f h = refl
take_each (suc k) zero f h = absurd (omega arith)
take_each (suc k) (suc n) f h = ap (λ (t : List ℕ). f 0 ∷ t) (take_each k n (λ i. f (suc i)) (le_of_suc-le-suc h))

pub bytes_front : (k n : ℕ) (ws : List ℕ) → k ≤ n → take k (first_bytes n ws) ≡ first_bytes k ws
unfolding first_bytes
bytes_front k n ws h = take_each k n (λ i. byte_of (get_or ws (i / 4) 0) (i % 4)) h

pub bytes_more : (n : ℕ) (ws out : List ℕ) (i : ℕ) → i < length out → i < n
    → set (take i (first_bytes n ws) ++ drop i out) i (byte_of (get_or ws (i / 4) 0) (i % 4))
    ≡ take (i + 1) (first_bytes n ws) ++ drop (i + 1) out
unfolding first_bytes
bytes_more n ws out i ho hi =
    let f : ℕ → ℕ = λ i. byte_of (get_or ws (i / 4) 0) (i % 4) in
    let l : i < length (each n f) = rw length_each hi in
    rw (← get_or_each n f 0 i hi) (copy_more out (each n f) i ho l)

-- a word below 2^32 is its four bytes
pub rebuilt : (x : ℕ) → x < 4294967296 → x ≡ x / 1 % 256 + 256 * (x / 256 % 256) + 65536 * (x / 65536 % 256) + 16777216 * (x / 16777216 % 256)
rebuilt x h =
    let a : x / 256 / 256 ≡ x / 65536 = omega arith in
    let b : x / 65536 / 256 ≡ x / 16777216 = omega arith in
    let c : x / 16777216 % 256 ≡ x / 16777216 = omega arith in
    let d : x / 65536 ≡ x / 65536 % 256 + 256 * (x / 16777216) = omega arith in
    let e : x / 256 ≡ x / 256 % 256 + 256 * (x / 65536) = omega arith in
    let f : x ≡ x / 1 % 256 + 256 * (x / 256) = omega arith in
    omega arith

-- and the number that these bytes give is the word
pub word_back : (x : ℕ) → x < 2 ^ 32 → word (first_bytes 4 (x ∷ [])) 0 ≡ x
unfolding word first_bytes
word_back x h = let r = rebuilt x h in omega arith

-- a field of four bytes as a number
pub word_at : (l : List ℕ) (f : ℕ)
    → word (take 4 (drop f l)) 0 ≡ word (get_or l f 0 ∷ get_or l (f + 1) 0 ∷ get_or l (f + 2) 0 ∷ get_or l (f + 3) 0 ∷ []) 0
unfolding word
word_at l f =
    let g : (i : ℕ) → i < 4 → get_or (take 4 (drop f l)) i 0 ≡ get_or l (f + i) 0 = λ i h. get_or-take 4 (drop f l) i 0 h ∙ get_or-drop f l i 0 in
    rw (g 0 (omega arith), g 1 (omega arith), g 2 (omega arith), g 3 (omega arith), add-zero)

zeros_read : (k i : ℕ) → get_or (zeros k) i 0 ≡ 0
zeros_read zero i = refl
zeros_read (suc k) zero = refl
zeros_read (suc k) (suc i) = zeros_read k i

filled_read : (x : List ℕ) (k i : ℕ) → get_or (x ++ zeros k) i 0 ≡ get_or x i 0
filled_read [] k i = zeros_read k i
filled_read (y ∷ x) k zero = refl
filled_read (y ∷ x) k (suc i) = filled_read x k i

-- a word behind whose bytes zeros stand for those that there are not
pub word_filled : (l : List ℕ) (f : ℕ) → word (padded 4 (take 4 (drop f l))) 0 ≡ word l f
unfolding word
word_filled l f =
    let p : List ℕ = take 4 (drop f l) in
    let g : (i : ℕ) → i < 4 → get_or (padded 4 p) i 0 ≡ get_or l (f + i) 0 =
    λ i h. filled_read p (4 - length p) i ∙ get_or-take 4 (drop f l) i 0 h ∙ get_or-drop f l i 0 in
    rw (g 0 (omega arith), g 1 (omega arith), g 2 (omega arith), g 3 (omega arith), add-zero)

-- zeros are words
pub zero_words : (n : ℕ) → Words (zeros n)
zero_words zero = tt
zero_words (suc n) = (omega arith, zero_words n)
