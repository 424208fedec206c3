-- The words of a spool that does not read, in ASCII.
use Rattle.std.specs.Prelude.{ℕ, suc, cond, List, [], ◌∷◌, ◌++◌, eqb}
use Rattle.endian.specs.Lists.{each}
use Rattle.text.specs.Text.{ascii, decimal_of}
use Rattle.spool.specs.Reading.{blocks_in, look_refusal}

-- by the number of a refusal
abbrev pub fault_words : ℕ → List ℕ
fault_words k =
    cond (eqb k 0) (ascii "nothing is wrong (0)")
    (cond (eqb k 40) (ascii "its length is not 1 to 131072 bytes (40)")
    (cond (eqb k 50) (ascii "its length is not 1 to 278 blocks of 512 bytes (50)")
    (cond (eqb k 51) (ascii "its check is not the hash of its bytes (51)")
    (cond (eqb k 52) (ascii "it has another number (52)")
    (cond (eqb k 53) (ascii "it uses a wrong count of bytes, or its filler is not zero (53)")
    (ascii "there is no room for it (54)"))))))

abbrev pub block_words : ℕ → ℕ → List ℕ
block_words i k = ascii "block " ++ decimal_of i ++ ascii ": " ++ fault_words k

-- how many numbers are 0 before the first that is not
unfoldable pub zeros_before : List ℕ → ℕ
zeros_before [] = 0
zeros_before (k ∷ ks) = cond (eqb k 0) (suc (zeros_before ks)) 0

-- how many blocks of a spool are good before the first that is not
unfoldable pub good_before : List ℕ → ℕ
good_before s = zeros_before (each (blocks_in s) (look_refusal s))

-- the length (50), or the earliest block that is bad and its first fault
unfoldable pub refusal_words : List ℕ → List ℕ
refusal_words s =
    let i = good_before s in
    let k = look_refusal s i in
    cond (eqb k 50) (fault_words k) (block_words i k)
