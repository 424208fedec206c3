-- A field of four bytes as a number.
use mathlib.Core.Path.{◌≡◌, sym, ap, ◌∙◌}
use mathlib.Core.List.{List, ◌++◌, append-nil}
use Prim.Native.Nat.{ℕ, ◌+◌, ◌<◌}
use native.Mathlib.Nat.{add-zero}
use native.Mathlib.Omega.{arith}
use lib.ListN.{length, get_or, take, drop, replicate}
use lib.Seq.{get_or-take, get_or-drop, take-length}
use Rattle.endian.specs.Endian.{word}
use Rattle.endian.specs.Lists.{padded}
use Rattle.endian.proofs.Lists.{drop_replicate}

pub word_in : (l : List ℕ) (f : ℕ) → word (take 4 (drop f l)) 0 ≡ word l f
unfolding word
word_in l f =
    let g : (i : ℕ) → i < 4 → get_or (take 4 (drop f l)) i 0 ≡ get_or l (f + i) 0 = λ i h. get_or-take 4 (drop f l) i 0 h ∙ get_or-drop f l i 0 in
    rw (g 0 (omega arith), g 1 (omega arith), g 2 (omega arith), g 3 (omega arith), add-zero)

-- zeros to the front of which s is put
pub filled : (s : List ℕ) (n : ℕ) → s ++ drop (length s) (drop 0 (replicate n 0)) ≡ padded n s
filled s n = rw (drop_replicate (length s) n 0)

-- what is lent as a record of 256 bytes is that record
pub whole_front : (s : List ℕ) → length s ≡ 256 → padded 256 (take 256 s) ≡ s
whole_front s e = let t : take 256 s ≡ s = ap (λ (k : ℕ). take k s) (sym e) ∙ take-length s in rw (t, e) (append-nil s)
