-- Parts of a program and of a reply, copied over zeros.
use Prim.Native.Nat.{ℕ, suc, ◌+◌, ◌≤◌, min}
use mathlib.Core.Path.{◌≡◌, refl, sym, ap, ◌∙◌}
use mathlib.Core.Bool.{Bool, true, false}
use mathlib.Core.List.{List, [], ◌∷◌, ◌++◌}
use native.Mathlib.Nat.{suc-sub-suc}
use native.Mathlib.Omega.{arith}
use lib.Dec.{leb}
use lib.ListN.{length, take, drop, set, replicate}
use lib.Seq.{take_all, paste}
use borrow.Author.Tests.{leb-true, leb-false}
use Rattle.endian.proofs.Lists.{drop_replicate}
use Rattle.endian.specs.Lists.{padded}
use Rattle.std.specs.Prelude.{Option, None, Some, unwrap_or}
use Rattle.framing.specs.Header.{Writing}
use Rattle.framing.specs.Answers.{writing_of}
use Rattle.protocol.specs.Replies.{put_in, written}

-- the byte that a writer of headers answers
pub by_writer : (w : Option ℕ) (v : Writing) → writing_of w ≡ v → unwrap_or w 0 ≡ written v
by_writer None v e = ap written e
by_writer (Some b) v e = ap written e

-- bytes over the first of zeros
over_zeros : (s : List ℕ) (n : ℕ) → s ++ drop (length s) (replicate n 0) ≡ padded n s
over_zeros s n = rw drop_replicate

-- and after a command byte
pub after_command : (c : ℕ) (s : List ℕ) → paste (c ∷ replicate 127 0) 1 s (length s) ≡ padded 128 (c ∷ s)
after_command c s =
    let e : 1 + length s ≡ suc (length s) = omega arith in
    rw (e, take_all (length s) s (omega arith)) (ap (λ (x : List ℕ). c ∷ x) (over_zeros s 127) ∙ rw (suc-sub-suc 127 (length s)))

-- as many bytes as there are, of 127
pub first_127 : (k : ℕ) (l : List ℕ) → k ≡ min 127 (length l) → take k l ≡ take 127 l
first_127 k l e = go (leb 127 (length l)) refl
  where
    go : (t : Bool) → leb 127 (length l) ≡ t → take k l ≡ take 127 l
    go true h = let m = leb-true 127 (length l) h in let k127 : k ≡ 127 = omega arith in ap (λ (i : ℕ). take i l) k127
    go false h = let m = leb-false 127 (length l) h in take_all k l (omega arith) ∙ sym (take_all 127 l (omega arith))

-- a command at the front of a room, its header first
pub put_command : (room body : List ℕ) (h : ℕ) → 129 ≤ length room → length body ≡ 128
    → paste (set room 0 h) 1 body (length body) ≡ put_in room (h ∷ body)
unfolding put_in
put_command [] body h l e = absurd (omega arith)
put_command (x ∷ xs) body h l e = rw (e, take_all 128 body (omega arith))
