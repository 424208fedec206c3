-- A room that is filled from the front, one part after another.
use Prim.Native.Nat.{ℕ, suc, ◌+◌, ◌-◌, ◌≤◌, ◌<◌}
use mathlib.Core.List.{List, [], ◌∷◌, ◌++◌, append-nil, append_assoc}
use mathlib.Core.Path.{◌≡◌, refl, sym, ap, ◌∙◌}
use native.Mathlib.Omega.{arith}
use native.Mathlib.Numerals.{add-one}
use lib.ListN.{length, drop, get_or, set, length-append, length-drop}
use Rattle.std.proofs.lemmas.List.Edits.{paste_all}
use lib.Seq.{paste, drop-drop, drop-length, drop-cons, append_snoc, take-append_seam, drop-append_seam, set-append_seam}
use Rattle.endian.specs.Lists.{put_at}
use Rattle.endian.proofs.Lists.{put_fits}
use Rattle.protocol.specs.Replies.{put_in}

pub put_none : (old : List ℕ) → put_in old [] ≡ old
unfolding put_in
put_none old = refl

-- all of it
pub put_all : (old x : List ℕ) → length x ≡ length old → put_in old x ≡ x
unfolding put_in
put_all old x e = rw (e, drop-length old) (append-nil x)

-- where it fits, what is pasted is put
pub paste_put : (at : ℕ) (x l : List ℕ) → at + length x ≤ length l → paste l at x (length x) ≡ put_at at x l
paste_put at x l h = paste_all l at x (length x) refl ∙ rw (← drop-drop (length x) at l, ← append_assoc) (sym (put_fits at x l h))

module _ (old x : List ℕ) where
  pub put_length : length x ≤ length old → length (put_in old x) ≡ length old
  unfolding put_in
  put_length h = rw (length-append, length-drop) (omega arith)

  pub put_rest : drop (length x) (put_in old x) ≡ drop (length x) old
  unfolding put_in
  put_rest = drop-append_seam x (drop (length x) old)

  -- the next part
  pub put_next : (y : List ℕ) → length x + length y ≤ length old → put_at (length x) y (put_in old x) ≡ put_in old (x ++ y)
  unfolding put_in
  put_next y h =
      let z = drop (length x) old in
      let l : length z ≡ length old - length x = length-drop (length x) old in
      put_fits (length x) y (x ++ z) (rw (length-append x z) (omega arith))
      ∙ rw (take-append_seam x z, drop-append_seam x z, drop-drop (length y) (length x) old, length-append x y)

  -- the next entry
  pub put_entry : (v : ℕ) → length x < length old → set (put_in old x) (length x) v ≡ put_in old (x ++ v ∷ [])
  unfolding put_in
  put_entry v h =
      let n = length x in
      let l : length (x ++ v ∷ []) ≡ suc n = length-append x (v ∷ []) ∙ add-one n in
      ap (λ (t : List ℕ). set (x ++ t) n v) (drop-cons old n 0 h)
      ∙ set-append_seam x (get_or old n 0) (drop (suc n) old) v
      ∙ sym (append_snoc x v (drop (suc n) old))
      ∙ ap (λ (k : ℕ). x ++ v ∷ [] ++ drop k old) (sym l)
