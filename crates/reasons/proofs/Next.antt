-- What bytes begin with, as a function, so that two readings of the same bytes agree on it; and that of two lists of whole good frames at the
-- beginning of the same bytes one begins the other.
use Prim.Native.Nat.{ℕ, suc, ◌+◌, ◌<◌, ◌≤◌}
use mathlib.Core.Path.{◌≡◌, refl, sym, ap, ◌∙◌, subst}
use mathlib.Core.Logic.{◌⊎◌, inl, inr, ⊎_map}
use mathlib.Core.Bool.{cond}
use mathlib.Core.List.{List, [], ◌∷◌, ◌++◌, append_assoc, append_cancel_left, flatten}
use native.Mathlib.Omega.{arith}
use lib.Dec.{ltb}
use lib.ListN.{length, get_or, take, length-append}
use lib.Seq.{take-append_seam}
use borrow.Author.Tests.{lt-ltb, le-ltb}
use Rattle.endian.specs.Lists.{All}
use Rattle.framing.specs.Header.{Reading, good, stop, header_at}
use Rattle.session.specs.Reading.{Good}
use Rattle.session.proofs.Frames.{good_some}

-- no byte, a bad header, a part of a good frame, or a whole one
pub data Next : Type 0 where
  nothing : Next
  bad : Next
  part : Next
  frame : List ℕ → Next

abbrev by_header : Reading → List ℕ → Next
by_header (stop k) t = bad
by_header (good id ep n) t = cond (ltb (length t) (1 + n)) part (frame (take (1 + n) t))

abbrev pub next : List ℕ → Next
next [] = nothing
next (h ∷ p) = by_header (header_at h) (h ∷ p)

pub next_bad : (t : List ℕ) (h : ℕ) (p : List ℕ) → t ≡ h ∷ p → header_at h ≡ stop 22 → next t ≡ bad
next_bad t h p e b = rw (e, b)

pub next_part : (t : List ℕ) (id ep n : ℕ) → header_at (get_or t 0 0) ≡ good id ep n → 1 ≤ length t → length t < 1 + n → next t ≡ part
next_part [] id ep n e some short = absurd (omega arith)
next_part (h ∷ p) id ep n e some short = rw (e, lt-ltb (suc (length p)) (1 + n) short)

pub next_frame : (f rest : List ℕ) → Good f → next (f ++ rest) ≡ frame f
next_frame [] rest g = absurd (good_some g)
next_frame (h ∷ p) rest g =
    let w : suc (length p) ≡ 1 + g.n = g.whole in
    let l = length-append p rest in
    rw (g.header, le-ltb (suc (length (p ++ rest))) (1 + g.n) (omega arith), ← w) (ap frame (take-append_seam (h ∷ p) rest))

-- the frames gs are fs and more: the bytes t, which come after fs, are those of more and then u, which come after gs
pub record Onward (fs : List (List ℕ)) (t : List ℕ) (gs : List (List ℕ)) (u : List ℕ) : Type 0 where
  pub more : List (List ℕ)
  pub frames : gs ≡ fs ++ more
  pub bytes : t ≡ flatten more ++ u
  pub all_good : All Good more

longer : {fs gs : List (List ℕ)} {t u : List ℕ} (f : List ℕ) → Onward fs t gs u → Onward (f ∷ fs) t (f ∷ gs) u
longer f o = record { more = o.more; frames = ap (λ (x : List (List ℕ)). f ∷ x) o.frames; bytes = o.bytes; all_good = o.all_good }

pub compare : (fs gs : List (List ℕ)) (t u : List ℕ) → All Good fs → All Good gs → flatten fs ++ t ≡ flatten gs ++ u → Onward fs t gs u ⊎ Onward gs u fs t
unfolding flatten
compare [] gs t u a b e = inl (record { more = gs; frames = refl; bytes = e; all_good = b })
compare (f ∷ fs) [] t u a b e = inr (record { more = f ∷ fs; frames = refl; bytes = sym e; all_good = a })
compare (f ∷ fs) (g ∷ gs) t u a b e =
    let q : f ++ (flatten fs ++ t) ≡ g ++ (flatten gs ++ u) = sym (append_assoc f (flatten fs) t) ∙ e ∙ append_assoc g (flatten gs) u in
    let n : frame f ≡ frame g = sym (next_frame f (flatten fs ++ t) a.0) ∙ ap next q ∙ next_frame g (flatten gs ++ u) b.0 in
    let s : f ≡ g = cc in
    let r = append_cancel_left f (flatten fs ++ t) (flatten gs ++ u) (q ∙ ap (λ (x : List ℕ). x ++ (flatten gs ++ u)) (sym s)) in
    subst (λ (x : List ℕ). Onward (f ∷ fs) t (x ∷ gs) u ⊎ Onward (x ∷ gs) u (f ∷ fs) t) s
    (⊎_map (longer f) (longer f) (compare fs gs t u a.1 b.1 r))
