-- The string's buffer as its parts are written, one after the other.
use mathlib.Core.Path.{◌≡◌, sym, ◌∙◌}
use mathlib.Core.List.{List, [], ◌∷◌, ◌++◌, append_assoc, append-nil}
use Prim.Native.Nat.{ℕ}
use native.Mathlib.Omega.{arith}
use lib.ListN.{length, take, drop, set, replicate, length-append}
use lib.Seq.{take_at, drop_at, append_snoc, set_at}
use borrow.Rule.Slice.PartMut.{put_mid}

-- p is written, and s takes the place of n bytes after it
next : (p z s : List ℕ) (a n : ℕ) → length p ≡ a → put_mid a n (p ++ z) s ≡ p ++ s ++ drop n z
next p z s a n e = rw (take_at p z a e, drop_at p z a e, append_assoc)

module _ (uds : List ℕ) (domain : ℕ) (m : List ℕ) (hu : length uds ≡ 32) (hm : length m ≡ 32) where
  pub head_length : length (uds ++ domain ∷ m) ≡ 65
  head_length = rw (length-append, hu) (omega arith)

  -- the four parts of the string
  pub whole : (uss : List ℕ) → put_mid 65 32 (put_mid 33 32 (set (uds ++ replicate 65 0) 32 domain) m) uss ≡ uds ++ domain ∷ m ++ uss
  whole uss =
      let p : List ℕ = uds ++ domain ∷ [] in
      let hp : length p ≡ 33 = rw (length-append, hu) in
      let e2 : set (uds ++ replicate 65 0) 32 domain ≡ p ++ replicate 64 0 = set_at uds 0 (replicate 64 0) domain 32 hu ∙ rw append_snoc in
      let e3 : put_mid 33 32 (p ++ replicate 64 0) m ≡ p ++ m ++ replicate 32 0 = next p (replicate 64 0) m 33 32 hp in
      let e4 : p ++ m ≡ uds ++ domain ∷ m = append_snoc uds domain m in
      let e5 : put_mid 65 32 (uds ++ domain ∷ m ++ replicate 32 0) uss ≡ uds ++ domain ∷ m ++ uss ++ [] =
      next (uds ++ domain ∷ m) (replicate 32 0) uss 65 32 head_length in
      rw (e2, e3, e4, e5) (append-nil (uds ++ domain ∷ m ++ uss))

  -- its first 65 bytes: there is no user secret
  pub short : (uss : List ℕ) → take 65 (uds ++ domain ∷ m ++ uss) ≡ uds ++ domain ∷ m ++ []
  short uss = take_at (uds ++ domain ∷ m) uss 65 head_length ∙ sym (append-nil (uds ++ domain ∷ m))
