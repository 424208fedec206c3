-- The frame that waits to be acted on, where the head is sent the client's frames: the one after those that it acted on.
use Prim.Native.Nat.{ℕ, zero, suc, ◌+◌, ◌<◌}
use mathlib.Core.Path.{◌≡◌, refl, sym, ap, ◌∙◌, subst}
use mathlib.Core.Bool.{Bool, true, false}
use mathlib.Core.List.{List, [], ◌∷◌, ◌++◌, append_assoc, flatten}
use native.Mathlib.Omega.{arith}
use lib.ListN.{length, get_or, length-append, get_or-append}
use lib.Dec.{eqb}
use lib.Seq.{get_or_at}
use borrow.Author.Tests.{eqb-true, eqb-false}
use Rattle.endian.specs.Lists.{All}
use Rattle.session.specs.Reading.{Good, for_firmware, own}
use Rattle.session.specs.Client.{frame, frames_to, Made}
use Rattle.session.proofs.Frames.{all_append, reads_on, no_frames}
use Rattle.session.proofs.Gathering.{length_snoc}
use Rattle.client.specs.Frames.{Secret}
use Rattle.session.proofs.ClientFrames.{is_own, is_good_when}

abbrev Own : List ℕ → Type 0
Own f = for_firmware f ≡ true

-- none of the frames at the front is left out
own_front : (fs gs : List (List ℕ)) → All Own (fs ++ gs) → own fs ≡ fs
own_front [] gs a = refl
own_front (f ∷ fs) gs a = rw a.0 (ap (λ (x : List (List ℕ)). f ∷ x) (own_front fs gs a.1))

module _ (prog : List ℕ) (id : ℕ) (secret : Secret) (made : Made prog id secret) where
  abbrev up_to : ℕ → List (List ℕ)
  up_to k = frames_to prog id secret k

  count : (k : ℕ) → length (up_to k) ≡ k
  count zero = refl
  count (suc k) = length_snoc (up_to k) (frame prog id secret k) ∙ omega (arith, count k)

  all_good : (k : ℕ) → All Good (up_to k)
  all_good zero = tt
  all_good (suc k) = all_append Good (up_to k) (frame prog id secret k ∷ []) (all_good k) (is_good_when prog id secret made k, tt)

  all_own : (k : ℕ) → All Own (up_to k)
  all_own zero = tt
  all_own (suc k) = all_append Own (up_to k) (frame prog id secret k ∷ []) (all_own k) (is_own prog id secret made, tt)

  -- the frame at a place
  nth : (k j : ℕ) → j < k → get_or (up_to k) j [] ≡ frame prog id secret j
  nth zero j h = absurd (omega arith)
  nth (suc k) j h = go (eqb j k) refl (λ l. nth k j l)
    where
      go : (t : Bool) → eqb j k ≡ t → (j < k → get_or (up_to k) j [] ≡ frame prog id secret j) → get_or (up_to k ++ frame prog id secret k ∷ []) j [] ≡ frame prog id secret j
      go true e f =
          let q : j ≡ k = eqb-true j k e in
          get_or_at (up_to k) (frame prog id secret k) [] [] j (count k ∙ sym q) ∙ ap (frame prog id secret) (sym q)
      go false e f =
          let d = eqb-false j k e in
          let l : j < k = omega (arith, d) in
          get_or-append (up_to k) (frame prog id secret k ∷ []) [] j (let c = count k in omega arith) ∙ f l

  -- f is frame k of n, bs are the bytes to its end, and rest those after it
  pub record Next (n k : ℕ) (f bs rest : List ℕ) : Type 0 where
    pub is : f ≡ frame prog id secret k
    pub so_far : bs ≡ flatten (up_to (suc k))
    pub within : k < n
    pub last : rest ≡ [] → n ≡ suc k

  -- where whole frames and then f have come, and those for the firmware before f are the first k
  pub next : (n k : ℕ) (bs rest : List ℕ) (fs : List (List ℕ)) (f : List ℕ) → All Good (fs ++ f ∷ []) → bs ≡ flatten (fs ++ f ∷ []) → own fs ≡ up_to k
      → bs ++ rest ≡ flatten (up_to n) → Next n k f bs rest
  next n k bs rest fs f a w o e =
      let u = reads_on (fs ++ f ∷ []) (up_to n) rest a (all_good n) (ap (λ (x : List ℕ). x ++ rest) (sym w) ∙ e) in
      let p : up_to n ≡ fs ++ f ∷ u.rest = u.frames ∙ append_assoc fs (f ∷ []) u.rest in
      let q : fs ≡ up_to k = sym (own_front fs (f ∷ u.rest) (subst (All Own) p (all_own n))) ∙ o in
      let l : length fs ≡ k = ap length q ∙ count k in
      let c : n ≡ length fs + suc (length u.rest) = sym (count n) ∙ ap length p ∙ length-append fs (f ∷ u.rest) in
      let within : k < n = omega arith in
      let i : f ≡ frame prog id secret k =
      sym (get_or_at fs f u.rest [] k l) ∙ ap (λ (x : List (List ℕ)). get_or x k []) (sym p) ∙ nth n k within in
      record {
        is = i;
        so_far = w ∙ ap (λ (x : List (List ℕ)). flatten (x ++ f ∷ [])) q ∙ ap (λ (x : List ℕ). flatten (up_to k ++ x ∷ [])) i;
        within = within;
        last = λ z. let g : length u.rest ≡ 0 = ap length (no_frames u.rest u.all_good (sym z ∙ u.bytes)) in omega arith;
      }
