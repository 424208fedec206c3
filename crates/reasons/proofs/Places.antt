-- Bytes read as whole good frames and the part of one more, in one way; and where the last of them stands.
use Prim.Native.Nat.{ℕ, suc, ◌+◌, ◌≤◌}
use mathlib.Core.Path.{◌≡◌, refl, sym, ap, ◌∙◌}
use mathlib.Core.Logic.{⊎_elim}
use mathlib.Core.List.{List, [], ◌∷◌, ◌++◌, append_assoc, append-nil, flatten}
use native.Mathlib.Omega.{arith}
use lib.ListN.{length, get_or}
use borrow.Author.Tests.{lt-ltb}
use Rattle.endian.specs.Lists.{All}
use Rattle.endian.proofs.Cases.{impossible}
use Rattle.framing.specs.Header.{header_at, body_len}
use Rattle.session.specs.Reading.{Good}
use Rattle.session.proofs.Frames.{all_append, flatten_snoc}
use Rattle.session.proofs.Gathering.{Partial, length_snoc}
use Rattle.reasons.specs.Theorems.{Stands}
use Rattle.reasons.proofs.Next.{part, frame, next, next_frame, Onward, compare}

-- whole good frames, and the part of one that is not whole
pub record Reads (bs : List ℕ) (fs : List (List ℕ)) (p : List ℕ) : Type 0 where
  pub reads : bs ≡ flatten fs ++ p
  pub all_good : All Good fs
  pub partial : Partial p

-- how many frames have begun
abbrev pub begun : List (List ℕ) → List ℕ → ℕ
begun fs [] = length fs
begun fs (b ∷ p) = length fs + 1

-- no whole frame is in a part
no_frame : (p : List ℕ) (f : List ℕ) → Partial p → next p ≡ frame f → ⊥
no_frame [] f v e = impossible cc
no_frame (h ∷ p) f v e =
    let s = v.short in
    let q : next (h ∷ p) ≡ part = rw (v.header, lt-ltb (suc (length p)) (1 + v.n) (omega arith)) in
    let z : part ≡ frame f = sym q ∙ e in
    impossible cc

no_more : (p u : List ℕ) (more : List (List ℕ)) → Partial p → All Good more → p ≡ flatten more ++ u → more ≡ []
unfolding flatten
no_more p u [] v a e = refl
no_more p u (f ∷ fs) v a e =
    absurd (no_frame p f v (ap next (e ∙ append_assoc f (flatten fs) u) ∙ next_frame f (flatten fs ++ u) a.0))

-- two readings have as many frames, and a part both or neither
one_way : (bs : List ℕ) (fs gs : List (List ℕ)) (p q : List ℕ) → Reads bs fs p → Onward fs p gs q → begun gs q ≡ begun fs p
unfolding flatten
one_way bs fs gs p q v o =
    let n = no_more p q o.more v.partial o.all_good o.bytes in
    let eg : gs ≡ fs = o.frames ∙ ap (λ (x : List (List ℕ)). fs ++ x) n ∙ append-nil fs in
    let ep : q ≡ p = sym (o.bytes ∙ ap (λ (x : List (List ℕ)). flatten x ++ q) n) in
    rw (eg, ep)

pub one_count : (bs : List ℕ) (fs gs : List (List ℕ)) (p q : List ℕ) → Reads bs fs p → Reads bs gs q → begun fs p ≡ begun gs q
one_count bs fs gs p q v w =
    ⊎_elim (λ o. sym (one_way bs fs gs p q v o)) (λ o. one_way bs gs fs q p w o) (compare fs gs p q v.all_good w.all_good (sym v.reads ∙ w.reads))

-- the next byte b, where p is the part before it
module _ (bs : List ℕ) (fs : List (List ℕ)) (p : List ℕ) (b : ℕ) (v : Reads bs fs p) where
  longer : bs ++ b ∷ [] ≡ flatten fs ++ (p ++ b ∷ [])
  longer = ap (λ (x : List ℕ). x ++ b ∷ []) v.reads ∙ append_assoc (flatten fs) p (b ∷ [])

  pub reads_part : Partial (p ++ b ∷ []) → Reads (bs ++ b ∷ []) fs (p ++ b ∷ [])
  reads_part x = record { reads = longer; all_good = v.all_good; partial = x }

  pub reads_whole : Good (p ++ b ∷ []) → Reads (bs ++ b ∷ []) (fs ++ (p ++ b ∷ []) ∷ []) []
  reads_whole g =
      record {
        reads = longer ∙ sym (flatten_snoc fs (p ++ b ∷ [])) ∙ sym (append-nil _);
        all_good = all_append Good fs ((p ++ b ∷ []) ∷ []) v.all_good (g, tt);
        partial = tt;
      }

  in_one : (q : List ℕ) → Partial q → length (q ++ b ∷ []) ≤ 1 + body_len (header_at (get_or (q ++ b ∷ []) 0 0))
  in_one [] x = omega arith
  in_one (h ∷ q) x =
      let e : body_len (header_at h) ≡ x.n = ap body_len x.header in
      let s = x.short in
      let l = length_snoc q b in
      omega arith

  pub stands_next : (rest : List ℕ) (i f : ℕ) → i ≡ length bs + 1 → f ≡ length fs + 1 → Stands (bs ++ b ∷ rest) i f (length p)
  stands_next rest i f ei ef =
      record {
        before = fs;
        part = p ++ b ∷ [];
        rest = rest;
        reads =
            ap (λ (x : List ℕ). x ++ b ∷ rest) v.reads ∙ append_assoc (flatten fs) p (b ∷ rest)
            ∙ ap (λ (x : List ℕ). flatten fs ++ x) (sym (append_assoc p (b ∷ []) rest));
        all_good = v.all_good;
        one_frame = in_one p v.partial;
        place = ei ∙ sym (length_snoc bs b) ∙ ap length longer;
        number = ef;
        offset_is = sym (length_snoc p b);
      }
