-- Laws of lists that the proofs share.
use mathlib.Core.Path.{◌≡◌, refl, sym, ap, ap₂, subst, ◌∙◌}
use mathlib.Core.List.{List, [], ◌∷◌, ◌++◌, append-nil, append_assoc, foldl, flatten}
use Prim.Native.Nat.{ℕ, zero, suc, ◌+◌, ◌-◌, ◌<◌, ◌≤◌}
use native.Mathlib.Nat.{zero-add, sub-zero, zero-sub, suc-sub-suc, le_of_suc-le-suc}
use native.Mathlib.Omega.{arith}
use native.Mathlib.Numerals.{add-one}
use lib.ListN.{length, get_or, set, take, drop, replicate, length-drop}
use lib.Seq.{paste-suc, take_all, take-length, slice_empty}
use borrow.Author.Tests.{le-leb}
use Rattle.endian.specs.Lists.{each, put_at}

-- a list is the list of its elements
each_all : (l : List ℕ) → each (length l) (λ i. get_or l i 0) ≡ l
each_all [] = refl
each_all (x ∷ xs) = ap (λ (t : List ℕ). x ∷ t) (each_all xs)

pub each_of : (n : ℕ) (l : List ℕ) → length l ≡ n → each n (λ i. get_or l i 0) ≡ l
each_of n l e = subst (λ (k : ℕ). each k (λ i. get_or l i 0) ≡ l) e (each_all l)

module _ {A : Type 0} where
  pub each_ext : (n : ℕ) (f g : ℕ → A) → ((i : ℕ) → f i ≡ g i) → each n f ≡ each n g
  each_ext zero f g e = refl
  each_ext (suc n) f g e = ap₂ (λ (x : A) (xs : List A). x ∷ xs) (e 0) (each_ext n (λ i. f (suc i)) (λ i. g (suc i)) (λ i. e (suc i)))

  pub length_each : (n : ℕ) (f : ℕ → A) → length (each n f) ≡ n
  length_each zero f = refl
  length_each (suc n) f = ap suc (length_each n (λ i. f (suc i)))

  pub get_or_each : (n : ℕ) (f : ℕ → A) (d : A) (i : ℕ) → i < n → get_or (each n f) i d ≡ f i
  get_or_each zero f d i h = absurd (omega arith)
  get_or_each (suc n) f d zero h = refl
  get_or_each (suc n) f d (suc i) h = get_or_each n (λ j. f (suc j)) d i (le_of_suc-le-suc h)

  -- one more at the end
  pub each_snoc : (n : ℕ) (f : ℕ → A) → each (suc n) f ≡ each n f ++ f n ∷ []
  each_snoc zero f = refl
  each_snoc (suc n) f = ap (λ (t : List A). f 0 ∷ t) (each_snoc n (λ i. f (suc i)))

flatten_append : (ls ms : List (List ℕ)) → flatten (ls ++ ms) ≡ flatten ls ++ flatten ms
unfolding flatten
flatten_append [] ms = refl
flatten_append (l ∷ ls) ms = ap (λ (r : List ℕ). l ++ r) (flatten_append ls ms) ∙ sym (append_assoc l (flatten ls) (flatten ms))

pub flatten_snoc : (ls : List (List ℕ)) (l : List ℕ) → flatten (ls ++ l ∷ []) ≡ flatten ls ++ l
unfolding flatten
flatten_snoc ls l = flatten_append ls (l ∷ []) ∙ ap (λ (r : List ℕ). flatten ls ++ r) (append-nil l)

-- a turn of a loop that copies s to the front of d
pub copy_more : (d s : List ℕ) (i : ℕ) → i < length d → i < length s
    → set (take i s ++ drop i d) i (get_or s i 0) ≡ take (i + 1) s ++ drop (i + 1) d
copy_more d s i hd hs = rw add-one (simp zero-add at (paste-suc d 0 s i 0 (rw zero-add hd) hs))

pub drop_replicate : (n m a : ℕ) → drop n (replicate m a) ≡ replicate (m - n) a
drop_replicate zero m a = rw sub-zero
drop_replicate (suc n) zero a = rw zero-sub
drop_replicate (suc n) (suc m) a = rw suc-sub-suc (drop_replicate n m a)

-- the part of l from n on, as a slice &l[n..]
pub drop_whole : (n : ℕ) (l : List ℕ) → take (length l - n) (drop n l) ≡ drop n l
drop_whole n l =
    let e : length (drop n l) ≡ length l - n = length-drop n l in
    take_all (length l - n) (drop n l) (omega arith)

pub empty : (l : List ℕ) → length l ≡ 0 → l ≡ []
empty [] e = refl
empty (x ∷ xs) e = absurd (omega arith)

pub foldl_snoc : {A B : Type 0} (f : B → A → B) (b : B) (l : List A) (x : A) → foldl f b (l ++ x ∷ []) ≡ f (foldl f b l) x
foldl_snoc f b [] x = refl
foldl_snoc f b (y ∷ ys) x = foldl_snoc f (f b y) ys x

-- what a part of n bytes holds after as many are copied to it
pub copied : (s d : List ℕ) (n : ℕ) → length s ≡ n → take (length s) s ++ drop (length s) (take n d) ≡ s
copied s d n e = rw (take-length s, e, slice_empty n d) (append-nil s)

-- bytes that fit are put
module _ (from : ℕ) (x l : List ℕ) where
  pub put_fits : from + length x ≤ length l → put_at from x l ≡ take from l ++ x ++ drop (length x) (drop from l)
  put_fits h = rw (le-leb (from + length x) (length l) h)
