-- Frames are read off bytes in one way: where whole good frames begin the bytes of whole good frames, they begin the list of these frames.
use Prim.Native.Nat.{ℕ, suc, ◌+◌}
use mathlib.Core.Path.{◌≡◌, refl, sym, ap, ◌∙◌}
use mathlib.Core.Bool.{Bool, true, false, cond}
use mathlib.Core.List.{List, [], ◌∷◌, ◌++◌, append_assoc, append-nil, head-eq_of_cons-eq, tail-eq_of_cons-eq, flatten}
use native.Mathlib.Omega.{arith}
use lib.ListN.{length, length-append}
use Rattle.endian.proofs.Cases.{impossible}
use Rattle.framing.specs.Header.{good}
use Rattle.endian.specs.Lists.{All}
use Rattle.session.specs.Reading.{Good, for_firmware, own}

append_split : {A : Type 0} (a b x y : List A) → length a ≡ length b → a ++ x ≡ b ++ y → (a ≡ b) × (x ≡ y)
append_split [] [] x y h e = (refl, e)
append_split [] (q ∷ b) x y h e = absurd (omega arith)
append_split (p ∷ a) [] x y h e = absurd (omega arith)
append_split (p ∷ a) (q ∷ b) x y h e =
    let r = append_split a b x y (omega arith) (tail-eq_of_cons-eq e) in
    let s = head-eq_of_cons-eq e in
    let t = r.0 in
    (cc, r.1)

pub all_append : (P : List ℕ → Type 0) (fs gs : List (List ℕ)) → All P fs → All P gs → All P (fs ++ gs)
all_append P [] gs a b = b
all_append P (f ∷ fs) gs a b = (a.0, all_append P fs gs a.1 b)

flatten_append : (fs gs : List (List ℕ)) → flatten (fs ++ gs) ≡ flatten fs ++ flatten gs
unfolding flatten
flatten_append [] gs = refl
flatten_append (f ∷ fs) gs = ap (λ (r : List ℕ). f ++ r) (flatten_append fs gs) ∙ sym (append_assoc f (flatten fs) (flatten gs))

pub own_append : (fs gs : List (List ℕ)) → own (fs ++ gs) ≡ own fs ++ own gs
own_append [] gs = refl
own_append (f ∷ fs) gs = go (for_firmware f) (own_append fs gs)
  where
    go : (v : Bool) → own (fs ++ gs) ≡ own fs ++ own gs → cond v (f ∷ own (fs ++ gs)) (own (fs ++ gs)) ≡ cond v (f ∷ own fs) (own fs) ++ own gs
    go true e = ap (λ (r : List (List ℕ)). f ∷ r) e
    go false e = e

-- one more frame at the end
pub flatten_snoc : (fs : List (List ℕ)) (f : List ℕ) → flatten (fs ++ f ∷ []) ≡ flatten fs ++ f
unfolding flatten
flatten_snoc fs f = flatten_append fs (f ∷ []) ∙ ap (λ (r : List ℕ). flatten fs ++ r) (append-nil f)

pub own_more : (fs : List (List ℕ)) (f : List ℕ) → for_firmware f ≡ true → own (fs ++ f ∷ []) ≡ own fs ++ f ∷ []
own_more fs f e = own_append fs (f ∷ []) ∙ ap (λ (x : Bool). own fs ++ cond x (f ∷ []) []) e

pub own_same : (fs : List (List ℕ)) (f : List ℕ) → for_firmware f ≡ false → own (fs ++ f ∷ []) ≡ own fs
own_same fs f e = own_append fs (f ∷ []) ∙ ap (λ (x : Bool). own fs ++ cond x (f ∷ []) []) e ∙ append-nil (own fs)

pub last_same : (xs ys : List (List ℕ)) (a b : List ℕ) → xs ++ a ∷ [] ≡ ys ++ b ∷ [] → a ≡ b
last_same [] [] a b e = head-eq_of_cons-eq e
last_same [] (y ∷ ys) a b e = absurd (let l : 0 ≡ length (ys ++ b ∷ []) = ap length (tail-eq_of_cons-eq e) in let k = length-append ys (b ∷ []) in omega arith)
last_same (x ∷ xs) [] a b e = absurd (let l : length (xs ++ a ∷ []) ≡ 0 = ap length (tail-eq_of_cons-eq e) in let k = length-append xs (a ∷ []) in omega arith)
last_same (x ∷ xs) (y ∷ ys) a b e = last_same xs ys a b (tail-eq_of_cons-eq e)

-- ---- the length of a good frame is its header's

pub same_size : (id id' ep ep' n n' : ℕ) → good id ep n ≡ good id' ep' n' → n ≡ n'
same_size id id' ep ep' n n' e = cc

good_lengths : (h : ℕ) (p q : List ℕ) → Good (h ∷ p) → Good (h ∷ q) → length p ≡ length q
good_lengths h p q a b =
    let e = same_size a.id b.id a.ep b.ep a.n b.n (sym a.header ∙ b.header) in
    let x : suc (length p) ≡ 1 + a.n = a.whole in
    let y : suc (length q) ≡ 1 + b.n = b.whole in
    omega arith

-- a good frame is not empty
pub good_some : Good [] → ⊥
good_some g = let e : 0 ≡ 1 + g.n = g.whole in omega arith

-- no bytes are no frames
pub no_frames : (hs : List (List ℕ)) → All Good hs → [] ≡ flatten hs → hs ≡ []
unfolding flatten
no_frames [] a e = refl
no_frames ([] ∷ hs) a e = absurd (good_some a.0)
no_frames ((h ∷ f) ∷ hs) a e = impossible cc

-- ---- one reading

-- what comes after whole good frames in the bytes of whole good frames
pub record Further (fs gs : List (List ℕ)) (p : List ℕ) : Type 0 where
  pub rest : List (List ℕ)
  pub frames : gs ≡ fs ++ rest
  pub bytes : p ≡ flatten rest
  pub all_good : All Good rest

pub reads_on : (fs gs : List (List ℕ)) (p : List ℕ) → All Good fs → All Good gs → flatten fs ++ p ≡ flatten gs → Further fs gs p
unfolding flatten
reads_on [] gs p a b e = record { rest = gs; frames = refl; bytes = e; all_good = b }
reads_on ([] ∷ fs) gs p a b e = absurd (good_some a.0)
reads_on ((h ∷ f) ∷ fs) [] p a b e = impossible cc
reads_on ((h ∷ f) ∷ fs) ([] ∷ gs) p a b e = absurd (good_some b.0)
reads_on ((h ∷ f) ∷ fs) ((k ∷ g) ∷ gs) p a b e =
    let eh : h ≡ k = head-eq_of_cons-eq e in
    let et : f ++ (flatten fs ++ p) ≡ g ++ flatten gs = sym (append_assoc f (flatten fs) p) ∙ tail-eq_of_cons-eq e in
    let l : length f ≡ length g = good_lengths k f g (rw (← eh) a.0) b.0 in
    let s = append_split f g (flatten fs ++ p) (flatten gs) l et in
    let r = reads_on fs gs p a.1 b.1 s.1 in
    let ef : f ≡ g = s.0 in
    let er : gs ≡ fs ++ r.rest = r.frames in
    record { rest = r.rest; frames = cc; bytes = r.bytes; all_good = r.all_good }
