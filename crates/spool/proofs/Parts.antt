-- Parts one after another, as a loop makes them.
use Prim.Native.Nat.{ℕ, zero, suc, ◌+◌, ◌*◌, ◌≤◌, ◌<◌}
use mathlib.Core.Bool.{Bool, true, false}
use mathlib.Core.List.{List, [], ◌++◌, append-nil, append_assoc, flatten}
use mathlib.Core.Path.{◌≡◌, refl, sym, ap, ◌∙◌}
use native.Mathlib.Omega.{arith}
use native.Mathlib.Numerals.{add-one}
use lib.Dec.{eqb}
use lib.ListN.{length, take, drop, length-append, length-take}
use lib.Seq.{take_all, take-add, take_at, drop_at}
use borrow.Author.Tests.{eqb-true, eqb-false}
use Rattle.endian.specs.Lists.{each}
use Rattle.endian.specs.Fields.{field_of}
use Rattle.endian.proofs.Lists.{each_snoc, flatten_snoc}
use Rattle.spool_block.specs.Block.{program_field, count_in, used_in}
use Rattle.spool.specs.Reading.{part}

abbrev pub front : ℕ → (ℕ → List ℕ) → List ℕ
front n f = flatten (each n f)

pub front_none : (f : ℕ → List ℕ) → front 0 f ≡ []
unfolding flatten
front_none f = refl

pub front_suc : (n : ℕ) (f : ℕ → List ℕ) → front (suc n) f ≡ front n f ++ f n
front_suc n f = ap flatten (each_snoc n f) ∙ flatten_snoc (each n f) (f n)

pub front_more : (n : ℕ) (f : ℕ → List ℕ) → front (n + 1) f ≡ front n f ++ f n
front_more n f = ap (λ (k : ℕ). front k f) (add-one n) ∙ front_suc n f

pub front_most : (c n : ℕ) (f : ℕ → List ℕ) → ((i : ℕ) → length (f i) ≤ c) → length (front n f) ≤ c * n
front_most c zero f h = rw (front_none f) (omega arith)
front_most c (suc n) f h =
    let a = front_most c n f h in
    let b = h n in
    let e : c * suc n ≡ c * n + c = omega arith in
    rw (e, front_suc n f, length-append (front n f) (f n)) (omega arith)

pub front_length : (c n : ℕ) (f : ℕ → List ℕ) → ((i : ℕ) → i < n → length (f i) ≡ c) → length (front n f) ≡ c * n
front_length c zero f h = rw (front_none f) (omega arith)
front_length c (suc n) f h =
    let a = front_length c n f (λ i k. h i (omega arith)) in
    let b = h n (omega arith) in
    let e : c * suc n ≡ c * n + c = omega arith in
    rw (e, front_suc n f, length-append (front n f) (f n)) (omega arith)

-- the same parts, up to n
pub front_ext : (n : ℕ) (f g : ℕ → List ℕ) → ((i : ℕ) → i < n → f i ≡ g i) → front n f ≡ front n g
front_ext zero f g e = refl
front_ext (suc n) f g e =
    front_suc n f ∙ ap (λ (x : List ℕ). x ++ f n) (front_ext n f g (λ i h. e i (omega arith))) ∙ ap (λ (x : List ℕ). front n g ++ x) (e n (omega arith)) ∙ sym (front_suc n g)

-- a list is its parts of c
so_many : (c : ℕ) (l : List ℕ) (n : ℕ) → front n (part c l) ≡ take (c * n) l
so_many c l zero = let e : c * 0 ≡ 0 = omega arith in front_none (part c l) ∙ ap (λ (k : ℕ). take k l) (sym e)
so_many c l (suc n) =
    let e : c * suc n ≡ c * n + c = omega arith in
    front_suc n (part c l) ∙ ap (λ (x : List ℕ). x ++ part c l n) (so_many c l n) ∙ sym (take-add (c * n) c l) ∙ ap (λ (k : ℕ). take k l) (sym e)

pub parts_back : (c n : ℕ) (l : List ℕ) → length l ≤ c * n → front n (part c l) ≡ l
parts_back c n l h = so_many c l n ∙ take_all (c * n) l h

-- what stands before and behind part i
pub record Around (n i : ℕ) (f : ℕ → List ℕ) : Type 0 where
  pub behind : List ℕ
  pub all : front n f ≡ front i f ++ (f i ++ behind)
  pub last : i + 1 ≡ n → behind ≡ []

around : (n i : ℕ) (f : ℕ → List ℕ) → i < n → Around n i f
around zero i f h = absurd (omega arith)
around (suc n) i f h = go (eqb i n) refl (around n i f)
  where
    go : (t : Bool) → eqb i n ≡ t → (i < n → Around n i f) → Around (suc n) i f
    go true e more =
        let p = eqb-true i n e in
        record {
          behind = [];
          all = front_suc n f ∙ rw (p, append-nil (f n));
          last = λ _. refl;
        }
    go false e more =
        let a = more (omega (arith, eqb-false i n e)) in
        record {
          behind = a.behind ++ f n;
          all = front_suc n f ∙ ap (λ (x : List ℕ). x ++ f n) a.all ∙ simp append_assoc;
          last = λ q. absurd (eqb-false i n e (omega arith));
        }

-- parts of which all but the last have c bytes
pub record Sizes (c n : ℕ) (f : ℕ → List ℕ) : Type 0 where
  pub full : (i : ℕ) → i + 1 < n → length (f i) ≡ c
  pub most : (i : ℕ) → i < n → length (f i) ≤ c

pub part_of : (c n : ℕ) (f : ℕ → List ℕ) → Sizes c n f → (i : ℕ) → i < n → part c (front n f) i ≡ f i
part_of c n f s i h =
    let a = around n i f h in
    let l : length (front i f) ≡ c * i = front_length c i f (λ j k. s.full j (omega arith)) in
    let d : drop (c * i) (front n f) ≡ f i ++ a.behind = ap (drop (c * i)) a.all ∙ drop_at (front i f) (f i ++ a.behind) (c * i) l in
    ap (take c) d ∙ go (eqb (i + 1) n) refl a.behind a.last
  where
    go : (t : Bool) → eqb (i + 1) n ≡ t → (z : List ℕ) → (i + 1 ≡ n → z ≡ []) → take c (f i ++ z) ≡ f i
    go true e z q = ap (λ (x : List ℕ). take c (f i ++ x)) (q (eqb-true (i + 1) n e)) ∙ rw (append-nil (f i)) (take_all c (f i) (s.most i h))
    go false e z q = take_at (f i) z c (s.full i (omega (arith, eqb-false (i + 1) n e)))

-- their whole length
pub sizes_length : (c n : ℕ) (f : ℕ → List ℕ) → Sizes c (suc n) f → length (front (suc n) f) ≡ c * n + length (f n)
sizes_length c n f s =
    let l : length (front n f) ≡ c * n = front_length c n f (λ j k. s.full j (omega arith)) in
    ap length (front_suc n f) ∙ length-append (front n f) (f n) ∙ ap (λ (k : ℕ). k + length (f n)) l

-- a block uses at most 472 bytes
pub used_most : (b : List ℕ) → length (used_in b) ≤ 472
unfolding used_in
used_most b = let l = length-take (count_in b) (field_of program_field b) in let m : length (field_of program_field b) ≤ 472 = rw length-take (omega arith) in omega arith
