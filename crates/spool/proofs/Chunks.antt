-- A spool as the list of its blocks.
use Prim.Native.Nat.{ℕ, zero, suc, ◌+◌, ◌*◌, ◌/◌, ◌%◌, ◌<◌, ◌≤◌}
use mathlib.Core.Bool.{Bool, true, false}
use mathlib.Core.List.{List, [], ◌∷◌, ◌++◌, flatten}
use mathlib.Core.Path.{◌≡◌, refl, ap, ap₂, ◌∙◌}
use native.Mathlib.Omega.{arith}
use native.Mathlib.Numerals.{add-one}
use lib.Dec.{ltb}
use lib.ListN.{length, take, drop, get_or, length-append, drop_of_length-le}
use lib.Seq.{drop-drop, drop-cons, take-suc}
use borrow.Author.Tests.{ltb-true, ltb-false}
use Rattle.std.specs.Prelude.{map}
use Rattle.std.proofs.Common.{zero-add}
use Rattle.std.specs.Simd.{first_chunks}
use Rattle.endian.specs.Lists.{each}
use Rattle.endian.proofs.Lists.{each_ext, length_each, get_or_each, flatten_snoc}
use Rattle.spool_block.specs.Block.{used_in, block_refusal, fault_number}
use Rattle.spool_block.specs.declared.Fault.{Fault}
use Rattle.spool_block.specs.declared.Fault.TheVariants.{Check, Number, Count}
use Rattle.spool.specs.Reading.{part, blocks_in, block_at, refusal_at, earliest, bad_length, program_in, look_refusal}
use Rattle.spool.specs.Salvage.{blocks_of}
use Rattle.spool.specs.Steps.{verdicts, verdicts_from, uses_of}
use Rattle.spool.proofs.Numbers.{good_length, length_good, look_block, look_behind}
use Rattle.spool.proofs.Parts.{used_most}

-- whole blocks, from 1 to 278
pub good_when : (n : ℕ) → n % 512 < 1 → 1 ≤ n / 512 → n / 512 ≤ 278 → bad_length n ≡ false
good_when n h k l = length_good n (record { some = omega arith; most = omega arith; whole = omega arith })

pub bad_when : (n : ℕ) → (n % 512 < 1 → 1 ≤ n / 512 → n / 512 ≤ 278 → ⊥) → bad_length n ≡ true
bad_when n h = go (bad_length n) refl
  where
    go : (t : Bool) → bad_length n ≡ t → bad_length n ≡ true
    go true e = e
    go false e =
        let g = good_length n e in
        let a = g.some in
        let b = g.most in
        let c = g.whole in
        absurd (h (omega arith) (omega arith) (omega arith))

chunks_each : (k : ℕ) (s : List ℕ) → first_chunks 512 k s ≡ each k (part 512 s)
chunks_each zero s = refl
chunks_each (suc k) s =
    let behind : (i : ℕ) → part 512 (drop 512 s) i ≡ part 512 s (suc i) =
    λ i. let e : 512 + 512 * i ≡ 512 * suc i = omega arith in ap (take 512) (drop-drop (512 * i) 512 s ∙ ap (λ j. drop j s) e) in
    ap (λ bs. take 512 s ∷ bs) (chunks_each k (drop 512 s) ∙ each_ext k (part 512 (drop 512 s)) (λ i. part 512 s (suc i)) behind)

-- what `as_chunks` gives
pub chunks_are : (s : List ℕ) → first_chunks 512 (length s / 512) s ≡ blocks_of s
chunks_are s = chunks_each (length s / 512) s

pub blocks_many : (s : List ℕ) → length (blocks_of s) ≡ blocks_in s
blocks_many s = length_each (blocks_in s) (block_at s)

verdicts_each : (n i m : ℕ) (g : ℕ → List ℕ) → verdicts n i (each m g) ≡ each m (λ j. block_refusal n (i + j) (g j))
verdicts_each n i zero g = refl
verdicts_each n i (suc m) g =
    let later : (j : ℕ) → block_refusal n (suc i + j) (g (suc j)) ≡ block_refusal n (i + suc j) (g (suc j)) =
    λ j. let e : suc i + j ≡ i + suc j = omega arith in ap (λ k. block_refusal n k (g (suc j))) e in
    let first : i ≡ i + 0 = omega arith in
    ap₂ ◌∷◌ (ap (λ k. block_refusal n k (g 0)) first)
    (verdicts_each n (suc i) m (λ j. g (suc j)) ∙ each_ext m (λ j. block_refusal n (suc i + j) (g (suc j))) (λ j. block_refusal n (i + suc j) (g (suc j))) later)

pub verdicts_are : (s : List ℕ) → verdicts_from (blocks_of s) 0 ≡ each (blocks_in s) (refusal_at s)
unfolding refusal_at
verdicts_are s =
    let n = blocks_in s in
    let same : (j : ℕ) → block_refusal n (0 + j) (block_at s j) ≡ block_refusal n j (block_at s j) = λ j. ap (λ k. block_refusal n k (block_at s j)) (zero-add j) in
    ap (λ k. verdicts k 0 (blocks_of s)) (blocks_many s) ∙ verdicts_each n 0 n (block_at s)
    ∙ each_ext n (λ j. block_refusal n (0 + j) (block_at s j)) (λ j. block_refusal n j (block_at s j)) same

map_each : (f : List ℕ → List ℕ) (m : ℕ) (g : ℕ → List ℕ) → map f (each m g) ≡ each m (λ j. f (g j))
map_each f zero g = refl
map_each f (suc m) g = ap (λ l. f (g 0) ∷ l) (map_each f m (λ j. g (suc j)))

pub uses_are : (s : List ℕ) → uses_of (blocks_of s) ≡ program_in s
unfolding program_in
uses_are s = ap flatten (map_each used_in (blocks_in s) (block_at s))

-- ---- a reader

-- at a place, and behind the last block
pub verdict_at : (bs : List (List ℕ)) (i : ℕ) (b : List ℕ) → i < length bs → verdicts_from bs i ≡ block_refusal (length bs) i (get_or bs i b) ∷ verdicts_from bs (i + 1)
verdict_at bs i b h = rw add-one (ap (verdicts (length bs) i) (drop-cons bs i b h))

pub verdict_behind : (bs : List (List ℕ)) (i : ℕ) → length bs ≤ i → verdicts_from bs i ≡ []
verdict_behind bs i h = ap (verdicts (length bs) i) (drop_of_length-le bs {i = i} h)

drop_each : (i m : ℕ) (g : ℕ → List ℕ) → i < m → drop i (each m g) ≡ g i ∷ drop (suc i) (each m g)
drop_each i m g h = drop-cons (each m g) i [] (rw length_each h) ∙ ap (λ (b : List ℕ). b ∷ drop (suc i) (each m g)) (get_or_each m g [] i h)

-- what a reader finds at a place, and that there is no such place
module _ (s : List ℕ) (i : ℕ) (g : bad_length (length s) ≡ false) where
  within : i < blocks_in s → verdicts_from (blocks_of s) i ≡ refusal_at s i ∷ verdicts (blocks_in s) (suc i) (drop (suc i) (blocks_of s))
  unfolding refusal_at
  within h = ap (λ n. verdicts n i (drop i (blocks_of s))) (blocks_many s) ∙ ap (verdicts (blocks_in s) i) (drop_each i (blocks_in s) (block_at s) h)

  beyond : blocks_in s ≤ i → verdicts_from (blocks_of s) i ≡ []
  beyond h = ap (verdicts (length (blocks_of s)) i) (drop_of_length-le (blocks_of s) {i = i} (rw length_each h))

  pub look_head : (k : ℕ) (ks : List ℕ) → verdicts_from (blocks_of s) i ≡ k ∷ ks → look_refusal s i ≡ k
  look_head k ks e = go (ltb i (blocks_in s)) refl
    where
      go : (t : Bool) → ltb i (blocks_in s) ≡ t → look_refusal s i ≡ k
      go true q = let h = ltb-true i (blocks_in s) q in let w = within h in let b = look_block s i g h in cc
      go false q = let w = beyond (ltb-false i (blocks_in s) q) in cc

  pub look_none : verdicts_from (blocks_of s) i ≡ [] → look_refusal s i ≡ 50
  look_none e = go (ltb i (blocks_in s)) refl
    where
      go : (t : Bool) → ltb i (blocks_in s) ≡ t → look_refusal s i ≡ 50
      go true q = let w = within (ltb-true i (blocks_in s) q) in cc
      go false q = look_behind s i g (ltb-false i (blocks_in s) q)

pub fault_some : (f : Fault) → fault_number f ≡ 0 → ⊥
fault_some Check e = omega (arith, e)
fault_some Number e = omega (arith, e)
fault_some Count e = omega (arith, e)

-- a fault is the first
pub fault_first : (f : Fault) (ks : List ℕ) → earliest (fault_number f ∷ ks) ≡ fault_number f
unfolding earliest
fault_first Check ks = refl
fault_first Number ks = refl
fault_first Count ks = refl

-- and a good block is passed over
pub zero_first : (ks : List ℕ) → earliest (0 ∷ ks) ≡ earliest ks
unfolding earliest
zero_first ks = refl

pub none_first : earliest [] ≡ 0
unfolding earliest
none_first = refl

-- ---- what blocks use

pub uses_none : uses_of [] ≡ []
unfolding flatten
uses_none = refl

pub uses_more : (bs : List (List ℕ)) (i : ℕ) → i < length bs → uses_of (take (i + 1) bs) ≡ uses_of (take i bs) ++ used_in (get_or bs i [])
uses_more bs i h =
    rw add-one (ap uses_of (take-suc bs i [] h) ∙ ap flatten (map_append (take i bs) (get_or bs i [] ∷ [])) ∙ flatten_snoc (map used_in (take i bs)) (used_in (get_or bs i [])))
  where
    map_append : (xs ys : List (List ℕ)) → map used_in (xs ++ ys) ≡ map used_in xs ++ map used_in ys
    map_append [] ys = refl
    map_append (x ∷ xs) ys = ap (λ l. used_in x ∷ l) (map_append xs ys)

pub uses_most : (bs : List (List ℕ)) → length (uses_of bs) ≤ 472 * length bs
unfolding flatten
uses_most [] = omega arith
uses_most (b ∷ bs) = let h = uses_most bs in let m = used_most b in rw length-append (omega arith)
