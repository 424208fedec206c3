-- A block as it is made, and that it is good at its place.
use Prim.Native.Nat.{ℕ, ◌+◌, ◌-◌, ◌^◌, ◌≤◌, ◌<◌}
use mathlib.Core.Bool.{true}
use mathlib.Core.List.{List, [], ◌∷◌, ◌++◌, append-nil, append_assoc}
use mathlib.Core.Path.{◌≡◌, refl, sym, ap, ◌∙◌}
use native.Mathlib.Omega.{arith}
use lib.ListN.{length, take, drop, length-append, length-replicate, replicate-append-replicate, drop_of_length-le}
use lib.Seq.{paste, take_all, take_at, drop_at}
use Rattle.std.proofs.lemmas.List.Edits.{paste_all, paste-paste}
use Rattle.rfc7693.specs.Rfc7693.{blake2s}
use Rattle.rfc7693.proofs.Lengths.{digest_length}
use Rattle.endian.specs.Lists.{zeros, padded}
use Rattle.endian.specs.Fields.{field_of, number_in, word_bytes}
use Rattle.endian.proofs.Lists.{drop_replicate}
use Rattle.endian.proofs.Same.{same_refl}
use Rattle.endian.proofs.Words.{bytes_length, word_back}
use Rattle.spool_block.specs.Block.{number_field, program_field, count_in, used_in, filler_in, good_check, good_count, good_filler, block_refusal}
use Rattle.spool_block.specs.Making.{checked_part, block_of}
use Rattle.spool_block.proofs.Blocks.{good_block}

pub word_length : (n : ℕ) → length (word_bytes n) ≡ 4
word_length n = bytes_length 4 (n ∷ [])

pub padded_length : (m : ℕ) (x : List ℕ) → length x ≤ m → length (padded m x) ≡ m
padded_length m x h = rw (length-append, length-replicate) (omega arith)

module _ (i : ℕ) (x : List ℕ) (h : length x ≤ 472) where
  pub part_length : length (checked_part i x) ≡ 480
  unfolding checked_part
  part_length = let a = word_length i in let b = word_length (length x) in let c = padded_length 472 x h in rw (length-append, length-append) (omega arith)

  pub block_length : length (block_of i x) ≡ 512
  unfolding block_of
  block_length = let a = part_length in let b = digest_length (checked_part i x) in rw length-append (omega arith)

-- front and program bytes pasted into zeros
pub unchecked_block : (i : ℕ) (x f : List ℕ) → length x ≤ 472 → f ≡ word_bytes i ++ word_bytes (length x)
    → paste (paste (zeros 512) 0 f (length f)) 8 x (length x) ≡ checked_part i x ++ zeros 32
unfolding checked_part
unchecked_block i x f h e =
    let c = length x in
    let a = word_length i in
    let b = word_length c in
    let l : length f ≡ 8 = rw (e, length-append) (omega arith) in
    let n : 8 + c ≡ length (f ++ x) = rw (length-append, l) in
    let k : 504 - c ≡ 472 - c + 32 = omega arith in
    let m : 512 - (0 + (8 + c)) ≡ 504 - c = omega arith in
    let t : drop (0 + (8 + c)) (zeros 512) ≡ zeros (472 - c) ++ zeros 32 =
    drop_replicate (0 + (8 + c)) 512 0 ∙ ap zeros (m ∙ k) ∙ sym (replicate-append-replicate (472 - c) 32 0) in
    ap (λ j. paste (paste (zeros 512) 0 f j) 8 x c) l ∙ paste-paste (zeros 512) 0 f x 8 c (sym l) refl (omega arith)
    ∙ paste_all (zeros 512) 0 (f ++ x) (8 + c) n ∙ ap (λ (z : List ℕ). f ++ x ++ z) t ∙ regroup f x (zeros (472 - c)) (zeros 32)
    ∙ ap (λ (z : List ℕ). z ++ padded 472 x ++ zeros 32) e
  where
    regroup : (f x y z : List ℕ) → f ++ x ++ (y ++ z) ≡ f ++ (x ++ y) ++ z
    regroup f x y z = simp append_assoc

-- the check pasted behind the first 480 bytes
pub checked : (b z k : List ℕ) → length b ≡ 480 → length z ≡ 32 → k ≡ blake2s [] (take 480 (b ++ z)) 32
    → paste (b ++ z) 480 k (length k) ≡ b ++ blake2s [] b 32
checked b z k e l h =
    let t = take_at b z 480 e in
    let g : k ≡ blake2s [] b 32 = h ∙ ap (λ (y : List ℕ). blake2s [] y 32) t in
    let m = digest_length b in
    let n : drop (480 + length k) (b ++ z) ≡ [] = drop_of_length-le (b ++ z) (rw (length-append, g) (omega arith)) in
    paste_all (b ++ z) 480 k (length k) refl ∙ rw (t, n, g) (ap (λ (y : List ℕ). b ++ y) (append-nil (blake2s [] b 32)))

-- the fields of a block that was made
module _ (i : ℕ) (x : List ℕ) (small : i < 2 ^ 32) (fits : length x ≤ 472) where
  abbrev rest : List ℕ
  rest = padded 472 x ++ blake2s [] (checked_part i x) 32

  parts : block_of i x ≡ word_bytes i ++ (word_bytes (length x) ++ rest)
  unfolding block_of checked_part
  parts = simp append_assoc

  pub number_of_is : number_in number_field (block_of i x) ≡ i
  number_of_is = rw (parts, take_at (word_bytes i) (word_bytes (length x) ++ rest) 4 (word_length i)) (word_back i small)

  behind_number : drop 4 (block_of i x) ≡ word_bytes (length x) ++ rest
  behind_number = rw parts (drop_at (word_bytes i) (word_bytes (length x) ++ rest) 4 (word_length i))

  pub count_of : count_in (block_of i x) ≡ length x
  count_of = rw (behind_number, take_at (word_bytes (length x)) rest 4 (word_length (length x))) (word_back (length x) (omega arith))

  program_of : field_of program_field (block_of i x) ≡ padded 472 x
  program_of =
      let f = word_bytes i ++ word_bytes (length x) in
      let a = word_length i in
      let b = word_length (length x) in
      let l : length f ≡ 8 = rw length-append (omega arith) in
      let e : block_of i x ≡ f ++ rest = parts ∙ sym (append_assoc (word_bytes i) (word_bytes (length x)) rest) in
      let d : drop 8 (block_of i x) ≡ rest = ap (drop 8) e ∙ drop_at f rest 8 l in
      ap (take 472) d ∙ take_at (padded 472 x) (blake2s [] (checked_part i x) 32) 472 (padded_length 472 x fits)

  pub used_of : used_in (block_of i x) ≡ x
  unfolding used_in
  used_of = rw (count_of, program_of) (take_at x (zeros (472 - length x)) (length x) refl)

  filler_of : good_filler (block_of i x) ≡ true
  unfolding good_filler filler_in
  filler_of = rw (count_of, program_of, drop_at x (zeros (472 - length x)) (length x) refl) (same_refl (zeros (472 - length x)))

  check_of : good_check (block_of i x) ≡ true
  unfolding good_check block_of
  check_of =
      let b = checked_part i x in
      let k = blake2s [] b 32 in
      let l = part_length i x fits in
      let m = digest_length b in
      rw (take_at b k 480 l, drop_at b k 480 l, take_all 32 k (omega arith)) (same_refl k)

  -- a block that was made is good where its count is
  pub made_good : (n : ℕ) → good_count n i (length x) ≡ true → block_refusal n i (block_of i x) ≡ 0
  made_good n c = good_block n i (block_of i x) check_of number_of_is (rw count_of c) filler_of
