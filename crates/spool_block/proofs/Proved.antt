-- The theorem of specs/Theorems.antt.
use Prim.Native.Nat.{ℕ, zero, suc, ◌+◌, ◌-◌, ◌*◌, ◌/◌, ◌%◌, ◌^◌, ◌<◌, ◌≤◌}
use mathlib.Core.Bool.{Bool, true, false, cond, not, ◌&&◌}
use mathlib.Core.List.{List, [], ◌∷◌, ◌++◌}
use mathlib.Core.Logic.{◌↔◌}
use mathlib.Core.Path.{◌≡◌, refl, sym, ap, subst, ◌∙◌}
use native.Mathlib.Omega.{arith}
use lib.Dec.{eqb, leb}
use lib.ListN.{length, take, drop, length-drop, take-append-drop}
use lib.Seq.{take_all, take-add, length-take-le}
use borrow.Author.Tests.{eq-eqb, eqb-true, eqb-false, le-leb, leb-true}
use Rattle.rfc7693.specs.Rfc7693.{rotr, words, iv, sigma, added, xor_rotated, G, work_vector, round, rounds, F, input, block_at, block_count, leading, compressions, compressed, initial, blake2s}
use Rattle.endian.specs.Endian.{word, first_bytes}
use Rattle.endian.specs.Lists.{zeros, padded, Bytes}
use Rattle.endian.specs.Fields.{field_of, number_in, word_bytes}
use Rattle.endian.proofs.Cases.{impossible}
use Rattle.endian.proofs.Same.{same_exactly}
use Rattle.spool_block.specs.Block.{number_field, count_field, program_field, check_field, checked_field, count_in, used_in, filler_in, good_check, good_count, good_filler, block_refusal}
use Rattle.spool_block.specs.Making.{checked_part, block_of}
use Rattle.spool_block.specs.Theorems.{CountFits, CheckIs, NumberIs, ContentsAre, Settles, Blocks}
use Rattle.spool_block.proofs.Blocks.{is_good_when, count_most, used_length}
use Rattle.spool_block.proofs.Made.{block_length, used_of, count_of, made_good}

-- ---- each test, as what it says

check_says : (b : List ℕ) → (good_check b ≡ true) ↔ CheckIs b
unfolding good_check
check_says b = same_exactly (field_of check_field b) (blake2s [] (field_of checked_field b) 32)

filler_says : (b : List ℕ) → (good_filler b ≡ true) ↔ (filler_in b ≡ zeros (472 - count_in b))
unfolding good_filler
filler_says b = same_exactly (filler_in b) (zeros (472 - count_in b))

count_fits : (n i c : ℕ) → good_count n i c ≡ true → CountFits n i c
unfolding good_count
count_fits n i c = go (eqb (i + 1) n) (leb 1 c) (eqb i 277) refl refl refl
  where
    go : (x y z : Bool) → eqb (i + 1) n ≡ x → leb 1 c ≡ y → eqb i 277 ≡ z → cond x (y && leb c (cond z 328 472)) (eqb c 472) ≡ true → CountFits n i c
    go true true true p q r e =
        let l = leb-true c 328 e in
        record { full = λ h. absurd (h (eqb-true (i + 1) n p)); last = λ _. (leb-true 1 c q, omega arith); most = λ _ _. l }
    go true true false p q r e =
        record { full = λ h. absurd (h (eqb-true (i + 1) n p)); last = λ _. (leb-true 1 c q, leb-true c 472 e); most = λ _ h. absurd (eqb-false i 277 r h) }
    go true false z p q r e = impossible cc
    go false y z p q r e =
        record { full = λ _. eqb-true c 472 e; last = λ h. absurd (eqb-false (i + 1) n p h); most = λ h _. absurd (eqb-false (i + 1) n p h) }

fits_count : (n i c : ℕ) → CountFits n i c → good_count n i c ≡ true
unfolding good_count
fits_count n i c f = go (eqb (i + 1) n) (eqb i 277) refl refl
  where
    go : (x z : Bool) → eqb (i + 1) n ≡ x → eqb i 277 ≡ z → cond x (leb 1 c && leb c (cond z 328 472)) (eqb c 472) ≡ true
    go true true p r =
        let h = eqb-true (i + 1) n p in
        rw (le-leb 1 c (f.last h).0) (le-leb c 328 (f.most h (eqb-true i 277 r)))
    go true false p r = let h = f.last (eqb-true (i + 1) n p) in rw (le-leb 1 c h.0) (le-leb c 472 h.1)
    go false z p r = eq-eqb c 472 (f.full (eqb-false (i + 1) n p))

contents_say : (n i : ℕ) (b : List ℕ) → (good_count n i (count_in b) && good_filler b ≡ true) ↔ ContentsAre n i b
contents_say n i b = (both (good_count n i (count_in b)) refl, λ c. rw (fits_count n i (count_in b) c.0) ((filler_says b).1 c.1))
  where
    both : (t : Bool) → good_count n i (count_in b) ≡ t → t && good_filler b ≡ true → ContentsAre n i b
    both true p e = (count_fits n i (count_in b) p, (filler_says b).0 e)
    both false p e = impossible cc

number_says : (i : ℕ) (b : List ℕ) → (eqb (number_in number_field b) i ≡ true) ↔ NumberIs i b
number_says i b = (eqb-true (number_in number_field b) i, eq-eqb (number_in number_field b) i)

-- ---- when a block gives which number

-- three tests in a row, of which each says something
pub record InOrder (C N U : Type 0) (k : ℕ) : Type 0 where
  pub none : (k ≡ 0) ↔ (C × N × U)
  pub first : (k ≡ 51) ↔ (C → ⊥)
  pub second : (k ≡ 52) ↔ (C × (N → ⊥))
  pub third : (k ≡ 53) ↔ (C × N × (U → ⊥))

never : {A : Type 0} → false ≡ true → A
never e = impossible cc

in_order : {C N U : Type 0} (w x u : Bool) → ((w ≡ true) ↔ C) → ((x ≡ true) ↔ N) → ((u ≡ true) ↔ U)
    → InOrder C N U (cond (not w) 51 (cond (not x) 52 (cond (not u) 53 0)))
in_order true true true c n u = record {
  none = (λ _. (c.0 refl, n.0 refl, u.0 refl), λ _. refl);
  first = (λ e. absurd (omega arith), λ f. absurd (f (c.0 refl)));
  second = (λ e. absurd (omega arith), λ f. absurd (f.1 (n.0 refl)));
  third = (λ e. absurd (omega arith), λ f. absurd (f.2 (u.0 refl)));
}
in_order true true false c n u = record {
  none = (λ e. absurd (omega arith), λ f. never (u.1 f.2));
  first = (λ e. absurd (omega arith), λ f. absurd (f (c.0 refl)));
  second = (λ e. absurd (omega arith), λ f. absurd (f.1 (n.0 refl)));
  third = (λ _. (c.0 refl, n.0 refl, λ y. never (u.1 y)), λ _. refl);
}
in_order true false u c n d = record {
  none = (λ e. absurd (omega arith), λ f. never (n.1 f.1));
  first = (λ e. absurd (omega arith), λ f. absurd (f (c.0 refl)));
  second = (λ _. (c.0 refl, λ y. never (n.1 y)), λ _. refl);
  third = (λ e. absurd (omega arith), λ f. never (n.1 f.1));
}
in_order false x u c n d = record {
  none = (λ e. absurd (omega arith), λ f. never (c.1 f.0));
  first = (λ _ y. never (c.1 y), λ _. refl);
  second = (λ e. absurd (omega arith), λ f. never (c.1 f.0));
  third = (λ e. absurd (omega arith), λ f. never (c.1 f.0));
}

settles : (n i : ℕ) (b : List ℕ) → Settles n i b
unfolding block_refusal
settles n i b =
    let o = in_order (good_check b) (eqb (number_in number_field b) i) (good_count n i (count_in b) && good_filler b) (check_says b) (number_says i b) (contents_say n i b) in
    record { good = o.none; check = o.first; number = o.second; contents = o.third }

-- ---- a good block is the one that is made

-- four bytes are those of their number
digit : (q b r : ℕ) → b < 256 → q ≡ b + r * 256 → (q % 256 ≡ b) × (q / 256 ≡ r)
digit q b r h e = (omega arith, omega arith)

quotients : (w : ℕ) → (w / 256 / 256 ≡ w / 65536) × (w / 65536 / 256 ≡ w / 16777216)
quotients w = (omega arith, omega arith)

bytes_of : (w a b c d : ℕ) → a < 256 → b < 256 → c < 256 → d < 256 → w ≡ a + (b + (c + d * 256) * 256) * 256
    → w / 1 % 256 ∷ w / 256 % 256 ∷ w / 65536 % 256 ∷ w / 16777216 % 256 ∷ [] ≡ a ∷ b ∷ c ∷ d ∷ []
bytes_of w a b c d ha hb hc hd e =
    let q = quotients w in
    let d0 = digit w a (b + (c + d * 256) * 256) ha e in
    let d1 = digit (w / 256) b (c + d * 256) hb d0.1 in
    let d2 = digit (w / 65536) c d hc (sym q.0 ∙ d1.1) in
    let h : w / 16777216 ≡ d = sym q.1 ∙ d2.1 in
    let d3 : w / 16777216 % 256 ≡ d = omega arith in
    let o : w / 1 ≡ w = omega arith in
    rw (o, d0.0, d1.0, d2.0, d3)

four_back : (a b c d : ℕ) → a < 256 → b < 256 → c < 256 → d < 256 → word_bytes (word (a ∷ b ∷ c ∷ d ∷ []) 0) ≡ a ∷ b ∷ c ∷ d ∷ []
unfolding word first_bytes
four_back a b c d ha hb hc hd = bytes_of (a + b * 256 + c * 65536 + d * 16777216) a b c d ha hb hc hd (omega arith)

word_bytes_is : (l : List ℕ) → Bytes l → length l ≡ 4 → word_bytes (word l 0) ≡ l
word_bytes_is [] h e = absurd (omega arith)
word_bytes_is (a ∷ []) h e = absurd (omega arith)
word_bytes_is (a ∷ b ∷ []) h e = absurd (omega arith)
word_bytes_is (a ∷ b ∷ c ∷ []) h e = absurd (omega arith)
word_bytes_is (a ∷ b ∷ c ∷ d ∷ []) h e = four_back a b c d h.0 h.1.0 h.1.1.0 h.1.1.1.0
word_bytes_is (a ∷ b ∷ c ∷ d ∷ x ∷ l) h e = absurd (omega arith)

pub all_take : (n : ℕ) (l : List ℕ) → Bytes l → Bytes (take n l)
all_take zero l h = tt
all_take (suc n) [] h = tt
all_take (suc n) (x ∷ l) h = (h.0, all_take n l h.1)

pub all_drop : (n : ℕ) (l : List ℕ) → Bytes l → Bytes (drop n l)
all_drop zero l h = h
all_drop (suc n) [] h = tt
all_drop (suc n) (x ∷ l) h = all_drop n l h.1

-- the program bytes are those that are used, and the filler
program_parts : (b : List ℕ) → length (used_in b) ≡ count_in b → filler_in b ≡ zeros (472 - count_in b) → field_of program_field b ≡ padded 472 (used_in b)
unfolding used_in filler_in
program_parts b u f =
    let p = field_of program_field b in
    let c = count_in b in
    sym (take-append-drop c p) ∙ ap (λ (x : List ℕ). take c p ++ x) (f ∙ ap (λ (k : ℕ). zeros (472 - k)) (sym u))

-- and all fields stand one behind the other
checked_parts : (b : List ℕ) → field_of checked_field b ≡ field_of number_field b ++ field_of count_field b ++ field_of program_field b
checked_parts b = take-add 8 472 b ∙ ap (λ (x : List ℕ). x ++ take 472 (drop 8 b)) (take-add 4 4 b)

all_parts : (b : List ℕ) → length b ≡ 512 → b ≡ field_of checked_field b ++ field_of check_field b
all_parts b l =
    let t : take 32 (drop 480 b) ≡ drop 480 b = take_all 32 (drop 480 b) (rw length-drop (omega arith)) in
    sym (take-append-drop 480 b) ∙ ap (λ (x : List ℕ). take 480 b ++ x) (sym t)

only : (n i : ℕ) (b : List ℕ) → Bytes b → length b ≡ 512 → block_refusal n i b ≡ 0 → b ≡ block_of i (used_in b)
unfolding block_of checked_part
only n i b h l e =
    let g = (settles n i b).good.0 e in
    let c = count_most n i (count_in b) (is_good_when n i b e).count in
    let u = used_length b (omega arith) c in
    let four : length (take 4 b) ≡ 4 = length-take-le 4 b (omega arith) in
    let next : length (take 4 (drop 4 b)) ≡ 4 = length-take-le 4 (drop 4 b) (rw length-drop (omega arith)) in
    let a : field_of number_field b ≡ word_bytes i = sym (word_bytes_is (take 4 b) (all_take 4 b h) four) ∙ ap word_bytes g.1 in
    let d : field_of count_field b ≡ word_bytes (length (used_in b)) =
    sym (word_bytes_is (take 4 (drop 4 b)) (all_take 4 (drop 4 b) (all_drop 4 b h)) next) ∙ ap word_bytes (sym u) in
    let p : field_of program_field b ≡ padded 472 (used_in b) = program_parts b u g.2.1 in
    let front : field_of checked_field b ≡ checked_part i (used_in b) = checked_parts b ∙ join a d p in
    all_parts b l ∙ ap (λ (x : List ℕ). x ++ field_of check_field b) front
    ∙ ap (λ (x : List ℕ). checked_part i (used_in b) ++ x) (g.0 ∙ ap (λ (x : List ℕ). blake2s [] x 32) front)
  where
    join : {a d p x y z : List ℕ} → a ≡ x → d ≡ y → p ≡ z → a ++ d ++ p ≡ x ++ y ++ z
    join e f g = cc

made : (n i : ℕ) (x : List ℕ) → i < 2 ^ 32 → length x ≤ 472 → (block_refusal n i (block_of i x) ≡ 0) ↔ CountFits n i (length x)
made n i x small fits =
    (λ e. subst (CountFits n i) (count_of i x small fits) ((settles n i (block_of i x)).good.0 e).2.0, λ f. made_good i x small fits n (fits_count n i (length x) f))

pub blocks : Blocks
unfolding block_of checked_part word rotr words first_bytes iv sigma added xor_rotated G work_vector round rounds F input block_at block_count leading compressions compressed initial blake2s
blocks = record {
  settles = settles;
  size = block_length;
  uses = used_of;
  made = made;
  only = only;
  example = refl;
}
