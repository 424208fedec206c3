-- The theorem of specs/Theorems.antt.
use Prim.Native.Nat.{ℕ, ◌*◌, ◌/◌, ◌%◌, ◌<◌, ◌≤◌}
use mathlib.Core.Bool.{cond}
use mathlib.Core.List.{List, [], ◌∷◌, flatten}
use mathlib.Core.Logic.{◌↔◌}
use mathlib.Core.Path.{◌≡◌, refl, sym, ap, subst, ◌∙◌}
use native.Mathlib.Omega.{arith}
use lib.Dec.{eqb}
use lib.ListN.{length, take, drop, get_or, get_or-append}
use lib.Seq.{take-append_seam}
use borrow.Author.Tests.{eqb-true, eqb-false}
use Rattle.rfc7693.specs.Rfc7693.{rotr, words, iv, sigma, added, xor_rotated, G, work_vector, round, rounds, F, input, block_count, leading, compressions, compressed, initial, blake2s}
use Rattle.rfc7693.specs.Rfc7693 as rfc
use Rattle.endian.specs.Endian.{word, first_bytes}
use Rattle.endian.specs.Lists.{each, zeros, Bytes}
use Rattle.endian.proofs.Lists.{length_each, get_or_each}
use Rattle.protocol.specs.Replies.{put_in}
use Rattle.spool_block.specs.Block.{block_refusal, good_check}
use Rattle.spool.specs.Answers.{number_of, Outcome, outcome}
use Rattle.spool.specs.Reading.{blocks_in, block_at, refusal_at, bad_length, program_in, reading}
use Rattle.spool.specs.Writing.{spool_blocks, spool_of, writing}
use Rattle.spool.specs.Salvage.{first_good, mended, mended_at, salvage_refusal, salvaging_as, salvaging}
use Rattle.spool.specs.Theorems.{IsProgram, GoodLength, Fate, keeps, replaces, loses, Salvaged, Spools}
use Rattle.std.specs.Prelude.{Result, Ok, Err}
use Rattle.spool_block.specs.declared.Fault.{Fault}
use Rattle.spool_block.specs.declared.Fault.TheVariants.{Check, Number, Count}
use Rattle.spool.specs.declared.Refusal.{Refusal}
use Rattle.spool.specs.declared.Refusal.TheVariants.{ProgramLength, SpoolLength, Block, RoomLength}
use Rattle.spool.proofs.Mending.{block_whole, by_mended, mended_whole}
use Rattle.spool.proofs.Numbers.{length_good, look_block, salvage_all}
use Rattle.spool.proofs.Parts.{front, front_ext, front_length, parts_back, part_of}
use Rattle.spool.proofs.Rooms.{put_length, put_rest}
use Rattle.spool.proofs.Settles.{reading_number, reads_all, read_settles, no_block, writes_all, write_settles, salvaging_number, salvage_settles}
use Rattle.spool.proofs.Whole.{spool_blocks_is, spool_good, spool_all, spool_program, reads_program, reads_spool}

-- ---- the numbers

fault_with : ℕ → Fault
fault_with n = cond (eqb n 51) Check (cond (eqb n 52) Number Count)

-- what a number settles
abbrev settled_with : ℕ → Result Unit Refusal
settled_with n =
    cond (eqb n 0) (Ok tt)
    (cond (eqb n 40) (Err ProgramLength)
    (cond (eqb n 50) (Err SpoolLength)
    (cond (eqb n 54) (Err RoomLength) (Err (Block (fault_with n))))))

settled_back : (x : Result Unit Refusal) → settled_with (number_of x) ≡ x
unfolding fault_with
settled_back (Ok _) = refl
settled_back (Err ProgramLength) = refl
settled_back (Err SpoolLength) = refl
settled_back (Err (Block Check)) = refl
settled_back (Err (Block Number)) = refl
settled_back (Err (Block Count)) = refl
settled_back (Err RoomLength) = refl

-- ---- written and read

-- what stands at the front of a room
front_is : (room x : List ℕ) → take (length x) (put_in room x) ≡ x
unfolding put_in
front_is room x = take-append_seam x (drop (length x) room)

same_front : (room x y : List ℕ) → length x ≡ length y → put_in room x ≡ put_in room y → x ≡ y
same_front room x y l e = sym (front_is room x) ∙ ap (take (length x)) e ∙ ap (λ (k : ℕ). take k (put_in room y)) l ∙ front_is room y

written_reads : (p room : List ℕ) → IsProgram p → 472 * blocks_in (spool_of p) ≤ length room → reading (spool_of p) room ≡ outcome 0 (length p) (put_in room p)
written_reads p room is fits =
    let z = (read_settles (spool_of p) room).accepts.1 (spool_good p is, fits, spool_all p is) in
    reads_all (spool_of p) room (sym (reading_number (spool_of p) room) ∙ z) ∙ ap (λ (q : List ℕ). outcome 0 (length q) (put_in room q)) (spool_program p is)

round_trip : (p out room : List ℕ) → IsProgram p → 512 * spool_blocks (length p) ≤ length out → 472 * spool_blocks (length p) ≤ length room
    → reading (take (writing p out).len (writing p out).room) room ≡ outcome 0 (length p) (put_in room p)
round_trip p out room is h fits =
    let w = writes_all p out is h in
    ap (λ (x : Outcome). reading (take x.len x.room) room) w
    ∙ ap (λ (s : List ℕ). reading s room) (front_is out (spool_of p))
    ∙ written_reads p room is (rw (spool_blocks_is p) fits)

exactly : (s p room : List ℕ) → Bytes s → 472 * blocks_in s ≤ length room → (reading s room ≡ outcome 0 (length p) (put_in room p)) ↔ (IsProgram p × (s ≡ spool_of p))
exactly s p room bytes fits = (there, λ h. ap (λ (z : List ℕ). reading z room) h.1 ∙ written_reads p room h.0 (subst (λ (z : List ℕ). 472 * blocks_in z ≤ length room) h.1 fits))
  where
    there : reading s room ≡ outcome 0 (length p) (put_in room p) → IsProgram p × (s ≡ spool_of p)
    there e =
        let z : (reading s room).number ≡ 0 = ap (λ (x : Outcome). x.number) e in
        let a = (read_settles s room).accepts.0 z in
        let q = program_in s in
        let r = sym (reads_all s room (sym (reading_number s room) ∙ z)) ∙ e in
        let i : q ≡ p = same_front room q p (ap (λ (x : Outcome). x.len) r) (ap (λ (x : Outcome). x.room) r) in
        (subst IsProgram i (reads_program s bytes a.0 a.2), sym (reads_spool s bytes a.0 a.2) ∙ ap spool_of i)

one_spool : (s t room : List ℕ) → Bytes s → Bytes t → (reading s room).number ≡ 0 → reading s room ≡ reading t room → s ≡ t
one_spool s t room bs bt z e =
    let y : (reading t room).number ≡ 0 = sym (ap (λ (x : Outcome). x.number) e) ∙ z in
    let a = (read_settles s room).accepts.0 z in
    let b = (read_settles t room).accepts.0 y in
    let r = reads_all t room (sym (reading_number t room) ∙ y) in
    ((exactly s (program_in t) room bs a.1).0 (e ∙ r)).1 ∙ sym ((exactly t (program_in t) room bt b.1).0 r).1

-- ---- salvaged

module _ {n i : ℕ} {x b : List ℕ} where
  -- a place that is not lost then has a good block, and a lost one has not
  after_good : {a : List ℕ} {v : ℕ} → Fate n i x b a v → (v ≡ 2 → ⊥) → block_refusal n i a ≡ 0
  after_good (keeps g) h = g
  after_good (replaces bad k l g f) h = g
  after_good (loses bad none) h = absurd (h refl)

  after_bad : {a : List ℕ} {v : ℕ} → Fate n i x b a v → v ≡ 2 → block_refusal n i a ≡ 0 → ⊥
  after_bad (keeps g) e = absurd (omega arith)
  after_bad (replaces bad k l g f) e = absurd (omega arith)
  after_bad (loses bad none) e = bad

  no_spare : {a : List ℕ} {v : ℕ} → Fate n i x b a v → v ≡ 2 → (j : ℕ) → j < blocks_in x → block_refusal n i (block_at x j) ≡ 0 → ⊥
  no_spare (keeps g) e = absurd (omega arith)
  no_spare (replaces bad k l g f) e = absurd (omega arith)
  no_spare (loses bad none) e = none

  -- where good blocks are one's own
  after_own : {a : List ℕ} {v : ℕ} (q : List ℕ) → Fate n i x b a v → (v ≡ 2 → ⊥) → (block_refusal n i b ≡ 0 → b ≡ q)
      → ((k : ℕ) → k < blocks_in x → block_refusal n i (block_at x k) ≡ 0 → block_at x k ≡ q) → a ≡ q
  after_own q (keeps g) h own spare = own g
  after_own q (replaces bad k l g f) h own spare = spare k l g
  after_own q (loses bad none) h own spare = absurd (h refl)

module _ (s x report : List ℕ) (accepted : salvage_refusal (length s) (length x) (length report) ≡ 0) where
  abbrev n : ℕ
  n = blocks_in s

  abbrev blocks : ℕ → List ℕ
  blocks i = (mended_at s x i).block

  abbrev entries : ℕ → ℕ
  entries i = (mended_at s x i).entry

  abbrev t : List ℕ
  t = front n blocks

  abbrev r : List ℕ
  r = put_in report (each n entries)

  terms : GoodLength (length s) × (length x % 512 ≡ 0) × (n ≤ length report)
  terms = (salvage_settles s x report).accepts.0 (salvaging_number s x report ∙ accepted)

  whole : (i : ℕ) → i < n → length (blocks i) ≡ 512
  whole i h = mended_whole n i x (block_at s i) (block_whole s i h)

  size : length t ≡ length s
  size = let l = front_length 512 n blocks whole in let w = terms.0.whole in omega arith

  block_at_is : (i : ℕ) → i < n → block_at t i ≡ blocks i
  block_at_is i h = part_of 512 n blocks (record { full = λ j k. whole j (omega arith); most = λ j k. omega (arith, whole j k) }) i h

  entry_at : (i : ℕ) → i < n → get_or r i 0 ≡ entries i
  unfolding put_in
  entry_at i h = let l = length_each n entries in get_or-append (each n entries) (drop (length (each n entries)) report) 0 i (omega arith) ∙ get_or_each n entries 0 i h

  rest : (length r ≡ length report) × (drop n r ≡ drop n report)
  rest =
      let l = length_each n entries in
      let m = terms.2 in
      (put_length report (each n entries) (omega arith), subst (λ (k : ℕ). drop k r ≡ drop k report) l (put_rest report (each n entries)))

  fate : (i : ℕ) → i < n → Fate n i x (block_at s i) (blocks i) (entries i)
  fate i h =
      by_mended n i x (block_at s i) (λ m. Fate n i x (block_at s i) m.block m.entry)
      (λ g. keeps (eqb-true _ 0 g))
      (λ k bad f l. replaces (eqb-false _ 0 bad) k l (eqb-true _ 0 (f.good l)) (λ j q. eqb-false _ 0 (f.before j q)))
      (λ bad none. loses (eqb-false _ 0 bad) (λ j q. eqb-false _ 0 (none j q)))

  places : (i : ℕ) → i < n → Fate n i x (block_at s i) (block_at t i) (get_or r i 0)
  places i h = rw (block_at_is i h, entry_at i h) (fate i h)

  good_at : (i : ℕ) → i < n → refusal_at t i ≡ block_refusal n i (block_at t i)
  unfolding refusal_at
  good_at i h = rw size

  reads : (room : List ℕ) → 472 * n ≤ length room → ((reading t room).number ≡ 0) ↔ ((i : ℕ) → i < n → get_or r i 0 ≡ 2 → ⊥)
  reads room fits =
      let k : blocks_in t ≡ n = ap (λ (j : ℕ). j / 512) size in (
        λ z i h e. after_bad (places i h) e (sym (good_at i h) ∙ ((read_settles t room).accepts.0 z).2 i (rw k h)),
        λ none. (read_settles t room).accepts.1
            (rw size terms.0, rw k fits, λ i h. let l : i < n = subst (λ (j : ℕ). i < j) k h in good_at i l ∙ after_good (places i l) (none i l)),
      )

  mends : (p : List ℕ) → IsProgram p → length s ≡ length (spool_of p)
      → ((i : ℕ) → i < n → refusal_at s i ≡ 0 → block_at s i ≡ block_at (spool_of p) i)
      → ((i k : ℕ) → i < n → k < blocks_in x → block_refusal n i (block_at x k) ≡ 0 → block_at x k ≡ block_at (spool_of p) i)
      → ((i : ℕ) → i < n → get_or r i 0 ≡ 2 → ⊥) → t ≡ spool_of p
  unfolding refusal_at
  mends p is l own spare none =
      let w = terms.0.whole in
      front_ext n blocks (block_at (spool_of p))
      (λ i h. after_own (block_at (spool_of p) i) (fate i h) (λ e. none i h (entry_at i h ∙ e)) (own i h) (λ k q. spare i k h q))
      ∙ parts_back 512 n (spool_of p) (omega arith)

  salvaged_places : Salvaged s x report t r
  salvaged_places = record { size = size; places = places; rest = rest; reads = reads; mends = mends }

salvaged : (s x report : List ℕ) → (salvaging s x report).number ≡ 0 → Salvaged s x report (salvaging s x report).spool (salvaging s x report).report
salvaged s x report e =
    let z = sym (salvaging_number s x report) ∙ e in
    rw (salvage_all s x report z) (salvaged_places s x report z)

own_good : (p : List ℕ) → IsProgram p → (i : ℕ) → i < blocks_in (spool_of p) → block_refusal (blocks_in (spool_of p)) i (block_at (spool_of p) i) ≡ 0
unfolding refusal_at
own_good p is i h = spool_all p is i h

own_spares : (p s report : List ℕ) → IsProgram p → length s ≡ length (spool_of p) → (salvaging s (spool_of p) report).number ≡ 0
    → (i : ℕ) → i < blocks_in s → get_or (salvaging s (spool_of p) report).report i 0 ≡ 2 → ⊥
own_spares p s report is l e i h two =
    let k : blocks_in s ≡ blocks_in (spool_of p) = ap (λ (j : ℕ). j / 512) l in
    let m : i < blocks_in (spool_of p) = subst (λ (j : ℕ). i < j) k h in
    no_spare ((salvaged s (spool_of p) report e).places i h) two i m (subst (λ (j : ℕ). block_refusal j i (block_at (spool_of p) i) ≡ 0) (sym k) (own_good p is i m))

lost : salvaging (zeros 512) [] (7 ∷ 8 ∷ []) ≡ salvaging_as 0 (zeros 512) (2 ∷ 8 ∷ [])
unfolding salvaging salvage_refusal bad_length mended first_good block_refusal good_check put_in flatten word rotr words first_bytes iv sigma added xor_rotated G work_vector round rounds F input rfc.block_at block_count leading compressions compressed initial blake2s
lost = refl

pub spools : Spools
spools = record {
  answers = λ x y e. sym (settled_back x) ∙ ap settled_with e ∙ settled_back y;
  reads = read_settles;
  writes = write_settles;
  salvages = salvage_settles;
  looks = λ s i g h. look_block s i (length_good (length s) g) h;
  no_block = no_block;
  round = round_trip;
  exactly = exactly;
  one_spool = one_spool;
  salvaged = salvaged;
  own_spares = own_spares;
  lost = lost;
}
