-- The number of a call by its tests.
use Prim.Native.Nat.{ℕ, zero, suc, ◌*◌, ◌/◌, ◌%◌, ◌<◌, ◌≤◌}
use mathlib.Core.Bool.{Bool, true, false, cond, not, ◌||◌, ◌&&◌}
use mathlib.Core.List.{List, flatten}
use mathlib.Core.Path.{◌≡◌, refl}
use native.Mathlib.Omega.{arith}
use lib.Dec.{eqb, ltb}
use lib.ListN.{length}
use borrow.Author.Tests.{eq-eqb, ne_eqb, eqb-true, eqb-false, lt-ltb, le-ltb, ltb-false}
use Rattle.endian.specs.Lists.{each}
use Rattle.endian.proofs.Cases.{impossible}
use Rattle.endian.specs.Fields.{number_in}
use Rattle.protocol.specs.Commands.{length_ok}
use Rattle.protocol.specs.Replies.{put_in}
use Rattle.spool_block.specs.Block.{number_field, count_in, good_check, good_count, good_filler, block_refusal}
use Rattle.spool.specs.Answers.{refusal_number, outcome, given, with_count}
use Rattle.spool_block.specs.declared.Fault.TheVariants.{Check, Number, Count}
use Rattle.spool.specs.declared.Refusal.{Refusal}
use Rattle.spool.specs.declared.Refusal.TheVariants.{ProgramLength, SpoolLength, Block, RoomLength}
use Rattle.spool.specs.Theorems.{GoodLength}
use Rattle.spool.specs.Reading.{blocks_in, block_at, refusal_at, earliest, bad_length, read_refusal, look_refusal}
use Rattle.spool.specs.Writing.{spool_blocks, write_refusal}
use Rattle.spool.specs.Salvage.{mended_at, salvage_refusal, salvaging_as, salvaging}

-- a length that is not bad
pub good_length : (n : ℕ) → bad_length n ≡ false → GoodLength n
unfolding bad_length
good_length n = go (eqb n 0) (ltb 142336 n) (eqb (n % 512) 0) refl refl refl
  where
    go : (x y z : Bool) → eqb n 0 ≡ x → ltb 142336 n ≡ y → eqb (n % 512) 0 ≡ z → x || y || not z ≡ false → GoodLength n
    go false false true p q r e = record { some = omega (arith, eqb-false n 0 p); most = ltb-false 142336 n q; whole = eqb-true (n % 512) 0 r }
    go false false false p q r e = impossible cc
    go false true z p q r e = impossible cc
    go true y z p q r e = impossible cc

pub length_good : (n : ℕ) → GoodLength n → bad_length n ≡ false
unfolding bad_length
length_good n g = rw (ne_eqb n 0 (λ e. omega (arith, g.some)), le-ltb 142336 n g.most, eq-eqb (n % 512) 0 g.whole)

-- a look at a place
module _ (s : List ℕ) (i : ℕ) where
  pub look_length : bad_length (length s) ≡ true → look_refusal s i ≡ 50
  unfolding look_refusal
  look_length e = rw e

  module _ (g : bad_length (length s) ≡ false) where
    pub look_behind : blocks_in s ≤ i → look_refusal s i ≡ 50
    unfolding look_refusal
    look_behind h = rw (g, le-ltb i (blocks_in s) h)

    pub look_block : i < blocks_in s → look_refusal s i ≡ refusal_at s i
    unfolding look_refusal
    look_block h = rw (g, lt-ltb i (blocks_in s) h)

-- reading
module _ (s : List ℕ) (room : ℕ) where
  pub read_length : bad_length (length s) ≡ true → read_refusal s room ≡ 50
  unfolding read_refusal
  read_length e = rw e

  module _ (g : bad_length (length s) ≡ false) where
    pub read_room : room < 472 * blocks_in s → read_refusal s room ≡ 54
    unfolding read_refusal
    read_room h = rw (g, lt-ltb room (472 * blocks_in s) h)

    pub read_blocks : 472 * blocks_in s ≤ room → read_refusal s room ≡ earliest (each (blocks_in s) (refusal_at s))
    unfolding read_refusal
    read_blocks h = rw (g, le-ltb room (472 * blocks_in s) h)

-- writing
module _ (n room : ℕ) where
  pub write_length : length_ok n ≡ false → write_refusal n room ≡ 40
  unfolding write_refusal
  write_length e = rw e

  module _ (g : length_ok n ≡ true) where
    pub write_room : room < 512 * spool_blocks n → write_refusal n room ≡ 54
    unfolding write_refusal
    write_room h = rw (g, lt-ltb room (512 * spool_blocks n) h)

    pub write_fits : 512 * spool_blocks n ≤ room → write_refusal n room ≡ 0
    unfolding write_refusal
    write_fits h = rw (g, le-ltb room (512 * spool_blocks n) h)

-- salvage
module _ (s spares report : ℕ) where
  pub salvage_length : bad_length s ≡ true → salvage_refusal s spares report ≡ 50
  unfolding salvage_refusal
  salvage_length e = rw e

  module _ (g : bad_length s ≡ false) where
    pub salvage_spares : (spares % 512 ≡ 0 → ⊥) → salvage_refusal s spares report ≡ 50
    unfolding salvage_refusal
    salvage_spares h = rw (g, ne_eqb (spares % 512) 0 h)

    module _ (m : spares % 512 ≡ 0) where
      pub salvage_room : report < s / 512 → salvage_refusal s spares report ≡ 54
      unfolding salvage_refusal
      salvage_room h = rw (g, eq-eqb (spares % 512) 0 m, lt-ltb report (s / 512) h)

      pub salvage_fits : s / 512 ≤ report → salvage_refusal s spares report ≡ 0
      unfolding salvage_refusal
      salvage_fits h = rw (g, eq-eqb (spares % 512) 0 m, le-ltb report (s / 512) h)

-- ---- which numbers there are

abbrev pub Fault : ℕ → Type 0
Fault k = (k ≡ 0 → ⊥) → (51 ≤ k) × (k ≤ 53)

at_fault : (s : List ℕ) (i : ℕ) → Fault (refusal_at s i)
unfolding refusal_at block_refusal
at_fault s i =
    let b = block_at s i in
    go (good_check b) (eqb (number_in number_field b) i) (good_count (blocks_in s) i (count_in b) && good_filler b)
  where
    go : (x y z : Bool) → Fault (cond (not x) 51 (cond (not y) 52 (cond (not z) 53 0)))
    go true true true h = absurd (h refl)
    go true true false h = (omega arith, omega arith)
    go true false z h = (omega arith, omega arith)
    go false y z h = (omega arith, omega arith)

list_fault : (n : ℕ) (f : ℕ → ℕ) → ((i : ℕ) → Fault (f i)) → Fault (earliest (each n f))
unfolding earliest
list_fault zero f h = λ e. absurd (e refl)
list_fault (suc n) f h = one (eqb (f 0) 0) (h 0) (list_fault n (λ i. f (suc i)) (λ i. h (suc i)))
  where
    one : (t : Bool) → Fault (f 0) → Fault (earliest (each n (λ i. f (suc i)))) → Fault (cond t (earliest (each n (λ i. f (suc i)))) (f 0))
    one true a b = b
    one false a b = a

pub earliest_fault : (n : ℕ) (s : List ℕ) → Fault (earliest (each n (refusal_at s)))
earliest_fault n s = list_fault n (refusal_at s) (at_fault s)

-- ---- what a call settles

module _ (k : ℕ) (bytes room : List ℕ) where
  pub given_refused : (k ≡ 0 → ⊥) → given k bytes room ≡ outcome k 0 room
  unfolding given
  given_refused h = rw (ne_eqb k 0 h)

  pub given_all : k ≡ 0 → given k bytes room ≡ outcome 0 (length bytes) (put_in room bytes)
  unfolding given
  given_all e = rw e

-- a refusal's number is not 0, so a lent count stays
pub told : (r : Refusal) (room : List ℕ) (len : ℕ) → outcome (refusal_number r) len room ≡ with_count (outcome (refusal_number r) 0 room) len
unfolding with_count
told ProgramLength room len = refl
told SpoolLength room len = refl
told (Block Check) room len = refl
told (Block Number) room len = refl
told (Block Count) room len = refl
told RoomLength room len = refl

module _ (s spares report : List ℕ) where
  pub salvage_refused : (k : ℕ) → salvage_refusal (length s) (length spares) (length report) ≡ k → (k ≡ 0 → ⊥) → salvaging s spares report ≡ salvaging_as k s report
  unfolding salvaging
  salvage_refused k e h = rw (e, ne_eqb k 0 h)

  pub salvage_all : salvage_refusal (length s) (length spares) (length report) ≡ 0
      → salvaging s spares report
      ≡ salvaging_as 0 (flatten (each (blocks_in s) (λ i. (mended_at s spares i).block))) (put_in report (each (blocks_in s) (λ i. (mended_at s spares i).entry)))
  unfolding salvaging
  salvage_all e = rw e
