-- When each call answers each number.
use Prim.Native.Nat.{ℕ, ◌*◌, ◌%◌, ◌<◌, ◌≤◌}
use mathlib.Core.Bool.{Bool, true, false, ◌&&◌}
use mathlib.Core.List.{List}
use mathlib.Core.Path.{◌≡◌, refl, sym, ap, ◌∙◌}
use native.Mathlib.Omega.{arith}
use lib.Dec.{eqb, ltb, leb}
use lib.ListN.{length}
use borrow.Author.Tests.{eqb-true, eqb-false, ltb-true, ltb-false, leb-true, le-leb}
use Rattle.endian.specs.Lists.{each}
use Rattle.endian.proofs.Cases.{impossible}
use Rattle.protocol.specs.Commands.{length_ok}
use Rattle.protocol.specs.Replies.{put_in}
use Rattle.spool.specs.Answers.{Outcome, outcome, given}
use Rattle.spool.specs.Reading.{blocks_in, refusal_at, earliest, bad_length, program_in, read_refusal, reading, look_refusal}
use Rattle.spool.specs.Writing.{spool_blocks, spool_of, write_refusal, writing}
use Rattle.spool.specs.Salvage.{salvage_refusal, Salvaging, salvaging_as, salvaging}
use Rattle.spool.specs.Theorems.{IsProgram, GoodLength, ReadSettles, WriteSettles, SalvageSettles}
use Rattle.spool.proofs.Firsts.{earliest_at, earliest_none, all_zero_is}
use Rattle.spool.proofs.Numbers.{good_length, length_good, look_length, look_behind, read_length, read_room, read_blocks, write_length, write_room, write_fits, salvage_length, salvage_spares, salvage_room, salvage_fits, salvage_refused, salvage_all, earliest_fault, given_refused, given_all}

-- a bad length is no good one
not_good : (n : ℕ) → bad_length n ≡ true → GoodLength n → ⊥
not_good n b g = impossible (cc (length_good n g))

-- a refused call puts nothing, and an accepted one all
given_number : (k : ℕ) (bytes room : List ℕ) → (given k bytes room).number ≡ k
given_number k bytes room = go (eqb k 0) refl
  where
    go : (t : Bool) → eqb k 0 ≡ t → (given k bytes room).number ≡ k
    go true e = let z = eqb-true k 0 e in ap (λ (x : Outcome). x.number) (given_all k bytes room z) ∙ sym z
    go false e = ap (λ (x : Outcome). x.number) (given_refused k bytes room (eqb-false k 0 e))

-- ---- reading

module _ (s room : List ℕ) where
  pub reading_number : (reading s room).number ≡ read_refusal s (length room)
  unfolding reading
  reading_number = given_number (read_refusal s (length room)) (program_in s) room

  -- by its number
  pub refused_with : (k : ℕ) → read_refusal s (length room) ≡ k → (k ≡ 0 → ⊥) → reading s room ≡ outcome k 0 room
  unfolding reading
  refused_with k e h = rw e (given_refused k (program_in s) room h)

  pub reads_all : read_refusal s (length room) ≡ 0 → reading s room ≡ outcome 0 (length (program_in s)) (put_in room (program_in s))
  unfolding reading
  reads_all e = given_all (read_refusal s (length room)) (program_in s) room e

  read_kept : ((reading s room).number ≡ 0 → ⊥) → reading s room ≡ outcome (reading s room).number 0 room
  read_kept h = let e = reading_number in refused_with (reading s room).number (sym e) h

  -- behind the tests of the lengths
  module _ (g : bad_length (length s) ≡ false) (fits : 472 * blocks_in s ≤ length room) where
    pub from_blocks : read_refusal s (length room) ≡ earliest (each (blocks_in s) (refusal_at s))
    from_blocks = read_blocks s (length room) g fits

  pub read_settles : ReadSettles s room
  read_settles = go (bad_length (length s)) (ltb (length room) (472 * blocks_in s)) refl refl
    where
      n : (reading s room).number ≡ read_refusal s (length room)
      n = reading_number

      go : (x y : Bool) → bad_length (length s) ≡ x → ltb (length room) (472 * blocks_in s) ≡ y → ReadSettles s room
      go true y p q =
          let e = n ∙ read_length s (length room) p in
          let no = not_good (length s) p in
          record {
            refuses_50 = (λ _. no, λ _. e);
            refuses_54 = (λ z. absurd (omega (arith, e, z)), λ z. absurd (no z.0));
            refuses_block = λ z. absurd (no z);
            accepts = (λ z. absurd (omega (arith, e, z)), λ z. absurd (no z.0));
            kept = read_kept;
          }
      go false true p q =
          let h = ltb-true (length room) (472 * blocks_in s) q in
          let e = n ∙ read_room s (length room) p h in
          let g = good_length (length s) p in
          record {
            refuses_50 = (λ z. absurd (omega (arith, e, z)), λ z. absurd (z g));
            refuses_54 = (λ _. (g, h), λ _. e);
            refuses_block = λ _ z. absurd (omega (arith, h, z));
            accepts = (λ z. absurd (omega (arith, e, z)), λ z. absurd (omega (arith, h, z.1)));
            kept = read_kept;
          }
      go false false p q =
          let h = ltb-false (length room) (472 * blocks_in s) q in
          let b = from_blocks p h in
          let e = n ∙ b in
          let g = good_length (length s) p in
          let k = earliest (each (blocks_in s) (refusal_at s)) in
          let f = earliest_fault (blocks_in s) s in
          record {
            refuses_50 = (λ z. absurd (let r = f (λ o. omega (arith, e, z, o)) in omega (arith, r.0, e, z)), λ z. absurd (z g));
            refuses_54 = (λ z. absurd (let r = f (λ o. omega (arith, e, z, o)) in omega (arith, r.1, e, z)), λ z. absurd (omega (arith, h, z.1)));
            refuses_block = λ _ _ i l before bad. refused_with (refusal_at s i) (b ∙ earliest_at (blocks_in s) i (refusal_at s) l before bad) bad;
            accepts = (λ z. (g, h, all_zero_is (blocks_in s) (refusal_at s) (sym e ∙ z)), λ z. e ∙ earliest_none (blocks_in s) (refusal_at s) z.2);
            kept = read_kept;
          }

-- ---- a look

module _ (s : List ℕ) (i : ℕ) where
  pub no_block : (GoodLength (length s) × (i < blocks_in s) → ⊥) → look_refusal s i ≡ 50
  no_block h = go (bad_length (length s)) (ltb i (blocks_in s)) refl refl
    where
      go : (x y : Bool) → bad_length (length s) ≡ x → ltb i (blocks_in s) ≡ y → look_refusal s i ≡ 50
      go true y p q = look_length s i p
      go false true p q = absurd (h (good_length (length s) p, ltb-true i (blocks_in s) q))
      go false false p q = look_behind s i p (ltb-false i (blocks_in s) q)

-- ---- writing

program_ok : (p : List ℕ) → length_ok (length p) ≡ true → IsProgram p
program_ok p = go (leb 1 (length p)) refl
  where
    go : (t : Bool) → leb 1 (length p) ≡ t → t && leb (length p) 131072 ≡ true → IsProgram p
    go true e h = record { some = leb-true 1 (length p) e; most = leb-true (length p) 131072 h }
    go false e h = impossible cc

pub ok_program : (p : List ℕ) → IsProgram p → length_ok (length p) ≡ true
ok_program p is = rw (le-leb 1 (length p) is.some) (le-leb (length p) 131072 is.most)

module _ (p room : List ℕ) where
  writing_number : (writing p room).number ≡ write_refusal (length p) (length room)
  unfolding writing
  writing_number = given_number (write_refusal (length p) (length room)) (spool_of p) room

  write_kept : ((writing p room).number ≡ 0 → ⊥) → writing p room ≡ outcome (writing p room).number 0 room
  unfolding writing
  write_kept h =
      let k = write_refusal (length p) (length room) in
      let e = writing_number in
      given_refused k (spool_of p) room (λ z. h (e ∙ z)) ∙ ap (λ (j : ℕ). outcome j 0 room) (sym e)

  pub writes_all : IsProgram p → 512 * spool_blocks (length p) ≤ length room → writing p room ≡ outcome 0 (length (spool_of p)) (put_in room (spool_of p))
  unfolding writing
  writes_all is h = given_all (write_refusal (length p) (length room)) (spool_of p) room (write_fits (length p) (length room) (ok_program p is) h)

  pub write_settles : WriteSettles p room
  write_settles = go (length_ok (length p)) (ltb (length room) (512 * spool_blocks (length p))) refl refl
    where
      n : (writing p room).number ≡ write_refusal (length p) (length room)
      n = writing_number

      go : (x y : Bool) → length_ok (length p) ≡ x → ltb (length room) (512 * spool_blocks (length p)) ≡ y → WriteSettles p room
      go false y o q =
          let e = n ∙ write_length (length p) (length room) o in
          let no : IsProgram p → ⊥ = λ is. impossible (cc (ok_program p is)) in
          record {
            refuses_40 = (λ _. no, λ _. e);
            refuses_54 = (λ z. absurd (omega (arith, e, z)), λ z. absurd (no z.0));
            accepts = (λ z. absurd (omega (arith, e, z)), λ z. absurd (no z.0));
            kept = write_kept;
          }
      go true true o q =
          let h = ltb-true (length room) (512 * spool_blocks (length p)) q in
          let e = n ∙ write_room (length p) (length room) o h in
          record {
            refuses_40 = (λ z. absurd (omega (arith, e, z)), λ z. absurd (z (program_ok p o)));
            refuses_54 = (λ _. (program_ok p o, h), λ _. e);
            accepts = (λ z. absurd (omega (arith, e, z)), λ z. absurd (omega (arith, h, z.1)));
            kept = write_kept;
          }
      go true false o q =
          let h = ltb-false (length room) (512 * spool_blocks (length p)) q in
          let e = n ∙ write_fits (length p) (length room) o h in
          record {
            refuses_40 = (λ z. absurd (omega (arith, e, z)), λ z. absurd (z (program_ok p o)));
            refuses_54 = (λ z. absurd (omega (arith, e, z)), λ z. absurd (omega (arith, h, z.1)));
            accepts = (λ _. (program_ok p o, h), λ _. e);
            kept = write_kept;
          }

-- ---- salvage

module _ (s x report : List ℕ) where
  abbrev refusal : ℕ
  refusal = salvage_refusal (length s) (length x) (length report)

  pub salvaging_number : (salvaging s x report).number ≡ refusal
  salvaging_number = go (eqb refusal 0) refl
    where
      go : (t : Bool) → eqb refusal 0 ≡ t → (salvaging s x report).number ≡ refusal
      go true e = let z = eqb-true refusal 0 e in ap (λ (y : Salvaging). y.number) (salvage_all s x report z) ∙ sym z
      go false e = ap (λ (y : Salvaging). y.number) (salvage_refused s x report refusal refl (eqb-false refusal 0 e))

  salvage_kept : ((salvaging s x report).number ≡ 0 → ⊥) → salvaging s x report ≡ salvaging_as (salvaging s x report).number s report
  salvage_kept h = salvage_refused s x report (salvaging s x report).number (sym salvaging_number) h

  pub salvage_settles : SalvageSettles s x report
  salvage_settles = go (bad_length (length s)) (eqb (length x % 512) 0) (ltb (length report) (blocks_in s)) refl refl refl
    where
      n : (salvaging s x report).number ≡ refusal
      n = salvaging_number

      go : (w y z : Bool) → bad_length (length s) ≡ w → eqb (length x % 512) 0 ≡ y → ltb (length report) (blocks_in s) ≡ z → SalvageSettles s x report
      go true y z o p q =
          let e = n ∙ salvage_length (length s) (length x) (length report) o in
          let no = not_good (length s) o in
          record {
            refuses_50 = (λ _ g. no g.0, λ _. e);
            refuses_54 = (λ r. absurd (omega (arith, e, r)), λ r. absurd (no r.0));
            accepts = (λ r. absurd (omega (arith, e, r)), λ r. absurd (no r.0));
            kept = salvage_kept;
          }
      go false false z o p q =
          let h = eqb-false (length x % 512) 0 p in
          let e = n ∙ salvage_spares (length s) (length x) (length report) o h in
          record {
            refuses_50 = (λ _ g. h g.1, λ _. e);
            refuses_54 = (λ r. absurd (omega (arith, e, r)), λ r. absurd (h r.1));
            accepts = (λ r. absurd (omega (arith, e, r)), λ r. absurd (h r.1));
            kept = salvage_kept;
          }
      go false true true o p q =
          let g = good_length (length s) o in
          let m = eqb-true (length x % 512) 0 p in
          let h = ltb-true (length report) (blocks_in s) q in
          let e = n ∙ salvage_room (length s) (length x) (length report) o m h in
          record {
            refuses_50 = (λ r. absurd (omega (arith, e, r)), λ r. absurd (r (g, m)));
            refuses_54 = (λ _. (g, m, h), λ _. e);
            accepts = (λ r. absurd (omega (arith, e, r)), λ r. absurd (omega (arith, h, r.2)));
            kept = salvage_kept;
          }
      go false true false o p q =
          let g = good_length (length s) o in
          let m = eqb-true (length x % 512) 0 p in
          let h = ltb-false (length report) (blocks_in s) q in
          let e = n ∙ salvage_fits (length s) (length x) (length report) o m h in
          record {
            refuses_50 = (λ r. absurd (omega (arith, e, r)), λ r. absurd (r (g, m)));
            refuses_54 = (λ r. absurd (omega (arith, e, r)), λ r. absurd (omega (arith, h, r.2)));
            accepts = (λ _. (g, m, h), λ _. e);
            kept = salvage_kept;
          }
