-- The number of a reset by what it is given, and what it then leaves.
use Prim.Native.Nat.{ℕ, ◌<◌, ◌≤◌}
use mathlib.Core.Path.{◌≡◌, refl}
use mathlib.Core.Bool.{Bool, true, false, cond, ◌&&◌}
use mathlib.Core.List.{List}
use lib.Dec.{eqb}
use lib.ListN.{length}
use borrow.Author.Tests.{eq-eqb, ne_eqb, lt-ltb, le-ltb, eqb-true, eqb-false}
use Rattle.endian.specs.Lists.{zeros}
use Rattle.endian.proofs.Cases.{impossible}
use Rattle.record.specs.Record.{data_field, has_second}
use Rattle.handover.specs.Reset.{Next, measured_id_for, written_record, inputs_fit, reset_refusal, HandedOver, handed_over, resetting}

-- lengths that fit
pub fit_lengths : (mask a b c : ℕ) → inputs_fit mask a b c ≡ true → (a ≡ 32) × (b ≡ 32) × (c ≡ (data_field (has_second mask)).size)
fit_lengths mask a b c = go (eqb a 32) (eqb b 32) (eqb c (data_field (has_second mask)).size) refl refl refl
  where
    go : (x y z : Bool) → eqb a 32 ≡ x → eqb b 32 ≡ y → eqb c (data_field (has_second mask)).size ≡ z → x && (y && z) ≡ true
        → (a ≡ 32) × (b ≡ 32) × (c ≡ (data_field (has_second mask)).size)
    go true true true p q r e = (eqb-true a 32 p, eqb-true b 32 q, eqb-true c _ r)
    go true true false p q r e = impossible cc
    go true false z p q r e = impossible cc
    go false y z p q r e = impossible cc

module _ (cdi seed : List ℕ) (x : Next) (rec : List ℕ) where
  abbrev fit : Bool
  fit = inputs_fit x.mask (length cdi) (length seed) (length x.next_data)

  pub by_type_is : 5 < x.type → resetting cdi seed x rec ≡ handed_over 44 cdi rec
  unfolding resetting
  by_type_is h = rw (lt-ltb 5 x.type h)

  module _ (t : x.type ≤ 5) where
    pub by_record : (length rec ≡ 256 → ⊥) → resetting cdi seed x rec ≡ handed_over 45 cdi rec
    unfolding resetting
    by_record h = rw (le-ltb 5 x.type t, ne_eqb (length rec) 256 h)

    module _ (r : length rec ≡ 256) where
      pub by_inputs : fit ≡ false → resetting cdi seed x rec ≡ handed_over 46 cdi rec
      unfolding resetting
      by_inputs h = rw (le-ltb 5 x.type t, eq-eqb (length rec) 256 r, h)

      pub by_none : fit ≡ true → resetting cdi seed x rec ≡ handed_over 0 (zeros 32) (written_record x (measured_id_for x.mask cdi seed))
      unfolding resetting
      by_none h = rw (le-ltb 5 x.type t, eq-eqb (length rec) 256 r, h)

-- what an accepted reset gives
pub accepted_is : (cdi seed : List ℕ) (x : Next) (rec : List ℕ) → (resetting cdi seed x rec).number ≡ 0
    → resetting cdi seed x rec ≡ handed_over 0 (zeros 32) (written_record x (measured_id_for x.mask cdi seed))
unfolding resetting
accepted_is cdi seed x rec = go (reset_refusal x.type x.mask (length rec) (length cdi) (length seed) (length x.next_data)) _ refl
  where
    made : HandedOver
    made = handed_over 0 (zeros 32) (written_record x (measured_id_for x.mask cdi seed))

    go : (k : ℕ) (b : Bool) → eqb k 0 ≡ b → (cond b made (handed_over k cdi rec)).number ≡ 0 → cond b made (handed_over k cdi rec) ≡ made
    go k true p e = refl
    go k false p e = absurd (eqb-false k 0 p e)
