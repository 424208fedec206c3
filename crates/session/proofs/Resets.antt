-- What a reset fixes: what the head goes by, which digest may start, and how the bytes of a start read.
use Prim.Native.Nat.{ℕ, ◌<◌}
use mathlib.Core.Path.{◌≡◌, refl, sym}
use mathlib.Core.Logic.{◌↔◌, ◌⊎◌, inl, inr, ⊎_elim, ⊎_map}
use mathlib.Core.Bool.{Bool, true, false, cond, ◌||◌}
use mathlib.Core.Option.{none, some}
use mathlib.Core.List.{List}
use native.Mathlib.Omega.{arith}
use lib.Dec.{eqb, ltb}
use lib.ListN.{length}
use borrow.Author.Tests.{ltb-false, eqb-true, eqb-false, ne_eqb}
use Rattle.endian.proofs.Cases.{impossible}
use Rattle.record.specs.Record.{mask_field, number_in, known_type, has_second, digests_at, record_at}
use Rattle.record.specs.Types.{is_type, alone, one_of}
use Rattle.record.proofs.Proved.{records}
use Rattle.head.specs.Start.{allowed}
use Rattle.head.specs.Begin.{config_of}
use Rattle.session.specs.Reading.{type_of, Recorded, Allowed, Starting}
use Rattle.session.specs.Session.{Reset}
use Rattle.record.specs.declared.Digests.{Digests}
use Rattle.head.specs.declared.Config.{Config}

-- the bytes of a start
abbrev pub ReadsOn : Reset → List ℕ → Type 0
ReadsOn R received = Starting R.rec R.flash.built_in (length R.ram) received

-- the digest d may start
abbrev pub AllowedOn : Reset → List ℕ → Type 0
AllowedOn R d = Allowed R.rec R.flash.built_in d

-- what the head goes by
abbrev pub config : Reset → Config
config R = config_of (record_at R.rec) R.udi R.flash.built_in (length R.ram)

-- a known type is its number
is_type_is : (t n : ℕ) → n < 6 → is_type (known_type t) n ≡ eqb t n
is_type_is t n h = go (ltb t 6) refl
  where
    go : (b : Bool) → ltb t 6 ≡ b → is_type (cond b (some t) none) n ≡ eqb t n
    go true e = refl
    go false e = sym (ne_eqb t n (λ q. let l = ltb-false t 6 e in omega arith))

-- the head's test of a digest: types that allow the built-in one, the record's or any
module _ (R : Reset) (d : List ℕ) where
  abbrev t : ℕ
  t = type_of R.rec

  abbrev digests : Digests
  digests = digests_at (has_second (number_in mask_field R.rec)) R.rec

  abbrev ByRecord : Type 0
  ByRecord = (t ≡ 2) ⊎ ((t ≡ 3) ⊎ (t ≡ 5))

  one_recorded : (one_of digests d ≡ true) ↔ Recorded R.rec d
  one_recorded =
      let s = records.one_of_exactly digests d in (
        λ q. ⊎_map (λ x. x) (λ x. (x.0, rw x.0 at x.1)) (s.0 q),
        λ r. s.1 (⊎_map (λ x. x) (λ x. (x.0, rw x.0 x.1)) r),
      )

  by_built_in : t ≡ 0 → (one_of (alone R.flash.built_in) d ≡ true) ↔ AllowedOn R d
  by_built_in e =
      let s = records.one_of_exactly (alone R.flash.built_in) d in
      let n : ByRecord → ⊥ = λ z. ⊎_elim (λ x. omega arith) (λ y. ⊎_elim (λ x. omega arith) (λ x. omega arith) y) z in (
        λ q. record { built_in = λ z. ⊎_elim (λ x. x) (λ x. let w : ◌≡◌ {A = Bool} false true = x.0 in impossible cc) (s.0 q); recorded = λ z. absurd (n z) },
        λ a. s.1 (inl (a.built_in (omega arith))),
      )

  by_record : (t ≡ 0 → ⊥) → ByRecord → (one_of digests d ≡ true) ↔ AllowedOn R d
  by_record n r = (
    λ q. record { built_in = λ z. absurd (omega (arith, n)); recorded = λ z. one_recorded.0 q },
    λ a. one_recorded.1 (a.recorded r),
  )

  by_none : (t ≡ 0 → ⊥) → (ByRecord → ⊥) → (◌≡◌ {A = Bool} true true) ↔ AllowedOn R d
  by_none n m = (λ q. record { built_in = λ z. absurd (omega (arith, n)); recorded = λ z. absurd (m z) }, λ a. refl)

  pub allows : (allowed (config R) d ≡ true) ↔ AllowedOn R d
  unfolding record_at
  allows =
      rw (is_type_is t 0 (omega arith), is_type_is t 2 (omega arith), is_type_is t 3 (omega arith), is_type_is t 5 (omega arith))
      (go (eqb t 0) (eqb t 2) (eqb t 3) (eqb t 5) refl refl refl refl)
    where
      go : (z x y v : Bool) → eqb t 0 ≡ z → eqb t 2 ≡ x → eqb t 3 ≡ y → eqb t 5 ≡ v
          → (cond (z || x || y || v) (one_of (cond z (alone R.flash.built_in) digests) d) true ≡ true) ↔ AllowedOn R d
      go true x y v ez ex ey ev = by_built_in (eqb-true t 0 ez)
      go false true y v ez ex ey ev = by_record (eqb-false t 0 ez) (inl (eqb-true t 2 ex))
      go false false true v ez ex ey ev = by_record (eqb-false t 0 ez) (inr (inl (eqb-true t 3 ey)))
      go false false false true ez ex ey ev = by_record (eqb-false t 0 ez) (inr (inr (eqb-true t 5 ev)))
      go false false false false ez ex ey ev =
          by_none (eqb-false t 0 ez) (λ z. ⊎_elim (eqb-false t 2 ex) (λ p. ⊎_elim (eqb-false t 3 ey) (eqb-false t 5 ev) p) z)
