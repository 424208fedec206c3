-- One link: what its reset wrote, and the string of its start.
use Prim.Native.Nat.{ℕ}
use mathlib.Core.Path.{◌≡◌, refl, ap, ◌∙◌}
use mathlib.Core.Bool.{Bool, true, false, cond}
use mathlib.Core.Option.{none, some}
use mathlib.Core.List.{List, [], ◌∷◌, ◌++◌, append-nil}
use lib.ListN.{length}
use Rattle.rfc7693.specs.Rfc7693.{blake2s}
use Rattle.rfc7693.proofs.Lengths.{digest_length}
use Rattle.endian.specs.Endian.{bytes}
use Rattle.endian.specs.Lists.{zeros}
use Rattle.record.specs.Record.{reset_seed}
use Rattle.cdi.specs.Cdi.{cdi_string}
use Rattle.handover.specs.Reset.{mixed}
use Rattle.handover.specs.Theorems.{Fields}
use Rattle.handover.proofs.Proved.{handovers}
use Rattle.session.specs.Reading.{chained, measured_id}
use Rattle.session.specs.Boot.{AnyStart, from_client, from_flash, basis, digest, measurement, start_string}
use Rattle.session.proofs.Proved.{verified_boot}
use Rattle.chain.specs.Chain.{given_cdi, Link, reset_after, Follows, input_of, chain_string, link_string, next_cdi}

-- the CDI of a start is the hash of its string
pub cdi_is : (t : AnyStart) → given_cdi t ≡ blake2s [] (start_string (basis t)) 32
cdi_is (from_client S t) = (verified_boot.gives S t).start.cdi
cdi_is (from_flash R t) = (verified_boot.flash_gives R t).start.cdi

pub cdi_length : (t : AnyStart) → length (given_cdi t) ≡ 32
cdi_length t = ap length (cdi_is t) ∙ digest_length (start_string (basis t))

module _ (uds : List ℕ) (t : AnyStart) (l : Link) (h : Follows uds t l) where
  abbrev cdi : List ℕ
  cdi = given_cdi t

  abbrev id : List ℕ
  id = mixed cdi l.seed

  fields : Fields l.next (cond (reset_seed l.next.mask) id (zeros 32)) (reset_after t l).rec
  fields = (handovers.gives cdi l.seed l.next l.memory h.typed h.accepted).fields

  pub chained_is : chained (basis l.start).rec ≡ true
  chained_is = ap chained h.on_record ∙ ap reset_seed fields.mask ∙ h.seeded

  id_is : measured_id (basis l.start).rec ≡ id
  id_is = ap measured_id h.on_record ∙ fields.measured ∙ ap (λ (b : Bool). cond b id (zeros 32)) h.seeded

  pub measurement_is : measurement (basis l.start) ≡ id
  measurement_is = ap (λ (b : Bool). cond b (measured_id (basis l.start).rec) (digest (basis l.start))) chained_is ∙ id_is

  pub string_is : start_string (basis l.start) ≡ link_string (bytes uds) cdi (input_of l)
  unfolding cdi_string
  string_is =
      let b = basis l.start in
      ap (λ (w : List ℕ). cdi_string (bytes w) (chained b.rec) (measured_id b.rec) (digest b) b.used b.uss) h.afresh
      ∙ ap (λ (x : Bool). cdi_string (bytes uds) x (measured_id b.rec) (digest b) b.used b.uss) chained_is
      ∙ ap (λ (m : List ℕ). cdi_string (bytes uds) true m (digest b) b.used b.uss) id_is
      ∙ go b.used
    where
      go : (u : Bool) → cdi_string (bytes uds) true id (digest (basis l.start)) u (basis l.start).uss
          ≡ chain_string (bytes uds) cdi l.seed (cond u (some (basis l.start).uss) none)
      go true = refl
      go false = append-nil (bytes uds ++ 2 ∷ id)

  pub next_is : given_cdi l.start ≡ next_cdi (bytes uds) cdi (input_of l)
  next_is = cdi_is l.start ∙ ap (λ (s : List ℕ). blake2s [] s 32) string_is
