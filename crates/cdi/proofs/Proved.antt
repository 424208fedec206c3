-- The theorem of specs/Theorems.antt: parts of known lengths are cut off one after the other, and the domain tells both flags. The literal
-- strings are computed.
use Prim.Native.Nat.{ℕ, ◌+◌, ◌/◌, ◌%◌}
use mathlib.Core.Path.{◌≡◌, refl, sym, ap, ◌∙◌}
use mathlib.Core.Bool.{Bool, true, false, cond}
use mathlib.Core.List.{List, [], ◌∷◌, ◌++◌, append_assoc}
use lib.Dec.{eqb}
use lib.ListN.{length, take, drop, get_or, length-append}
use lib.Seq.{take_at, drop_at, get_or_at}
use Rattle.cdi.specs.Cdi.{domain_of, measurement_of, cdi_string}
use Rattle.cdi.specs.Theorems.{Inputs, string_of, some_uds, some_measured_id, some_digest, some_uss, Strings, Cdi}
use Rattle.cdi.proofs.Parts.{head_length}

-- lists that are equal have equal parts, before and after a place
module _ (p q r s : List ℕ) (n : ℕ) (hp : length p ≡ n) (hq : length q ≡ n) (e : p ++ r ≡ q ++ s) where
  front : p ≡ q
  front = sym (take_at p r n hp) ∙ ap (λ (l : List ℕ). take n l) e ∙ take_at q s n hq

  back : r ≡ s
  back = sym (drop_at p r n hp) ∙ ap (λ (l : List ℕ). drop n l) e ∙ drop_at q s n hq

-- the flags of a domain
used_of : (u s : Bool) → eqb (domain_of u s % 2) 1 ≡ u
used_of false false = refl
used_of false true = refl
used_of true false = refl
used_of true true = refl

chained_of : (u s : Bool) → eqb (domain_of u s / 2) 1 ≡ s
chained_of false false = refl
chained_of false true = refl
chained_of true false = refl
chained_of true true = refl

module _ (x : Inputs) where
  abbrev dom : ℕ
  dom = domain_of x.used x.chained

  abbrev measurement : List ℕ
  measurement = measurement_of x.chained x.measured_id x.digest

  abbrev secret : List ℕ
  secret = cond x.used x.uss []

  -- all but the user secret
  abbrev start : List ℕ
  start = x.uds ++ dom ∷ measurement

  measurement_length : length measurement ≡ 32
  measurement_length = go x.chained
    where
      go : (b : Bool) → length (measurement_of b x.measured_id x.digest) ≡ 32
      go true = search
      go false = search

  start_length : length start ≡ 65
  start_length = head_length x.uds dom measurement x.uds_length measurement_length

  domain_at : get_or (string_of x) 32 0 ≡ dom
  unfolding cdi_string
  domain_at = rw (append_assoc x.uds (dom ∷ measurement) secret) (get_or_at x.uds dom (measurement ++ secret) 0 32 x.uds_length)

  string_length : length (string_of x) ≡ cond x.used 97 65
  unfolding cdi_string
  string_length = rw (length-append start secret, start_length) (go x.used)
    where
      go : (b : Bool) → 65 + length (cond b x.uss []) ≡ cond b 97 65
      go true = rw x.uss_length
      go false = refl

literal : Strings
unfolding cdi_string some_uds some_measured_id some_digest some_uss
literal = record { direct = refl; direct_used = refl; chained = refl; chained_used = refl }

pub cdi : Cdi
unfolding cdi_string
cdi = record {
  domain = domain_at;
  size = string_length;
  injective = λ x y e.
      let f : start x ≡ start y = front (start x) (start y) (secret x) (secret y) 65 (start_length x) (start_length y) e in
      let t : dom x ∷ measurement x ≡ dom y ∷ measurement y = back x.uds y.uds _ _ 32 x.uds_length y.uds_length f in
      let d : dom x ≡ dom y = cc in (
        front x.uds y.uds _ _ 32 x.uds_length y.uds_length f,
        sym (chained_of x.used x.chained) ∙ ap (λ (n : ℕ). eqb (n / 2) 1) d ∙ chained_of y.used y.chained,
        cc,
        sym (used_of x.used x.chained) ∙ ap (λ (n : ℕ). eqb (n % 2) 1) d ∙ used_of y.used y.chained,
        back (start x) (start y) (secret x) (secret y) 65 (start_length x) (start_length y) e,
      );
  strings = literal;
}
