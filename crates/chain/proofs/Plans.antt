-- There are chains: each plan that is possible becomes a link, whatever start is before it.
use Prim.Native.Nat.{ℕ, ◌≤◌}
use mathlib.Core.Path.{◌≡◌, refl, sym, ap, ◌∙◌}
use mathlib.Core.Logic.{◌⊎◌, inl, inr}
use mathlib.Core.Bool.{Bool, true, false, cond}
use mathlib.Core.Option.{Option, none, some}
use mathlib.Core.List.{List, [], ◌∷◌, ◌++◌, map}
use native.Mathlib.Omega.{arith}
use lib.Dec.{ltb, leb}
use lib.ListN.{length}
use borrow.Author.Tests.{ltb-true, ltb-false, leb-true, leb-false}
use Rattle.endian.proofs.Words.{zero_words}
use Rattle.rfc7693.proofs.Lengths.{digest_length}
use Rattle.rfc7693.specs.Rfc7693.{blake2s}
use Rattle.endian.specs.Lists.{zeros, All, Words}
use Rattle.handover.specs.Reset.{Next, next_of, mixed, written_record, HandedOver, resetting}
use Rattle.handover.specs.Theorems.{Typed, InputsFit, Fields}
use Rattle.handover.proofs.Numbers.{accepted_is}
use Rattle.handover.proofs.Proved.{handovers, fields as written-fields}
use Rattle.head.specs.Begin.{Slot}
use Rattle.session.specs.Reading.{type_of, Allowed}
use Rattle.session.specs.Session.{Reset, AsksClient, Admitted}
use Rattle.session.specs.Boot.{AnyStart, from_client, from_flash, basis, user_secret, reset_holding}
use Rattle.session.proofs.Proved.{verified_boot}
use Rattle.chain.specs.Chain.{given_cdi, Link, Follows, Linked}
use Rattle.chain.specs.Theorems.{Paired, begun_with, is_client, Plan, SecretFor, Possible, Carried}
use Rattle.chain.proofs.Links.{cdi_length}

abbrev none_held : Slot
none_held = record { bytes = []; size = 0 }

pub four_or_five : (n : ℕ) → 4 ≤ n → n ≤ 5 → (n ≡ 4) ⊎ (n ≡ 5)
four_or_five n a b = go (ltb n 5) refl
  where
    go : (q : Bool) → ltb n 5 ≡ q → (n ≡ 4) ⊎ (n ≡ 5)
    go true e = let l = ltb-true n 5 e in inl (omega arith)
    go false e = let l = ltb-false n 5 e in inr (omega arith)

module _ (uds : List ℕ) (eight : length uds ≡ 8) (words : Words uds) where
  module _ (t : AnyStart) (p : Plan) (h : Possible p) where
    abbrev x : Next
    x = p.next

    abbrev id : List ℕ
    id = mixed (given_cdi t) p.seed

    abbrev rec : List ℕ
    rec = written_record x id

    abbrev d : List ℕ
    d = blake2s [] p.program 32

    id_length : length id ≡ 32
    id_length = digest_length (given_cdi t ++ p.seed)

    fields : Fields x id rec
    fields = written-fields x id h.typed h.known h.data_length id_length

    -- the reset that writes it
    abbrev outcome : HandedOver
    outcome = resetting (given_cdi t) p.seed x p.memory

    accepted : outcome.number ≡ 0
    accepted =
        let i : InputsFit (given_cdi t) p.seed x = record { cdi_length = cdi_length t; seed_length = h.seed_length; data_length = h.data_length } in
        (handovers.settles (given_cdi t) p.seed x p.memory).accepts.1 (h.known, h.memory_length, i)

    wrote : outcome.rec ≡ rec
    wrote =
        ap (λ (y : HandedOver). y.rec) (accepted_is (given_cdi t) p.seed x p.memory accepted)
        ∙ ap (λ (b : Bool). written_record x (cond b id (zeros 32))) h.seeded

    allows : Allowed rec p.built_in d
    allows = h.allowed id id_length

    abbrev Made : Type 0
    Made = (l : Link) × Follows uds t l × Carried p l

    -- a start on it is a link
    made : (s : AnyStart) → (basis s).rec ≡ rec → (basis s).uds ≡ uds → (basis s).program ≡ p.program → user_secret (basis s) ≡ p.secret
        → is_client s ≡ leb 4 x.type → (begun_with s).udi ≡ p.udi → (begun_with s).flash.built_in ≡ p.built_in → (begun_with s).ram ≡ p.ram → Made
    made s e u q c k i b r = (
      record { seed = p.seed; next = x; memory = p.memory; start = s },
      record { typed = h.typed; accepted = accepted; seeded = h.seeded; on_record = e ∙ sym wrote; afresh = u },
      record { seed = refl; next = refl; memory = refl; program = q; secret = c; client = k; udi = i; built_in = b; ram = r },
    )

    some_ram : 1 ≤ length p.ram
    some_ram = omega (arith, h.not_empty, h.fits)

    -- from flash
    abbrev held : Reset
    held = reset_holding rec p.udi p.built_in p.ram uds p.program [] none_held words

    by_flash : leb 4 x.type ≡ false → p.secret ≡ none → Made
    by_flash k c =
        let n = leb-false 4 x.type k in
        let a : Admitted held = record { eight = eight; record_length = fields.size; ram_some = some_ram; ram_small = h.ram_small } in
        let q : type_of rec ≤ 3 = rw fields.type (omega arith) in
        let s = verified_boot.flash_exists rec p.udi p.built_in p.ram uds p.program [] none_held words a q h.not_empty h.fits allows in
        made (from_flash held s.0) refl refl s.1 (sym c) (sym k) refl refl refl

    -- by a client's session
    abbrev lent : Reset
    lent =
        record {
          rec = rec;
          udi = p.udi;
          flash = record { slot0 = none_held; slot1 = none_held; built_in = p.built_in };
          ram = p.ram;
          uds = uds;
          typed = words;
        }

    by_client : leb 4 x.type ≡ true → (flag : Bool) (uss : List ℕ) → length uss ≡ 32 → p.secret ≡ cond flag (some uss) none → Made
    by_client k flag uss l c =
        let n = leb-true 4 x.type k in
        let a : Admitted lent = record { eight = eight; record_length = fields.size; ram_some = some_ram; ram_small = h.ram_small } in
        let q : AsksClient lent = rw fields.type (four_or_five x.type n h.known) in
        let s = verified_boot.exists lent p.ram uds p.program flag uss a q refl eight words h.not_empty h.fits allows l in
        let r = s.same_reset in
        made (from_client s.session s.start) (ap (λ (R : Reset). R.rec) r) s.same_uds s.same_program (s.same_secret ∙ sym c) (sym k) (ap (λ (R : Reset). R.udi) r) (ap (λ (R : Reset). R.flash.built_in) r) (ap (λ (R : Reset). R.ram) r)

    link : Made
    link = go (leb 4 x.type) p.secret refl refl h.secret
      where
        go : (b : Bool) (c : Option (List ℕ)) → leb 4 x.type ≡ b → p.secret ≡ c → SecretFor x.type c → Made
        go true none k c s = by_client k false (zeros 32) refl c
        go true (some uss) k c s = by_client k true uss s.1 c
        go false none k c s = by_flash k c
        go false (some uss) k c s = let n = leb-false 4 x.type k in absurd (omega (arith, s.0))

  pub planned : (t : AnyStart) (ps : List Plan) → All Possible ps → (ls : List Link) × Linked uds t ls × Paired Carried ps ls
  planned t [] h = ([], tt, tt)
  planned t (p ∷ ps) h =
      let m = link t p h.0 in
      let r = planned m.0.start ps h.1 in
      (m.0 ∷ r.0, (m.1, r.1), (m.2, r.2))

-- ---- a first start

-- a type that goes by no digest of the record
unverified : {P : Type 0} (n : ℕ) → (n ≡ 2 → ⊥) → (n ≡ 3 → ⊥) → (n ≡ 5 → ⊥) → (n ≡ 2) ⊎ ((n ≡ 3) ⊎ (n ≡ 5)) → P
unverified n a b c (inl e) = absurd (a e)
unverified n a b c (inr (inl e)) = absurd (b e)
unverified n a b c (inr (inr e)) = absurd (c e)

abbrev anything : Next
anything = next_of 1 0 (zeros 32) (zeros 32) (zeros 184)

abbrev some_record : List ℕ
some_record = written_record anything (zeros 32)

some_fields : Fields anything (zeros 32) some_record
some_fields =
    let typed : Typed anything = record { mask_word = omega arith; first_length = refl; second_length = refl } in
    written-fields anything (zeros 32) typed (omega arith) refl refl

-- from slot 1, of any digest
abbrev first_reset : Reset
first_reset = reset_holding some_record (zeros 8) (zeros 32) (zeros 1) (zeros 8) (zeros 1) [] none_held (zero_words 8)

pub first : AnyStart
first =
    let one : type_of some_record ≡ 1 = some_fields.type in
    let a : Admitted first_reset = record { eight = refl; record_length = some_fields.size; ram_some = omega arith; ram_small = omega arith } in
    let d : Allowed some_record (zeros 32) (blake2s [] (zeros 1) 32) =
    record { built_in = λ e. absurd (omega arith); recorded = unverified (type_of some_record) (λ e. omega arith) (λ e. omega arith) (λ e. omega arith) } in
    from_flash first_reset
    (verified_boot.flash_exists some_record (zeros 8) (zeros 32) (zeros 1) (zeros 8) (zeros 1) [] none_held (zero_words 8) a (omega arith) (omega arith) (omega arith) d).0

-- ---- a plan for each type, seed, program and user secret: the record, and for type 0 the firmware, allows that program

module _ (type : ℕ) (seed program : List ℕ) (secret : Option (List ℕ)) where
  abbrev pub plan_for : Plan
  plan_for =
      let d = blake2s [] program 32 in
      record {
        seed = seed;
        next = next_of type 1 d (zeros 32) (zeros 184);
        memory = zeros 256;
        program = program;
        secret = secret;
        udi = zeros 8;
        built_in = d;
        ram = program;
      }

  typed_for : Typed plan_for.next
  typed_for = record { mask_word = omega arith; first_length = digest_length program; second_length = refl }

  pub possible_for : type ≤ 5 → length seed ≡ 32 → 1 ≤ length program → length program ≤ 131072 → SecretFor type secret → Possible plan_for
  possible_for t s n m c =
      record {
        typed = typed_for;
        known = t;
        data_length = refl;
        seed_length = s;
        memory_length = refl;
        seeded = refl;
        not_empty = n;
        fits = omega arith;
        ram_small = m;
        udi_length = refl;
        built_in_length = digest_length program;
        allowed = λ id l.
            record { built_in = λ e. refl; recorded = λ e. inl (sym (written-fields plan_for.next id typed_for t refl l).first) };
        secret = c;
      }

-- ---- types in any order

abbrev pub plans_for : List ℕ → List Plan
plans_for = map (λ n. plan_for n (zeros 32) (zeros 1) none)

pub all_possible : (ns : List ℕ) → All (λ n. n ≤ 5) ns → All Possible (plans_for ns)
all_possible [] h = tt
all_possible (n ∷ ns) h = (possible_for n (zeros 32) (zeros 1) none h.0 refl (omega arith) (omega arith) tt, all_possible ns h.1)

pub in_order : (ns : List ℕ) (ls : List Link) → Paired Carried (plans_for ns) ls
    → Paired (λ n l. (l.next.type ≡ n) × (is_client l.start ≡ leb 4 n)) ns ls
in_order [] [] h = tt
in_order [] (l ∷ ls) h = absurd h
in_order (n ∷ ns) [] h = absurd h
in_order (n ∷ ns) (l ∷ ls) h = ((ap (λ (x : Next). x.type) h.0.next, h.0.client), in_order ns ls h.1)
