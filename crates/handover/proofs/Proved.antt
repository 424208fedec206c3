-- The theorem of specs/Theorems.antt: the record's fields stand one behind the other (`whole`), and the examples are computed.
use Prim.Native.Nat.{ℕ, ◌+◌, ◌≤◌}
use mathlib.Core.Path.{◌≡◌, refl, sym, ap, ◌∙◌}
use mathlib.Core.Logic.{◌↔◌}
use mathlib.Core.Bool.{Bool, true, false, cond}
use mathlib.Core.List.{List, [], ◌∷◌, ◌++◌, append_assoc, append-nil}
use native.Mathlib.Omega.{arith}
use lib.Dec.{eqb, ltb}
use lib.ListN.{length, length-append}
use borrow.Author.Tests.{eq-eqb, lt-ltb, ltb-true, ltb-false, eqb-true, eqb-false}
use Rattle.std.specs.Prelude.{Result, Ok, Err}
use Rattle.endian.specs.Endian.{word, first_bytes}
use Rattle.endian.specs.Lists.{zeros}
use Rattle.endian.proofs.Cases.{impossible}
use Rattle.endian.proofs.Words.{word_back}
use Rattle.rfc7693.proofs.Lengths.{digest_length}
use Rattle.record.proofs.Proved.{after}
use Rattle.record.specs.Record.{Field, type_field, mask_field, first_digest_field, measured_id_field, second_digest_field, data_field, field_of, number_in, reset_seed, has_second, record_at}
use Rattle.rfc7693.specs.Rfc7693.{rotr, words, iv, sigma, added, xor_rotated, G, work_vector, round, rounds, F, input, block_at, block_count, leading, compressions, compressed, initial, blake2s}
use Rattle.handover.specs.Reset.{number_of, Next, mixed, measured_id_for, word_bytes, written_record, inputs_fit, HandedOver, handed_over, resetting}
use Rattle.handover.specs.Theorems.{Typed, InputsFit, Settles, Fields, asked, Gives, counting, Examples, Handovers}
use Rattle.handover.specs.declared.Refusal.{Refusal}
use Rattle.handover.specs.declared.Refusal.TheVariants.{NextType, RecordLength, InputLength}
use Rattle.handover.proofs.Numbers.{fit_lengths, by_type_is, by_record, by_inputs, by_none, accepted_is}
use Rattle.handover.proofs.Records.{word_length, front_length, parts}

module _ (x : Next) (id : List ℕ) (h : Typed x) (known : x.type ≤ 5) (hd : length x.next_data ≡ (data_field (has_second x.mask)).size)
    (hi : length id ≡ 32) where
  abbrev has : Bool
  has = has_second x.mask

  abbrev t : List ℕ
  t = word_bytes x.type

  abbrev m : List ℕ
  m = word_bytes x.mask

  abbrev f : List ℕ
  f = x.first

  abbrev s : List ℕ
  s = cond has x.second []

  abbrev d : List ℕ
  d = x.next_data

  all_parts : written_record x id ≡ t ++ m ++ f ++ id ++ s ++ d
  all_parts = parts x id h.first_length hi h.second_length hd

  -- from the second digest on, from measured_id, from the first digest, from the mask on
  abbrev r1 : List ℕ
  r1 = s ++ d

  abbrev r2 : List ℕ
  r2 = id ++ r1

  abbrev r3 : List ℕ
  r3 = f ++ r2

  from_measured : t ++ m ++ f ++ id ++ s ++ d ≡ t ++ m ++ f ++ id ++ r1
  from_measured = append_assoc (t ++ m ++ f ++ id) s d

  from_first : t ++ m ++ f ++ id ++ s ++ d ≡ t ++ m ++ f ++ r2
  from_first = from_measured ∙ append_assoc (t ++ m ++ f) id r1

  from_mask : t ++ m ++ f ++ id ++ s ++ d ≡ t ++ m ++ r3
  from_mask = from_first ∙ append_assoc (t ++ m) f r2

  -- the part behind p
  at : (g : Field) (p v rest : List ℕ) → t ++ m ++ f ++ id ++ s ++ d ≡ p ++ v ++ rest → length p ≡ g.from → length v ≡ g.size
      → field_of g (written_record x id) ≡ v
  at g p v rest e l n = ap (field_of g) (all_parts ∙ e) ∙ after p v rest g.from g.size l n

  front_is : length (t ++ m ++ f ++ id) ≡ 72
  front_is = front_length t m f id x.second d (word_length x.type) (word_length x.mask) h.first_length hi h.second_length

  pair_is : length (t ++ m) ≡ 8
  pair_is = length-append t m ∙ omega (arith, word_length x.type, word_length x.mask)

  second_length : (b : Bool) → 72 + length (cond b x.second []) ≡ (data_field b).from
  second_length true = omega (arith, h.second_length)
  second_length false = refl

  before_data : length (t ++ m ++ f ++ id ++ s) ≡ (data_field has).from
  before_data = length-append (t ++ m ++ f ++ id) s ∙ rw front_is (second_length has)

  type_is : number_in type_field (written_record x id) ≡ x.type
  type_is =
      ap (λ (l : List ℕ). word l 0) (at type_field [] t (m ++ r3) (from_mask ∙ append_assoc t m r3) refl (word_length x.type))
      ∙ word_back x.type (omega arith)

  mask_is : number_in mask_field (written_record x id) ≡ x.mask
  mask_is = ap (λ (l : List ℕ). word l 0) (at mask_field t m r3 from_mask (word_length x.type) (word_length x.mask)) ∙ word_back x.mask h.mask_word

  second_is : has ≡ true → field_of second_digest_field (written_record x id) ≡ x.second
  second_is e =
      let q : s ≡ x.second = rw e in
      at second_digest_field (t ++ m ++ f ++ id) s d refl front_is (ap length q ∙ h.second_length) ∙ q

  pub fields : Fields x id (written_record x id)
  fields =
      record {
        size = ap length all_parts ∙ length-append (t ++ m ++ f ++ id ++ s) d ∙ rw (before_data, hd) (all has);
        type = type_is;
        mask = mask_is;
        first = at first_digest_field (t ++ m) f r2 from_first pair_is h.first_length;
        measured = at measured_id_field (t ++ m ++ f) id r1 from_measured (length-append (t ++ m) f ∙ omega (arith, pair_is, h.first_length)) hi;
        second = second_is;
        placed = at (data_field has) (t ++ m ++ f ++ id ++ s) d [] (sym (append-nil _)) before_data (hd);
      }
    where
      all : (b : Bool) → (data_field b).from + (data_field b).size ≡ 256
      all true = refl
      all false = refl

  second_read : cond has (field_of second_digest_field (written_record x id)) (zeros 32) ≡ cond has x.second (zeros 32)
  second_read = go has second_is
    where
      go : (b : Bool) → (b ≡ true → field_of second_digest_field (written_record x id) ≡ x.second)
          → cond b (field_of second_digest_field (written_record x id)) (zeros 32) ≡ cond b x.second (zeros 32)
      go true e = e refl
      go false e = refl

  reads : record_at (written_record x id) ≡ asked x id
  unfolding record_at
  reads = let w = fields in rw (w.type, w.mask, w.first, w.measured, second_read, lt-ltb x.type 6 (omega arith))

-- ---- the answers, and when a reset is accepted

-- the answer of a number
abbrev answer_with : ℕ → Result (Unit {0}) Refusal
answer_with n = cond (eqb n 0) (Ok tt) (cond (eqb n 44) (Err NextType) (cond (eqb n 45) (Err RecordLength) (Err InputLength)))

answer_back : (a : Result (Unit {0}) Refusal) → answer_with (number_of a) ≡ a
answer_back (Ok done) = refl
answer_back (Err NextType) = refl
answer_back (Err RecordLength) = refl
answer_back (Err InputLength) = refl

module _ (cdi seed : List ℕ) (x : Next) (rec : List ℕ) where
  abbrev fit : Bool
  fit = inputs_fit x.mask (length cdi) (length seed) (length x.next_data)

  do_fit : InputsFit cdi seed x → fit ≡ true
  do_fit i = rw (i.cdi_length, i.seed_length, i.data_length, eq-eqb (data_field (has_second x.mask)).size _ refl)

  -- a reset whose outcome is y
  abbrev Was : HandedOver → Type 0
  Was y =
      ((y.number ≡ 44) ↔ (6 ≤ x.type)) × ((y.number ≡ 45) ↔ ((x.type ≤ 5) × (length rec ≡ 256 → ⊥)))
      × ((y.number ≡ 46) ↔ ((x.type ≤ 5) × (length rec ≡ 256) × (InputsFit cdi seed x → ⊥)))
      × ((y.number ≡ 0) ↔ ((x.type ≤ 5) × (length rec ≡ 256) × InputsFit cdi seed x)) × ((y.number ≡ 0 → ⊥) → (y.cdi ≡ cdi) × (y.rec ≡ rec))

  was : Was (resetting cdi seed x rec)
  was = go (ltb 5 x.type) (eqb (length rec) 256) fit refl refl refl
    where
      go : (a b c : Bool) → ltb 5 x.type ≡ a → eqb (length rec) 256 ≡ b → fit ≡ c → Was (resetting cdi seed x rec)
      go true b c p q r =
          let l = ltb-true 5 x.type p in
          rw (by_type_is cdi seed x rec l) (
            (λ e. omega arith, λ z. refl),
            (λ e. absurd (omega arith), λ z. absurd (omega (arith, z.0))),
            (λ e. absurd (omega arith), λ z. absurd (omega (arith, z.0))),
            (λ e. absurd (omega arith), λ z. absurd (omega (arith, z.0))),
            λ n. (refl, refl),
          )
      go false false c p q r =
          let l = ltb-false 5 x.type p in
          let n = eqb-false (length rec) 256 q in
          rw (by_record cdi seed x rec l n) (
            (λ e. absurd (omega arith), λ z. absurd (omega arith)),
            (λ e. (l, n), λ z. refl),
            (λ e. absurd (omega arith), λ z. absurd (n z.1)),
            (λ e. absurd (omega arith), λ z. absurd (n z.1)),
            λ m. (refl, refl),
          )
      go false true false p q r =
          let l = ltb-false 5 x.type p in
          let n = eqb-true (length rec) 256 q in
          let u : InputsFit cdi seed x → ⊥ = λ i. let e : fit ≡ true = do_fit i in impossible cc in
          rw (by_inputs cdi seed x rec l n r) (
            (λ e. absurd (omega arith), λ z. absurd (omega arith)),
            (λ e. absurd (omega arith), λ z. absurd (z.1 n)),
            (λ e. (l, n, u), λ z. refl),
            (λ e. absurd (omega arith), λ z. absurd (u z.2)),
            λ m. (refl, refl),
          )
      go false true true p q r =
          let l = ltb-false 5 x.type p in
          let n = eqb-true (length rec) 256 q in
          let s = fit_lengths x.mask (length cdi) (length seed) (length x.next_data) r in
          let i : InputsFit cdi seed x = record { cdi_length = s.0; seed_length = s.1; data_length = s.2 } in
          rw (by_none cdi seed x rec l n r) (
            (λ e. absurd (omega arith), λ z. absurd (omega arith)),
            (λ e. absurd (omega arith), λ z. absurd (z.1 n)),
            (λ e. absurd (omega arith), λ z. absurd (z.2 i)),
            (λ e. (l, n, i), λ z. refl),
            λ m. absurd (m refl),
          )

  settles : Settles cdi seed x rec
  settles = record { refuses_44 = was.0; refuses_45 = was.1; refuses_46 = was.2; accepts = was.3; kept = was.4 }

  id_length : length (measured_id_for x.mask cdi seed) ≡ 32
  id_length = go (reset_seed x.mask)
    where
      go : (b : Bool) → length (cond b (mixed cdi seed) (zeros 32)) ≡ 32
      go true = digest_length (cdi ++ seed)
      go false = refl

  gives : Typed x → (resetting cdi seed x rec).number ≡ 0 → Gives x (measured_id_for x.mask cdi seed) (resetting cdi seed x rec)
  gives t k =
      let a = was.3.0 k in
      let id = measured_id_for x.mask cdi seed in
      let l = a.2.data_length in
      rw (accepted_is cdi seed x rec k) (record { cleared = refl; fields = fields x id t a.0 l id_length; reads = reads x id t a.0 l id_length })

-- ---- the examples

-- the hash of the 64 bytes
mix : mixed (counting 0x00) (counting 0x20)
    ≡ 0x56 ∷ 0xf3 ∷ 0x4e ∷ 0x8b ∷ 0x96 ∷ 0x55 ∷ 0x7e ∷ 0x90 ∷ 0xc1 ∷ 0xf2 ∷ 0x4b ∷ 0x52 ∷ 0xd0 ∷ 0xc8 ∷ 0x9d ∷ 0x51 ∷
    0x08 ∷ 0x6a ∷ 0xcf ∷ 0x1b ∷ 0x00 ∷ 0xf6 ∷ 0x34 ∷ 0xcf ∷ 0x1d ∷ 0xde ∷ 0x92 ∷ 0x33 ∷ 0xb8 ∷ 0xea ∷ 0xaa ∷ 0x3e ∷ []
unfolding word rotr words first_bytes iv sigma added xor_rotated G work_vector round rounds F input block_at block_count leading compressions compressed initial blake2s
mix = refl

examples : Examples
unfolding resetting written_record first_bytes
examples = record {
  chained = λ d rec h r. rw (r, h, mix) (ap (handed_over 0 (zeros 32)) (append-nil _));
  direct = λ d rec h r. rw (r, h) (ap (handed_over 0 (zeros 32)) (append-nil _));
}

pub handovers : Handovers
handovers = record {
  answers = λ x y e. sym (answer_back x) ∙ ap answer_with e ∙ answer_back y;
  settles = settles;
  gives = gives;
  examples = examples;
}
