-- The theorem of specs/Theorems.antt: a number leads back to its type, a field after a list of the right length is the part there, and one that
-- ends before the data does not look at the data.
use Prim.Native.Nat.{ℕ, ◌+◌, ◌*◌, ◌/◌, ◌%◌, ◌≤◌}
use mathlib.Core.Path.{◌≡◌, refl, sym, ap, ◌∙◌}
use mathlib.Core.Bool.{Bool, true, false, cond, ◌&&◌, ◌||◌}
use mathlib.Core.Logic.{◌↔◌, ◌⊎◌, inl, inr, ⊎_elim}
use mathlib.Core.Option.{Option, none, some}
use mathlib.Core.List.{List, ◌++◌, append_assoc}
use native.Mathlib.Omega.{arith}
use lib.Dec.{eqb}
use lib.ListN.{length, take, drop, length-append, length-drop}
use lib.Seq.{take_at, drop_at, take-append-le, drop-append-le}
use Rattle.std.specs.Prelude as code
use Rattle.endian.specs.Lists.{same, zeros}
use Rattle.endian.proofs.Cases.{impossible}
use Rattle.endian.proofs.Same.{same_exactly}
use Rattle.record.specs.Record.{Field, type_field, mask_field, first_digest_field, measured_id_field, second_digest_field, has_second, data_field, field_of, number_in, type_number, reset_seed, digests_at, record_at}
use Rattle.record.specs.Types.{one_of}
use Rattle.record.specs.Theorems.{Records}
use Rattle.record.specs.declared.Digests.{Digests}
use Rattle.record.specs.declared.ResetType.{ResetType}
use Rattle.record.specs.declared.ResetType.TheVariants.{Flash0, Flash1, Flash0Ver, Flash1Ver, Client, ClientVer}

-- the type of a number
abbrev type_with : Option ℕ → code.Option ResetType
type_with (some n) =
    code.Some
    (cond (eqb n 0) Flash0
    (cond (eqb n 1) Flash1
    (cond (eqb n 2) Flash0Ver
    (cond (eqb n 3) Flash1Ver
    (cond (eqb n 4) Client ClientVer)))))
type_with none = code.None

type_back : (x : code.Option ResetType) → type_with (type_number x) ≡ x
type_back (code.Some Flash0) = refl
type_back (code.Some Flash1) = refl
type_back (code.Some Flash0Ver) = refl
type_back (code.Some Flash1Ver) = refl
type_back (code.Some Client) = refl
type_back (code.Some ClientVer) = refl
type_back code.None = refl

same_type : (x y : code.Option ResetType) → type_number x ≡ type_number y → x ≡ y
same_type x y e = sym (type_back x) ∙ ap type_with e ∙ type_back y

-- the part of n bytes after p
pub after : (p s rest : List ℕ) (a n : ℕ) → length p ≡ a → length s ≡ n → take n (drop a (p ++ s ++ rest)) ≡ s
after p s rest a n e l = rw (append_assoc p s rest, drop_at p (s ++ rest) a e) (take_at s rest n l)

-- a field within p
field_in : (f : Field) (p x : List ℕ) → f.from + f.size ≤ length p → field_of f (p ++ x) ≡ field_of f p
field_in f p x h =
    let l : f.size ≤ length (drop f.from p) = rw length-drop (omega arith) in
    ap (take f.size) (drop-append-le f.from p x (omega arith)) ∙ take-append-le f.size (drop f.from p) x l

from_72 : (has : Bool) → 72 ≤ (data_field has).from
from_72 true = omega arith
from_72 false = omega arith

second_from : (has : Bool) (p x : List ℕ) → length p ≡ (data_field has).from → (digests_at has (p ++ x)).second ≡ (digests_at has p).second
second_from true p x h = field_in second_digest_field p x (omega arith)
second_from false p x h = refl

-- what comes before the data is all that is read
read_from : (p x : List ℕ) → length p ≡ (data_field (has_second (number_in mask_field p))).from → record_at (p ++ x) ≡ record_at p
unfolding record_at
read_from p x e =
    let has = has_second (number_in mask_field p) in
    let l = from_72 has in
    rw (
      field_in type_field p x (omega arith),
      field_in mask_field p x (omega arith),
      field_in first_digest_field p x (omega arith),
      field_in measured_id_field p x (omega arith),
      second_from has p x e,
    )

module _ (a d m e rest : List ℕ) (ha : length a ≡ 8) (hd : length d ≡ 32) (hm : length m ≡ 32) (he : length e ≡ 32) where
  abbrev all : List ℕ
  all = a ++ d ++ m ++ e ++ rest

  first_is : field_of first_digest_field all ≡ d
  first_is = rw (append_assoc (a ++ d ++ m) e rest, append_assoc (a ++ d) m (e ++ rest)) (after a d (m ++ (e ++ rest)) 8 32 ha hd)

  measured_is : field_of measured_id_field all ≡ m
  measured_is = rw (append_assoc (a ++ d ++ m) e rest) (after (a ++ d) m (e ++ rest) 40 32 (rw (length-append, ha, hd)) hm)

  second_is : field_of second_digest_field all ≡ e
  second_is = after (a ++ d ++ m) e rest 72 32 (rw (length-append, length-append, ha, hd, hm)) he

  mask_is : field_of mask_field all ≡ field_of mask_field a
  mask_is =
      rw (append_assoc (a ++ d ++ m) e rest, append_assoc (a ++ d) m (e ++ rest), append_assoc a d (m ++ (e ++ rest)))
      (field_in mask_field a (d ++ (m ++ (e ++ rest))) (omega arith))

  fields : let r = record_at all in
      (r.digests.first ≡ d) × (r.measured_id ≡ m) × (r.digests.second ≡ cond (has_second (number_in mask_field a)) e (zeros 32))
  unfolding record_at
  fields = (first_is, measured_is, rw (mask_is, second_is))

-- ---- the mask, and which digest is allowed

bits : (seed second : Bool) (k : ℕ)
    → let mask = cond seed 1 0 + cond second 2 0 + 4 * k in (reset_seed mask ≡ seed) × (has_second mask ≡ second)
bits seed second k =
    let mask = cond seed 1 0 + cond second 2 0 + 4 * k in
    let h : mask / 2 ≡ cond second 1 0 + 2 * k = halved seed second in
    (from_bit seed (mask % 2) (low seed second), from_bit second (mask / 2 % 2) (rw h (even second)))
  where
    halved : (x y : Bool) → (cond x 1 0 + cond y 2 0 + 4 * k) / 2 ≡ cond y 1 0 + 2 * k
    halved true true = omega arith
    halved true false = omega arith
    halved false true = omega arith
    halved false false = omega arith

    low : (x y : Bool) → (cond x 1 0 + cond y 2 0 + 4 * k) % 2 ≡ cond x 1 0
    low true true = omega arith
    low true false = omega arith
    low false true = omega arith
    low false false = omega arith

    even : (y : Bool) → (cond y 1 0 + 2 * k) % 2 ≡ cond y 1 0
    even true = omega arith
    even false = omega arith

    from_bit : (t : Bool) (x : ℕ) → x ≡ cond t 1 0 → eqb x 1 ≡ t
    from_bit true x e = rw e
    from_bit false x e = rw e

one_of_exactly : (a : Digests) (d : List ℕ) → (one_of a d ≡ true) ↔ ((d ≡ a.first) ⊎ ((a.has_second ≡ true) × (d ≡ a.second)))
one_of_exactly a d = go (same d a.first) a.has_second (same_exactly d a.first) (same_exactly d a.second)
  where
    go : (f h : Bool) → (f ≡ true) ↔ (d ≡ a.first) → (same d a.second ≡ true) ↔ (d ≡ a.second)
        → (f || (h && same d a.second) ≡ true) ↔ ((d ≡ a.first) ⊎ ((h ≡ true) × (d ≡ a.second)))
    go true h p q = (λ e. inl (p.0 refl), λ x. refl)
    go false true p q = (λ e. inr (refl, q.0 e), λ x. ⊎_elim (λ y. let w : ◌≡◌ {A = Bool} false true = p.1 y in impossible cc) (λ y. q.1 y.1) x)
    go false false p q = (λ e. impossible cc, λ x. ⊎_elim (λ y. p.1 y) (λ y. y.0) x)

pub records : Records
unfolding record_at
records = record {
  types = same_type;
  bits = bits;
  fields = fields;
  one_of_exactly = one_of_exactly;
  data_place = (refl, refl);
  unread = λ p x y e. read_from p x e ∙ sym (read_from p y e);
}
