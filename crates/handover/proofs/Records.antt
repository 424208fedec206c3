-- How a record is put together: field behind field, whatever was there before.
use Prim.Native.Nat.{ℕ, ◌+◌, ◌/◌, ◌%◌, ◌≤◌}
use mathlib.Core.Path.{◌≡◌, refl, sym, ap, ◌∙◌}
use mathlib.Core.Bool.{Bool, true, false, cond}
use mathlib.Core.List.{List, [], ◌∷◌, ◌++◌, append_assoc, append-nil, foldl}
use native.Mathlib.Omega.{arith}
use lib.ListN.{length, take, drop, length-append, length-drop}
use lib.Seq.{take_at, drop_at, paste, drop-drop}
use Rattle.std.proofs.lemmas.List.Edits.{paste_all}
use Rattle.std.specs.Int.{to_le_bytes}
use mir.Syntax.{w32}
use Rattle.endian.specs.Endian.{first_bytes}
use Rattle.endian.specs.Lists.{zeros}
use Rattle.endian.proofs.Lists.{empty}
use Rattle.endian.proofs.Words.{bytes_length}
use Rattle.record.specs.Record.{Field, type_field, mask_field, first_digest_field, measured_id_field, second_digest_field, data_field, has_second}
use Rattle.handover.specs.Reset.{Next, word_bytes, put, written_record}

pub from_size : (has : Bool) → (data_field has).from + (data_field has).size ≤ 256
from_size true = omega arith
from_size false = omega arith

-- what is put behind p
next : (f : Field) (p z v : List ℕ) → length p ≡ f.from → put f v (p ++ z) ≡ p ++ v ++ drop f.size z
next f p z v e = rw (take_at p z f.from e, drop_at p z f.from e)

-- and what ends the record
last : (f : Field) (p z v : List ℕ) → length p ≡ f.from → length z ≡ f.size → put f v (p ++ z) ≡ p ++ v
last f p z v e l = next f p z v e ∙ ap (λ (x : List ℕ). p ++ v ++ x) (empty (drop f.size z) (length-drop f.size z ∙ omega arith)) ∙ append-nil (p ++ v)

module _ (t m f i s d : List ℕ) (ht : length t ≡ 4) (hm : length m ≡ 4) (hf : length f ≡ 32) (hi : length i ≡ 32) (hs : length s ≡ 32) where
  -- all before the second digest
  abbrev front : List ℕ
  front = t ++ m ++ f ++ i

  pub front_length : length front ≡ 72
  front_length = rw (length-append (t ++ m ++ f) i, length-append (t ++ m) f, length-append t m) (omega arith)

  module _ (rec : List ℕ) (hr : length rec ≡ 256) where
    abbrev z1 : List ℕ
    z1 = drop 4 rec

    abbrev z4 : List ℕ
    z4 = drop 32 (drop 32 (drop 4 z1))

    rest_length : length z4 ≡ 184
    rest_length = rw (length-drop, length-drop, length-drop, length-drop) (omega arith)

    -- the first four fields
    abbrev fronted : List ℕ
    fronted = put measured_id_field i (put first_digest_field f (put mask_field m (put type_field t rec)))

    fronted_is : fronted ≡ front ++ z4
    fronted_is =
        let e2 : put mask_field m (t ++ z1) ≡ t ++ m ++ drop 4 z1 = next mask_field t z1 m ht in
        let e3 : put first_digest_field f (t ++ m ++ drop 4 z1) ≡ t ++ m ++ f ++ drop 32 (drop 4 z1) =
        next first_digest_field (t ++ m) (drop 4 z1) f (rw length-append (omega arith)) in
        let e4 : put measured_id_field i (t ++ m ++ f ++ drop 32 (drop 4 z1)) ≡ front ++ z4 =
        next measured_id_field (t ++ m ++ f) (drop 32 (drop 4 z1)) i (rw (length-append, length-append) (omega arith)) in
        ap (λ (x : List ℕ). put measured_id_field i (put first_digest_field f x)) e2 ∙ ap (put measured_id_field i) e3 ∙ e4

    -- and the rest
    pub whole : (has : Bool) → length d ≡ (data_field has).size
        → put (data_field has) d (cond has (put second_digest_field s fronted) fronted) ≡ front ++ cond has s [] ++ d
    whole has hd = ap (λ (x : List ℕ). put (data_field has) d (cond has (put second_digest_field s x) x)) fronted_is ∙ go has
      where
        behind : length (drop 32 z4) ≡ 152
        behind = length-drop 32 z4 ∙ omega (arith, rest_length)

        go : (has : Bool) → put (data_field has) d (cond has (put second_digest_field s (front ++ z4)) (front ++ z4)) ≡ front ++ cond has s [] ++ d
        go true =
            ap (put (data_field true) d) (next second_digest_field front z4 s front_length)
            ∙ last (data_field true) (front ++ s) (drop 32 z4) d (length-append front s ∙ omega (arith, front_length)) behind
        go false = last (data_field false) front z4 d front_length rest_length ∙ ap (λ (x : List ℕ). x ++ d) (sym (append-nil front))

pub word_length : (n : ℕ) → length (word_bytes n) ≡ 4
word_length n = bytes_length 4 (n ∷ [])

-- the fields one behind the other, and each byte of the record is written: what was there before does not matter
module _ (x : Next) (id : List ℕ) (hf : length x.first ≡ 32) (hi : length id ≡ 32) (hs : length x.second ≡ 32)
    (hd : length x.next_data ≡ (data_field (has_second x.mask)).size) where
  abbrev has : Bool
  has = has_second x.mask

  abbrev stores : Bool → List ℕ → List ℕ
  stores b rec =
      let r = put measured_id_field id (put first_digest_field x.first (put mask_field (word_bytes x.mask) (put type_field (word_bytes x.type) rec))) in
      put (data_field b) x.next_data (cond b (put second_digest_field x.second r) r)

  joins : (rec : List ℕ) → length rec ≡ 256
      → stores has rec ≡ word_bytes x.type ++ word_bytes x.mask ++ x.first ++ id ++ cond has x.second [] ++ x.next_data
  joins rec hr =
      whole (word_bytes x.type) (word_bytes x.mask) x.first id x.second x.next_data (word_length x.type) (word_length x.mask) hf hi hs rec hr has hd

  -- what is written, where b says whether there is a second digest
  abbrev pairs : Bool → List (Field × List ℕ)
  pairs b =
      (type_field, word_bytes x.type) ∷ (mask_field, word_bytes x.mask) ∷ (first_digest_field, x.first) ∷ (measured_id_field, id) ∷ []
      ++ cond b ((second_digest_field, x.second) ∷ []) []
      ++ (data_field b, x.next_data) ∷ []

  written_is : written_record x id ≡ stores has (zeros 256)
  unfolding written_record
  written_is = go has
    where
      go : (b : Bool) → foldl (λ (rec : List ℕ) (c : Field × List ℕ). put c.0 c.1 rec) (zeros 256) (pairs b) ≡ stores b (zeros 256)
      go true = refl
      go false = refl

  pub parts : written_record x id ≡ word_bytes x.type ++ word_bytes x.mask ++ x.first ++ id ++ cond has x.second [] ++ x.next_data
  parts = written_is ∙ joins (zeros 256) refl

  any_record : (rec : List ℕ) → length rec ≡ 256 → stores has rec ≡ written_record x id
  any_record rec hr = joins rec hr ∙ sym parts

-- the bytes of a number as the code writes them
pub low_bytes : (n : ℕ) → to_le_bytes w32 n ≡ word_bytes n
unfolding first_bytes
low_bytes n =
    let e : n ≡ n / 1 = omega arith in
    ap (λ (m : ℕ). m % 256 ∷ n / 256 % 256 ∷ n / 65536 % 256 ∷ n / 16777216 % 256 ∷ []) e

-- bytes written at a place, as a field is put
pub pasted : (o s : List ℕ) (from size : ℕ) → size ≡ length s → paste o from s (length s) ≡ put (record { from = from; size = size }) s o
pasted o s from size e = rw e (paste_all o from s (length s) refl ∙ ap (λ (l : List ℕ). take from o ++ (s ++ l)) (sym (drop-drop (length s) from o)) ∙ sym (append_assoc (take from o) s (drop (length s) (drop from o))))

-- six stores, one after the other
module _ (x : Next) (id : List ℕ) (hf : length x.first ≡ 32) (hi : length id ≡ 32) (hs : length x.second ≡ 32)
    (hd : length x.next_data ≡ (data_field (has_second x.mask)).size) where
  pub stored : (o0 o1 o2 o3 o4 o5 o6 : List ℕ) (from : ℕ) → length o0 ≡ 256
      → from ≡ (data_field (has_second x.mask)).from → o1 ≡ paste o0 0 (word_bytes x.type) (length (word_bytes x.type))
      → o2 ≡ paste o1 4 (word_bytes x.mask) (length (word_bytes x.mask))
      → o3 ≡ paste o2 8 x.first (length x.first) → o4 ≡ paste o3 40 id (length id)
      → o5 ≡ cond (has_second x.mask) (paste o4 72 x.second (length x.second)) o4
      → o6 ≡ paste o5 from x.next_data (length x.next_data) → o6 ≡ written_record x id
  stored o0 o1 o2 o3 o4 o5 o6 from h0 hw e1 e2 e3 e4 e5 e6 =
      let p1 = pasted o0 (word_bytes x.type) 0 4 (sym (word_length x.type)) in
      let p2 = pasted o1 (word_bytes x.mask) 4 4 (sym (word_length x.mask)) in
      let p3 = pasted o2 x.first 8 32 (sym hf) in
      let p4 = pasted o3 id 40 32 (sym hi) in
      let p5 = pasted o4 x.second 72 32 (sym hs) in
      let p6 = pasted o5 x.next_data from (data_field (has_second x.mask)).size (sym hd) in
      rw (e6, p6, e5, p5, e4, p4, e3, p3, e2, p2, e1, p1, hw) (any_record x id hf hi hs hd o0 h0)

-- CDI and seed in a buffer of 64 bytes
module _ (cdi seed : List ℕ) (hc : length cdi ≡ 32) (hs : length seed ≡ 32) where
  pub joined : (o1 o2 : List ℕ) → o1 ≡ paste (zeros 64) 0 cdi (length cdi) → o2 ≡ paste o1 32 seed (length seed) → o2 ≡ cdi ++ seed
  joined o1 o2 e1 e2 =
      let p1 = pasted (zeros 64) cdi 0 32 (sym hc) in
      let p2 = pasted o1 seed 32 32 (sym hs) in
      rw (e2, p2, e1, p1) (last (record { from = 32; size = 32 }) cdi (zeros 32) seed hc refl)

  pub joined_length : length (cdi ++ seed) ≡ 64
  joined_length = length-append cdi seed ∙ omega arith
