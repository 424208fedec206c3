-- The theorem of specs/Theorems.antt about the header byte. The list of lengths is used through two laws: the code of the length of a code is
-- that code, and the length of the code of a length is that length. The rest is arithmetic on the fields.
use Prim.Native.Nat.{ℕ, zero, suc, ◌+◌, ◌*◌, ◌/◌, ◌%◌, ◌<◌, ◌≤◌}
use mathlib.Core.Path.{◌≡◌, refl, sym}
use mathlib.Core.Bool.{Bool, true, false, cond, ◌&&◌}
use mathlib.Core.List.{List, [], ◌∷◌}
use mathlib.Core.Logic.{◌↔◌, ◌⊎◌, inl, inr, ⊎_elim}
use native.Mathlib.Nat.{le_of_suc-le-suc, mul-one}
use native.Mathlib.Omega.{arith}
use lib.Dec.{eqb, ltb}
use lib.ListN.{length, get_or}
use borrow.Author.Tests.{eq-eqb, eqb-true, eqb-false, lt-ltb, ltb-true, ltb-false}
use Rattle.std.specs.Prelude.{Option, Some, None}
use Rattle.endian.proofs.Cases.{impossible}
use Rattle.framing.specs.Header.{index_of, length_of, code_of, Fields, fields, bad, fields_at, Reading, good, stop, as_command, header_at, Writing, byte, refused, header_byte, reply_body_len, is_good, body_len, in_field, frame_id, endpoint, length_code}
use Rattle.framing.specs.Answers.{status_number, reading_of, fields_of, writing_of}
use Rattle.framing.specs.Theorems.{Headers, bit}
use Rattle.framing.specs.declared.Header.{Header}
use Rattle.framing.specs.declared.ReplyHeader.{ReplyHeader}
use Rattle.framing.specs.declared.Status.{Status}
use Rattle.framing.specs.declared.Status.TheVariants as status

-- what stands at the place of n in a list that has it is n
indexed : (n : ℕ) (xs : List ℕ) → index_of n xs < length xs → get_or xs (index_of n xs) 0 ≡ n
indexed n [] h = absurd (omega arith)
indexed n (x ∷ xs) h = go (indexed n xs) (eqb n x) refl h
  where
    go : (index_of n xs < length xs → get_or xs (index_of n xs) 0 ≡ n) → (t : Bool) → eqb n x ≡ t
        → cond t 0 (suc (index_of n xs)) < suc (length xs) → get_or (x ∷ xs) (cond t 0 (suc (index_of n xs))) 0 ≡ n
    go more true e l = sym (eqb-true n x e)
    go more false e l = more (le_of_suc-le-suc l)

length_of_code : (n : ℕ) → code_of n < 4 → length_of (code_of n) ≡ n
length_of_code n h = indexed n (1 ∷ 4 ∷ 32 ∷ 128 ∷ []) h

code_of_length : (c : ℕ) → c < 4 → code_of (length_of c) ≡ c
code_of_length zero h = refl
code_of_length (suc zero) h = refl
code_of_length (suc (suc zero)) h = refl
code_of_length (suc (suc (suc zero))) h = refl
code_of_length (suc (suc (suc (suc c)))) h = absurd (omega arith)

-- one of the four lengths
abbrev Known : ℕ → Type 0
Known n = (n ≡ 1) ⊎ ((n ≡ 4) ⊎ ((n ≡ 32) ⊎ (n ≡ 128)))

known_of_code : (n c : ℕ) → length_of c ≡ n → c < 4 → Known n
known_of_code n zero e h = inl (sym e)
known_of_code n (suc zero) e h = inr (inl (sym e))
known_of_code n (suc (suc zero)) e h = inr (inr (inl (sym e)))
known_of_code n (suc (suc (suc zero))) e h = inr (inr (inr (sym e)))
known_of_code n (suc (suc (suc (suc c)))) e h = absurd (omega arith)

code_of_known : (n : ℕ) → Known n → code_of n < 4
code_of_known n (inl e) = rw e (omega arith)
code_of_known n (inr (inl e)) = rw e (omega arith)
code_of_known n (inr (inr (inl e))) = rw e (omega arith)
code_of_known n (inr (inr (inr e))) = rw e (omega arith)

-- the byte of fields in range
pub written : (id ep n s : ℕ) → id < 4 → ep < 4 → code_of n < 4 → s < 2 → header_byte id ep n s ≡ byte (id * 32 + ep * 8 + s * 4 + code_of n)
unfolding header_byte
written id ep n s hi he hc hs = simp (lt-ltb id 4 hi, lt-ltb ep 4 he, lt-ltb (code_of n) 4 hc, lt-ltb s 2 hs, mul-one)

-- a byte of fields in range reads as those fields
read_written : (id ep c s : ℕ) → id < 4 → ep < 4 → c < 4 → s < 2 → fields_at (id * 32 + ep * 8 + s * 4 + c) ≡ fields id ep (length_of c) s
unfolding fields_at
read_written id ep c s hi he hc hs =
    let b : ℕ = id * 32 + ep * 8 + s * 4 + c in
    let d7 : b / 128 ≡ 0 = omega arith in
    let e7 : b / 128 % 2 ≡ 0 = omega arith in
    let d5 : b / 32 ≡ id = omega arith in
    let e5 : b / 32 % 4 ≡ id = omega arith in
    let d3 : b / 8 ≡ id * 4 + ep = omega arith in
    let e3 : b / 8 % 4 ≡ ep = omega arith in
    let d2 : b / 4 ≡ (id * 4 + ep) * 2 + s = omega arith in
    let e2 : b / 4 % 2 ≡ s = omega arith in
    let d0 : b / 1 ≡ b = omega arith in
    let e0 : b % 4 ≡ c = omega arith in
    simp (eq-eqb (b / 128 % 2) 0 e7, e5, e3, e2, d0, e0)

-- a byte without bit 7 is the sum of its other fields
sum_of_fields : (b : ℕ) → b < 256 → b / 128 % 2 ≡ 0 → b / 32 % 4 * 32 + b / 8 % 4 * 8 + b / 4 % 2 * 4 + b / 1 % 4 ≡ b
sum_of_fields b h p =
    let d7 : b / 128 < 2 = omega arith in
    let e7 : b / 128 ≡ 0 = omega arith in
    let d5 : b / 32 < 4 = omega arith in
    let e5 : b / 32 % 4 ≡ b / 32 = omega arith in
    let d3 : b / 8 ≡ b / 32 * 4 + b / 8 % 4 = omega arith in
    let d2 : b / 4 ≡ b / 8 * 2 + b / 4 % 2 = omega arith in
    let d0 : b ≡ b / 4 * 4 + b / 1 % 4 = omega arith in
    omega arith

-- the writer gives a byte, and which one, or some field has no room
module _ (id ep n s : ℕ) where
  by_fields : (P : Writing → Type 0) → (id < 4 → ep < 4 → code_of n < 4 → s < 2 → P (byte (id * 32 + ep * 8 + s * 4 + code_of n)))
      → (((id < 4) × (ep < 4) × (code_of n < 4) × (s < 2) → ⊥) → P (refused 11)) → P (header_byte id ep n s)
  unfolding header_byte
  by_fields P f g = go (ltb id 4) (ltb ep 4) (ltb (code_of n) 4) (ltb s 2) refl refl refl refl
    where
      go : (x y z w : Bool) → ltb id 4 ≡ x → ltb ep 4 ≡ y → ltb (code_of n) 4 ≡ z → ltb s 2 ≡ w
          → P (cond (x && (y && (z && w))) (byte (id * 32 + ep * 8 + s * 4 + code_of n * 1)) (refused 11))
      go true true true true p q r t = rw mul-one (f (ltb-true id 4 p) (ltb-true ep 4 q) (ltb-true (code_of n) 4 r) (ltb-true s 2 t))
      go false y z w p q r t = g (λ h. let o = ltb-false id 4 p in omega arith)
      go true false z w p q r t = g (λ h. let o = ltb-false ep 4 q in omega arith)
      go true true false w p q r t = g (λ h. let o = ltb-false (code_of n) 4 r in omega arith)
      go true true true false p q r t = g (λ h. let o = ltb-false s 2 t in omega arith)

  pub no_room : ((id < 4) × (ep < 4) × (code_of n < 4) × (s < 2) → ⊥) → refused 11 ≡ header_byte id ep n s
  no_room h = by_fields (λ (x : Writing). refused 11 ≡ x) (λ hi he hc hs. absurd (h (hi, he, hc, hs))) (λ g. refl)

module _ (b : ℕ) where
  -- a byte is read by its bit 7
  pub by_bit : (P : Fields → Type 0) → (b / 128 % 2 ≡ 0 → P (fields (b / 32 % 4) (b / 8 % 4) (length_of (b / 1 % 4)) (b / 4 % 2)))
      → (bit 7 b ≡ 1 → P bad) → P (fields_at b)
  unfolding fields_at
  by_bit P f g = go (eqb (b / 128 % 2) 0) refl
    where
      go : (x : Bool) → eqb (b / 128 % 2) 0 ≡ x → P (cond x (fields (b / 32 % 4) (b / 8 % 4) (length_of (b / 1 % 4)) (b / 4 % 2)) bad)
      go true p = f (eqb-true (b / 128 % 2) 0 p)
      go false p = g (omega (arith, eqb-false (b / 128 % 2) 0 p))

  -- and as a command is good or bad by its bits 7 and 2
  pub by_bits : (P : Reading → Type 0) → (b / 128 % 2 ≡ 0 → b / 4 % 2 ≡ 0 → P (good (b / 32 % 4) (b / 8 % 4) (length_of (b / 1 % 4))))
      → ((bit 7 b ≡ 1) ⊎ (bit 2 b ≡ 1) → P (stop 22)) → P (header_at b)
  unfolding header_at
  by_bits P f g = by_bit (λ (x : Fields). P (as_command x)) (λ p. go p (eqb (b / 4 % 2) 0) refl) (λ h. g (inl h))
    where
      go : b / 128 % 2 ≡ 0 → (y : Bool) → eqb (b / 4 % 2) 0 ≡ y → P (cond y (good (b / 32 % 4) (b / 8 % 4) (length_of (b / 1 % 4))) (stop 22))
      go p true q = f p (eqb-true (b / 4 % 2) 0 q)
      go p false q = g (inr (omega (arith, eqb-false (b / 4 % 2) 0 q)))

-- a good header of a command, and a bad one
pub good_fields : (h : ℕ) → is_good (header_at h) ≡ true → header_at h ≡ good (in_field frame_id h) (in_field endpoint h) (length_of (in_field length_code h))
good_fields h =
    by_bits h (λ (x : Reading). is_good x ≡ true → x ≡ good (in_field frame_id h) (in_field endpoint h) (length_of (in_field length_code h))) (λ p q e. refl)
    (λ g e. impossible cc)

pub good_at : (h : ℕ) → is_good (header_at h) ≡ true → header_at h ≡ good (in_field frame_id h) (in_field endpoint h) (body_len (header_at h))
good_at h e = rw (good_fields h e)

pub bad_at : (h : ℕ) → is_good (header_at h) ≡ false → header_at h ≡ stop 22
bad_at h = by_bits h (λ (x : Reading). is_good x ≡ false → x ≡ stop 22) (λ p q e. impossible cc) (λ g e. refl)

-- a body has at most 128 bytes
length_small : (c : ℕ) → c < 4 → length_of c ≤ 128
length_small zero h = omega arith
length_small (suc zero) h = omega arith
length_small (suc (suc zero)) h = omega arith
length_small (suc (suc (suc zero))) h = omega arith
length_small (suc (suc (suc (suc c)))) h = absurd (omega arith)

pub body_small : (h : ℕ) → body_len (header_at h) ≤ 128
body_small h = by_bits h (λ (r : Reading). body_len r ≤ 128) (λ p q. length_small (h / 1 % 4) (omega arith)) (λ g. omega arith)

pub reply_small : (h : ℕ) → reply_body_len (fields_at h) ≤ 128
reply_small h = by_bit h (λ (r : Fields). reply_body_len r ≤ 128) (λ p. length_small (h / 1 % 4) (omega arith)) (λ g. omega arith)

-- the fields of a good byte
pub fields_of_is : (b id ep n : ℕ) → header_at b ≡ good id ep n → (in_field frame_id b ≡ id) × (in_field endpoint b ≡ ep)
fields_of_is b id ep n =
    by_bits b (λ (x : Reading). x ≡ good id ep n → (in_field frame_id b ≡ id) × (in_field endpoint b ≡ ep)) (λ p q e. (cc, cc)) (λ g e. impossible cc)

-- a byte that reads is written again from what it says
write_read : (b id ep n s : ℕ) → b < 256 → fields_at b ≡ fields id ep n s → header_byte id ep n s ≡ byte b
write_read b id ep n s h =
    by_bit b (λ (x : Fields). x ≡ fields id ep n s → header_byte id ep n s ≡ byte b)
    (λ p e.
    let i : b / 32 % 4 ≡ id = cc in
    let k : b / 8 % 4 ≡ ep = cc in
    let l : length_of (b / 1 % 4) ≡ n = cc in
    let t : b / 4 % 2 ≡ s = cc in
    let r : code_of n ≡ b / 1 % 4 = rw (← l) (code_of_length (b / 1 % 4) (omega arith)) in
    let m : id * 32 + ep * 8 + s * 4 + code_of n ≡ b = rw (← i, ← k, ← t, r) (sum_of_fields b h p) in
    rw (written id ep n s (omega arith) (omega arith) (omega arith) (omega arith), m))
    (λ g e. impossible cc)

-- a command is what reads with status 0
as_command_is : (x : Fields) (id ep n : ℕ) → (as_command x ≡ good id ep n) ↔ (x ≡ fields id ep n 0)
as_command_is (fields i e m s) id ep n = (go (eqb s 0) refl, λ q. let z : s ≡ 0 = cc in rw (eq-eqb s 0 z) cc)
  where
    go : (t : Bool) → eqb s 0 ≡ t → cond t (good i e m) (stop 22) ≡ good id ep n → fields i e m s ≡ fields id ep n 0
    go true p q = let z : s ≡ 0 = eqb-true s 0 p in cc
    go false p q = impossible cc
as_command_is bad id ep n = (λ q. impossible cc, λ q. impossible cc)

-- every status has a bit
pub status_small : (s : Status) → status_number s < 2
status_small status.Good = omega arith
status_small status.Bad = omega arith

pub headers : Headers
unfolding header_at
headers = record {
  exact = λ b id ep n s. (
    λ h. write_read b id ep n s h.0 h.1,
    by_fields id ep n s (λ (x : Writing). x ≡ byte b → (b < 256) × (fields_at b ≡ fields id ep n s))
        (λ hi he hc hs w.
        let e : id * 32 + ep * 8 + s * 4 + code_of n ≡ b = cc in
        (omega arith, rw (← e, read_written id ep (code_of n) s hi he hc hs, length_of_code n hc)))
        (λ h w. impossible cc),
  );
  command = λ b. as_command_is (fields_at b);
  status = λ b id ep n s. by_bit b (λ (x : Fields). x ≡ fields id ep n s → s ≡ bit 2 b) (λ p e. cc) (λ h e. impossible cc);
  bad_reply = λ b. (
    by_bit b (λ (x : Fields). x ≡ bad → bit 7 b ≡ 1) (λ p e. impossible cc) (λ h e. h),
    λ h. by_bit b (λ (x : Fields). x ≡ bad) (λ p. absurd (omega arith)) (λ g. refl),
  );
  bad_command = λ b. (
    by_bits b (λ (x : Reading). x ≡ stop 22 → (bit 7 b ≡ 1) ⊎ (bit 2 b ≡ 1)) (λ p q e. impossible cc) (λ h e. h),
    λ h. by_bits b (λ (x : Reading). x ≡ stop 22) (λ p q. absurd (⊎_elim (λ e. omega arith) (λ e. omega arith) h)) (λ g. refl),
  );
  refusal = λ id ep n s. (
    by_fields id ep n (status_number s) (λ (x : Writing). x ≡ refused 11 → ((id ≤ 3) × (ep ≤ 3) × Known n) → ⊥) (λ hi he hc hs e g. impossible cc)
        (λ h e g. h (omega arith, omega arith, code_of_known n g.2, status_small s)),
    λ h. by_fields id ep n (status_number s) (λ (x : Writing). x ≡ refused 11)
        (λ hi he hc hs. absurd (h (omega arith, omega arith, known_of_code n (code_of n) (length_of_code n hc) hc))) (λ g. refl),
  );
  statuses = same_status;
  reading = same_reading;
  reply = same_reply;
  writing = same_writing;
}
  where
    same_status : (x y : Status) → status_number x ≡ status_number y → x ≡ y
    same_status status.Good status.Good p = refl
    same_status status.Good status.Bad p = absurd (omega arith)
    same_status status.Bad status.Good p = absurd (omega arith)
    same_status status.Bad status.Bad p = refl

    header : {i j e f l m : ℕ} → i ≡ j → e ≡ f → l ≡ m
        → ◌≡◌ {A = Option Header} (Some (record { id = i; endpoint = e; len = l })) (Some (record { id = j; endpoint = f; len = m }))
    header p q r = rw (p, q, r)

    same_reading : (x y : Option Header) → reading_of x ≡ reading_of y → x ≡ y
    same_reading (Some x) (Some y) p =
        let i : x.id ≡ y.id = cc in
        let e : x.endpoint ≡ y.endpoint = cc in
        let l : x.len ≡ y.len = cc in
        header i e l
    same_reading (Some x) None p = cc
    same_reading None (Some y) p = cc
    same_reading None None p = refl

    reply : {i j e f l m : ℕ} {s t : Status} → i ≡ j → e ≡ f → l ≡ m → s ≡ t → ◌≡◌ {A = Option ReplyHeader}
        (Some (record { id = i; endpoint = e; len = l; status = s })) (Some (record { id = j; endpoint = f; len = m; status = t }))
    reply p q r o = rw (p, q, r, o)

    same_reply : (x y : Option ReplyHeader) → fields_of x ≡ fields_of y → x ≡ y
    same_reply (Some x) (Some y) p =
        let i : x.id ≡ y.id = cc in
        let e : x.endpoint ≡ y.endpoint = cc in
        let l : x.len ≡ y.len = cc in
        let s : x.status ≡ y.status = same_status x.status y.status cc in
        reply i e l s
    same_reply (Some x) None p = cc
    same_reply None (Some y) p = cc
    same_reply None None p = refl

    same_writing : (x y : Option ℕ) → writing_of x ≡ writing_of y → x ≡ y
    same_writing (Some a) (Some b) p = cc
    same_writing (Some a) None p = cc
    same_writing None (Some b) p = cc
    same_writing None None p = refl
