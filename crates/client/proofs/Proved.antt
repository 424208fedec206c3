-- The theorem of specs/Theorems.antt: a reply by its parts, and the parts of a reply that is expected.
use Prim.Native.Nat.{ℕ, zero, suc, ◌+◌, ◌-◌, ◌*◌, ◌^◌, ◌<◌, ◌≤◌}
use mathlib.Core.Path.{◌≡◌, refl, sym, ap, ◌∙◌, subst}
use mathlib.Core.Logic.{◌↔◌}
use mathlib.Core.Bool.{Bool, true, false, cond, ◌&&◌, and-eq-true_iff}
use mathlib.Core.List.{List, [], ◌∷◌, ◌++◌, append-nil}
use native.Mathlib.Omega.{arith}
use lib.Dec.{eqb}
use lib.ListN.{length, get_or, take, drop, replicate, length-take, length-drop, length-append, length-replicate, take-append-drop}
use lib.Seq.{take_all, take_at, drop_at}
use borrow.Author.Tests.{eq-eqb, ne_eqb, eqb-true, le-leb, le-ltb}
use Rattle.endian.proofs.Cases.{impossible}
use Rattle.framing.specs.Header.{Fields, fields, fields_at, reply_body_len, good, header_at, header_byte}
use Rattle.framing.specs.Answers.{status_number}
use Rattle.framing.specs.Theorems.{bit}
use Rattle.framing.specs.declared.Status.{Status}
use Rattle.framing.specs.declared.Status.TheVariants.{Good, Bad}
use Rattle.framing.proofs.Headers.{headers, by_bit, fields_of_is}
use Rattle.protocol.specs.Commands.{firmware, blocks_for, is_last}
use Rattle.protocol.specs.Replies.{written, reply_header, sent, header_in, status_in, load_reply, block_reply, digest_reply}
use Rattle.endian.specs.Lists.{padded}
use Rattle.protocol.proofs.Proved.{header_of}
use Rattle.std.specs.Prelude.{Option, None, Some, Result, Ok, Err}
use Rattle.client.specs.Answers.{number_of, difference_number}
use Rattle.client.specs.Frames.{refusal, Secret, secret_of, command_header, size_bytes, load_body, block_body, command_body, command_frame}
use Rattle.client.specs.Replies.{Expected, expected_reply, header_is, status_is, all_zero, digest_in, difference_in, Taking, taking_as, taken_as, refused_with, taking, differing}
use Rattle.client.specs.Theorems.{Expects, Client}
use Rattle.client.proofs.Numbers.{Given, given}
use Rattle.client.proofs.Expected.{Fits, expected_fits, Passes, passes, passed}
use Rattle.client.proofs.Zeros.{zeros_are, are_zeros}
use Rattle.client.specs.declared.Refusal.{Refusal}
use Rattle.client.specs.declared.Refusal.TheVariants.{FrameRoom, ProgramLength, FrameId, FrameNumber, UnexpectedReply}
use Rattle.client.specs.declared.Difference.{Difference}
use Rattle.client.specs.declared.Difference.TheVariants as difference

-- ---- numbers

answer_of : ℕ → Result (Unit {0}) Refusal
answer_of n =
    cond (eqb n 0) (Ok tt)
    (cond (eqb n 3) (Err FrameRoom)
    (cond (eqb n 40) (Err ProgramLength)
    (cond (eqb n 41) (Err FrameId)
    (cond (eqb n 42) (Err FrameNumber) (Err UnexpectedReply)))))

back : (a : Result (Unit {0}) Refusal) → answer_of (number_of a) ≡ a
unfolding answer_of
back (Ok done) = refl
back (Err FrameRoom) = refl
back (Err ProgramLength) = refl
back (Err FrameId) = refl
back (Err FrameNumber) = refl
back (Err UnexpectedReply) = refl

difference_at : ℕ → Option Difference
difference_at n =
    cond (eqb n 0) None
    (cond (eqb n 1) (Some difference.Header)
    (cond (eqb n 2) (Some difference.Length)
    (cond (eqb n 3) (Some difference.Code)
    (cond (eqb n 4) (Some difference.Status) (Some difference.Filler)))))

difference_back : (d : Option Difference) → difference_at (difference_number d) ≡ d
unfolding difference_at
difference_back None = refl
difference_back (Some difference.Header) = refl
difference_back (Some difference.Length) = refl
difference_back (Some difference.Code) = refl
difference_back (Some difference.Status) = refl
difference_back (Some difference.Filler) = refl

same_difference : (x y : Option Difference) → difference_number x ≡ difference_number y → x ≡ y
same_difference x y e = sym (difference_back x) ∙ ap difference_at e ∙ difference_back y

not_refused : (n id k : ℕ) → Given n id k → refusal n id k ≡ 0
unfolding refusal
not_refused n id k g = rw (le-leb 1 n g.some, le-leb n 131072 g.small, le-ltb 3 id g.id_small, le-ltb (blocks_for n) k g.frame)

-- ---- frames

filled_length : (n : ℕ) (l : List ℕ) → length l ≤ n → length (padded n l) ≡ n
filled_length n l h = rw (length-append, length-replicate) (omega arith)

body_length : (program : List ℕ) (s : Secret) (k : ℕ) → length s.uss ≡ 32 → length (command_body program s k) ≡ 128
unfolding load_body block_body
body_length program s k l = go (eqb k 0) s.used
  where
    go : (a u : Bool) → length (cond a (padded 128 (0x03 ∷ size_bytes (length program) ++ cond u (1 ∷ s.uss) (0 ∷ []))) (block_body program (k - 1))) ≡ 128
    go true true = filled_length 128 (0x03 ∷ size_bytes (length program) ++ 1 ∷ s.uss) (omega arith)
    go true false = refl
    go false u = filled_length 128 (0x05 ∷ take 127 (drop (127 * (k - 1)) program)) (let t = length-take 127 (drop (127 * (k - 1)) program) in omega arith)

command_header_is : (id : ℕ) → id ≤ 3 → header_at (command_header id) ≡ good id firmware 128
unfolding command_header
command_header_is id h = (headers.command _ id firmware 128).1 (header_of id 128 Good h (omega arith))

example : (command_frame (0xaa ∷ []) 1 (secret_of true (replicate 32 0xbb)) 0 ≡ 0x33 ∷ 0x03 ∷ 1 ∷ 0 ∷ 0 ∷ 0 ∷ 1 ∷ replicate 32 0xbb ++ replicate 90 0)
    × (command_frame (0xaa ∷ []) 1 (secret_of false (replicate 32 0xbb)) 0 ≡ 0x33 ∷ 0x03 ∷ 1 ∷ replicate 126 0)
    × (command_frame (0xaa ∷ []) 1 (secret_of false (replicate 32 0xbb)) 1 ≡ 0x33 ∷ 0x05 ∷ 0xaa ∷ replicate 126 0)
unfolding command_header header_byte load_body block_body
example = (refl, refl, refl)

-- ---- a reply that is expected

-- the status of this number
record StatusOf (s : ℕ) : Type 0 where
  status : Status
  number : s ≡ status_number status

fields_are : (i ep m s id n : ℕ) → header_is (fields i ep m s) id n ≡ true → fields i ep m s ≡ fields id firmware n s
fields_are i ep m s id n e =
    let b = (and-eq-true_iff (eqb i id) (eqb ep firmware && eqb m n)).0 e in
    let d = (and-eq-true_iff (eqb ep firmware) (eqb m n)).0 b.1 in
    let p : i ≡ id = eqb-true i id b.0 in
    let q : ep ≡ 2 = eqb-true ep firmware d.0 in
    let r : m ≡ n = eqb-true m n d.1 in
    rw (p, q, r)

header_is_fields : (b id n : ℕ) → header_is (fields_at b) id n ≡ true → fields_at b ≡ fields id firmware n (bit 2 b)
header_is_fields b id n =
    by_bit b (λ (x : Fields). header_is x id n ≡ true → x ≡ fields id firmware n (bit 2 b)) (λ p e. fields_are _ _ _ _ id n e) (λ h e. impossible cc)

-- its header and its status byte
byte_is : (b id n s : ℕ) → b < 2 ^ 8 → header_is (fields_at b) id n ≡ true → s ≡ bit 2 b → b ≡ written (header_byte id firmware n s)
byte_is b id n s l e t = ap written (sym ((headers.exact b id firmware n s).0 (l, rw t (header_is_fields b id n e))))

status_is_bit : (b s : ℕ) → status_is (fields_at b) s ≡ true → s ≡ bit 2 b
status_is_bit b s = by_bit b (λ (x : Fields). status_is x s ≡ true → s ≡ bit 2 b) (λ p e. eqb-true s (bit 2 b) e) (λ h e. impossible cc)

status_of : (s : ℕ) → s < 2 → StatusOf s
status_of zero h = record { status = Good; number = refl }
status_of (suc zero) h = record { status = Bad; number = refl }
status_of (suc (suc s)) h = absurd (omega arith)

-- its bytes after the status
rest_is : (d n : ℕ) (rest : List ℕ) → d + 2 ≤ n → length rest + 2 ≡ n → all_zero (drop d rest) ≡ true
    → rest ≡ take d rest ++ replicate (n - suc (suc (length (take d rest)))) 0
rest_is d n rest h l z =
    let t = length-take d rest in
    let m : length (drop d rest) ≡ n - suc (suc (length (take d rest))) = length-drop d rest ∙ omega arith in
    sym (take-append-drop d rest) ∙ ap (λ (y : List ℕ). take d rest ++ y) (zeros_are (drop d rest) z ∙ ap (λ (i : ℕ). replicate i 0) m)

-- its bytes one by one
four : {a b c d e f : ℕ} {x y : List ℕ} → a ≡ b → c ≡ d → e ≡ f → x ≡ y → a ∷ c ∷ e ∷ x ≡ b ∷ d ∷ f ∷ y
four p q r t = rw (p, q, r, t)

parts : (x : Expected) → Fits x → (id : ℕ) (r : List ℕ) → header_in r < 2 ^ 8 → Passes x id r → Expects x id r
parts x f id [] l e = absurd (let w = e.whole in omega arith)
parts x f id (h ∷ []) l e = absurd (let w = e.whole in omega (arith, f.filler))
parts x f id (h ∷ c ∷ []) l e = absurd (let w = e.whole in omega (arith, f.filler))
parts x f id (h ∷ c ∷ s ∷ rest) l e =
    let w : suc (suc (suc (length rest))) ≡ 1 + x.len = e.whole in
    let b : s ≡ bit 2 h = status_is_bit h s e.status in
    let v = status_of s (omega arith) in
    let p : h ≡ written (header_byte id firmware x.len (status_number v.status)) = rw (← v.number) (byte_is h id x.len s l e.header b) in
    let t : rest ≡ take x.digest rest ++ replicate (x.len - suc (suc (length (take x.digest rest)))) 0 =
    rest_is x.digest x.len rest f.filler (omega arith) e.filler in
    let k = length-take x.digest rest in
    record {
      status = v.status;
      digest = take x.digest rest;
      digest_length = k ∙ omega (arith, f.filler);
      bytes = four p e.code v.number t;
    }

-- ---- the reply of these parts

module _ (x : Expected) (f : Fits x) (id : ℕ) (small : id ≤ 3) (r : List ℕ) (e : Expects x id r) where
  abbrev tail : List ℕ
  tail = e.digest ++ replicate (x.len - suc (suc (length e.digest))) 0

  tail_length : length tail + 2 ≡ x.len
  tail_length =
      let d = e.digest_length in
      let z = length-replicate {A = ℕ} (x.len - suc (suc (length e.digest))) 0 in
      let a = length-append e.digest (replicate (x.len - suc (suc (length e.digest))) 0) in
      omega (arith, f.filler)

  digest_first : take x.digest tail ≡ e.digest
  digest_first = take_at e.digest _ x.digest e.digest_length

  filler_after : all_zero (drop x.digest tail) ≡ true
  filler_after = ap all_zero (drop_at e.digest _ x.digest e.digest_length) ∙ are_zeros (x.len - suc (suc (length e.digest)))

  abbrev first : ℕ
  first = written (header_byte id firmware x.len (status_number e.status))

  first_is : fields_at first ≡ fields id firmware x.len (status_number e.status)
  first_is = header_of id x.len e.status small f.code

  header_right : header_is (fields_at first) id x.len ≡ true
  header_right = rw (first_is, eq-eqb id id refl, eq-eqb x.len x.len refl)

  status_right : status_is (fields_at first) (status_number e.status) ≡ true
  status_right = rw (first_is, eq-eqb (status_number e.status) (status_number e.status) refl)

  is_expected : difference_in x id r ≡ None
  is_expected =
      let l : suc (suc (suc (length tail))) ≡ 1 + x.len = (let t = tail_length in omega arith) in
      rw e.bytes
      (passed x id (first ∷ x.code ∷ status_number e.status ∷ tail)
      (record { header = header_right; whole = l; code = refl; status = status_right; filler = filler_after }))

  taken : taken_as x id r ≡ taking_as 0 (status_number e.status) (padded 32 e.digest)
  taken = rw (is_expected, e.bytes, digest_first)

gives_as : (n id k : ℕ) (r : List ℕ) (x : Expected) → expected_reply n k ≡ x → refusal n id k ≡ 0 → (e : Expects x id r)
    → taking n id k r ≡ taking_as 0 (status_number e.status) (padded 32 e.digest)
unfolding taking
gives_as n id k r x q z e = rw (z, q) (taken x (subst Fits q (expected_fits n k)) id (given n id k z).id_small r e)

gives : (n id k : ℕ) (r : List ℕ) → refusal n id k ≡ 0 → (e : Expects (expected_reply n k) id r)
    → taking n id k r ≡ taking_as 0 (status_number e.status) (padded 32 e.digest)
gives n id k r z e = gives_as n id k r (expected_reply n k) refl z e

differs : (n id k : ℕ) (r : List ℕ) → refusal n id k ≡ 0 → (differing n id k r ≡ None) ↔ ((taking n id k r).number ≡ 0)
unfolding differing taking
differs n id k r z = rw z (by_difference (difference_in (expected_reply n k) id r))
  where
    by_difference : (d : Option Difference)
        → (d ≡ None) ↔ ((cond (eqb (difference_number d) 0) (taking_as 0 (get_or r 2 0) (digest_in (expected_reply n k) r)) (refused_with 43)).number ≡ 0)
    by_difference None = (λ e. refl, λ e. refl)
    by_difference (Some difference.Header) = (λ e. impossible cc, λ e. absurd (omega arith))
    by_difference (Some difference.Length) = (λ e. impossible cc, λ e. absurd (omega arith))
    by_difference (Some difference.Code) = (λ e. impossible cc, λ e. absurd (omega arith))
    by_difference (Some difference.Status) = (λ e. impossible cc, λ e. absurd (omega arith))
    by_difference (Some difference.Filler) = (λ e. impossible cc, λ e. absurd (omega arith))

pub not_refusal : (n id k : ℕ) (r : List ℕ) → (taking n id k r).number ≡ 0 → refusal n id k ≡ 0
unfolding taking
not_refusal n id k r = go (eqb (refusal n id k) 0) refl
  where
    go : (t : Bool) → eqb (refusal n id k) 0 ≡ t → (cond t (taken_as (expected_reply n k) id r) (refused_with (refusal n id k))).number ≡ 0 → refusal n id k ≡ 0
    go true q e = eqb-true (refusal n id k) 0 q
    go false q e = e

taken_passes : (n id k : ℕ) (r : List ℕ) → (taking n id k r).number ≡ 0 → Passes (expected_reply n k) id r
unfolding differing
taken_passes n id k r e =
    let z = not_refusal n id k r e in
    passes (expected_reply n k) id r (rw z at ((differs n id k r z).1 e))

takes : (n id k : ℕ) (r : List ℕ) → header_in r < 2 ^ 8 → (taking n id k r).number ≡ 0 → (refusal n id k ≡ 0) × Expects (expected_reply n k) id r
takes n id k r l e = (not_refusal n id k r e, parts (expected_reply n k) (expected_fits n k) id r l (taken_passes n id k r e))

-- a reply that is taken is as long as its header says
pub taken_whole : (n id k : ℕ) (r : List ℕ) → (taking n id k r).number ≡ 0 → length r ≡ 1 + reply_body_len (fields_at (header_in r))
taken_whole n id k r e =
    let p = taken_passes n id k r e in
    rw (header_is_fields (header_in r) id (expected_reply n k).len p.header) p.whole

compared : (differing 1 1 0 [] ≡ Some difference.Header)
    × (differing 1 1 0 (0x51 ∷ 0x06 ∷ 2 ∷ 1 ∷ []) ≡ Some difference.Header)
    × (differing 1 1 0 (0x31 ∷ 0x06 ∷ 2 ∷ 1 ∷ []) ≡ Some difference.Length)
    × (differing 1 1 0 (0x31 ∷ 0x06 ∷ 2 ∷ 1 ∷ 0 ∷ []) ≡ Some difference.Code)
    × (differing 1 1 0 (0x31 ∷ 0x04 ∷ 2 ∷ 1 ∷ 0 ∷ []) ≡ Some difference.Status)
    × (differing 1 1 0 (0x31 ∷ 0x04 ∷ 0 ∷ 1 ∷ 0 ∷ []) ≡ Some difference.Filler)
    × (differing 1 1 0 (0x31 ∷ 0x04 ∷ 0 ∷ 0 ∷ 0 ∷ []) ≡ None)
    × (differing 1 1 0 (0x35 ∷ 0x04 ∷ 1 ∷ 0 ∷ 0 ∷ []) ≡ None)
    × (differing 1 1 0 (0x35 ∷ 0x04 ∷ 0 ∷ 0 ∷ 0 ∷ []) ≡ Some difference.Status)
    × (differing 1 1 0 (0x31 ∷ 0x04 ∷ 1 ∷ 0 ∷ 0 ∷ []) ≡ Some difference.Status)
unfolding differing refusal difference_in fields_at
compared = (refl, refl, refl, refl, refl, refl, refl, refl, refl, refl)

disagrees : (n id k : ℕ) (r : List ℕ) → refusal n id k ≡ 0 → (bit 2 (header_in r) ≡ status_in r → ⊥) → taking n id k r ≡ refused_with 43
unfolding taking
disagrees n id k r z d = rw z (go (eqb (difference_number (difference_in (expected_reply n k) id r)) 0) refl)
  where
    go : (t : Bool) → eqb (difference_number (difference_in (expected_reply n k) id r)) 0 ≡ t
        → cond t (taking_as 0 (status_in r) (digest_in (expected_reply n k) r)) (refused_with 43) ≡ refused_with 43
    go true e =
        let p = passes (expected_reply n k) id r (same_difference _ None (eqb-true _ _ e)) in
        absurd (d (sym (status_is_bit (header_in r) (status_in r) p.status)))
    go false e = refl

-- ---- the replies of `protocol`

-- the header of a reply to a command has the command's ID
reply_header_is : (id n : ℕ) (s : Status) → id ≤ 3 → reply_header (command_header id) n s ≡ written (header_byte id firmware n (status_number s))
unfolding reply_header
reply_header_is id n s h = ap (λ (i : ℕ). written (header_byte i firmware n (status_number s))) (fields_of_is (command_header id) id firmware 128 (command_header_is id h)).0

to_load : (n id : ℕ) (g : Bool) → refusal n id 0 ≡ 0
    → taking n id 0 (sent (load_reply (command_header id) g)) ≡ taking_as 0 (cond g 0 1) (replicate 32 0)
unfolding load_reply
to_load n id g z =
    let s = cond g Good Bad in
    let h = reply_header_is id 4 s (given n id 0 z).id_small in
    gives n id 0 (sent (load_reply (command_header id) g)) z
    (record { status = s; digest = []; digest_length = refl; bytes = ap (λ (x : ℕ). x ∷ 0x04 ∷ status_number s ∷ 0 ∷ 0 ∷ []) h })
    ∙ ap (λ (x : ℕ). taking_as 0 x (replicate 32 0)) (number_of_is g)
  where
    number_of_is : (g : Bool) → status_number (cond g Good Bad) ≡ cond g 0 1
    number_of_is true = refl
    number_of_is false = refl

-- the reply that is expected to a block
to_block_is : (n k : ℕ) → 1 ≤ k → (t : Bool) → is_last n (k - 1) ≡ t
    → expected_reply n k ≡ cond t (record { code = 0x07; len = 128; digest = 32 }) (record { code = 0x06; len = 4; digest = 0 })
to_block_is n k l t e = rw (ne_eqb k 0 (λ z. omega arith), e)

to_block : (n id k : ℕ) → refusal n id k ≡ 0 → 1 ≤ k → is_last n (k - 1) ≡ false
    → taking n id k (sent (block_reply (command_header id))) ≡ taking_as 0 0 (replicate 32 0)
unfolding block_reply
to_block n id k z l e =
    let h = reply_header_is id 4 Good (given n id k z).id_small in
    gives_as n id k (sent (block_reply (command_header id))) _ (to_block_is n k l false e) z
    (record { status = Good; digest = []; digest_length = refl; bytes = ap (λ (x : ℕ). x ∷ 0x06 ∷ 0 ∷ 0 ∷ 0 ∷ []) h })

-- two bytes and the rest filled up are all of it filled up
two_more : (x y : ℕ) (l : List ℕ) → x ∷ y ∷ padded 126 l ≡ padded 128 (x ∷ y ∷ l)
two_more x y l = let e : 126 - length l ≡ 128 - suc (suc (length l)) = omega arith in ap (λ (i : ℕ). x ∷ y ∷ l ++ replicate i 0) e

to_last : (n id k : ℕ) (digest : List ℕ) → refusal n id k ≡ 0 → 1 ≤ k → is_last n (k - 1) ≡ true → length digest ≡ 32
    → taking n id k (sent (digest_reply (command_header id) digest)) ≡ taking_as 0 0 digest
unfolding digest_reply
to_last n id k digest z l e s =
    gives_as n id k (sent (digest_reply (command_header id) digest)) _ (to_block_is n k l true e) z
    (record { status = Good; digest = digest; digest_length = s; bytes = as_sent })
    ∙ ap (λ (d : List ℕ). taking_as 0 0 d) whole
  where
    as_sent : sent (digest_reply (command_header id) digest) ≡ written (header_byte id firmware 128 0) ∷ padded 128 (0x07 ∷ 0 ∷ digest)
    as_sent =
        let f = filled_length 126 digest (omega arith) in
        ap (λ (h : ℕ). h ∷ take 128 (0x07 ∷ 0 ∷ padded 126 digest)) (reply_header_is id 128 Good (given n id k z).id_small)
        ∙ ap (λ (y : List ℕ). written (header_byte id firmware 128 0) ∷ y) (take_all 128 (0x07 ∷ 0 ∷ padded 126 digest) (omega arith) ∙ two_more 0x07 0 digest)

    whole : padded 32 digest ≡ digest
    whole = rw s (append-nil digest)

pub client : Client
client =
    record {
      answers = λ x y e. sym (back x) ∙ ap answer_of e ∙ back y;
      accepts = λ n id k.
          (λ z. let g = given n id k z in (g.some, g.small, g.id_small, g.frame), λ g. not_refused n id k (record { some = g.0; small = g.1; id_small = g.2; frame = g.3 }));
      frame = λ program id s k l. ap suc (body_length program s k l);
      header = command_header_is;
      example = example;
      differences = same_difference;
      differs = differs;
      compared = compared;
      takes = λ n id k r l. (takes n id k r l, λ e. ap (λ (t : Taking). t.number) (gives n id k r e.0 e.1));
      gives = gives;
      disagrees = disagrees;
      to_load = to_load;
      to_block = to_block;
      to_last = to_last;
    }
