-- The theorem of specs/Theorems.antt: literal cases compute, fields after a list of known length are the parts there, and the numbers of
-- blocks are arithmetic.
use native.Mathlib.Numerals.{add-one}
use Prim.Native.Nat.{ℕ, zero, suc, ◌+◌, ◌/◌, ◌%◌, ◌≤◌, ◌<◌}
use mathlib.Core.Path.{◌≡◌, refl, sym, ap, ◌∙◌}
use mathlib.Core.Logic.{◌⊎◌, inl, inr}
use mathlib.Core.Bool.{true, false, cond, ◌&&◌, and-eq-true_iff}
use mathlib.Core.List.{List, [], ◌∷◌, ◌++◌}
use native.Mathlib.Omega.{arith}
use lib.Dec.{leb}
use lib.ListN.{length, take, length-take, length-append, length-replicate}
use lib.Seq.{take_at}
use borrow.Author.Tests.{eq-eqb, eqb-true, eqb-false, le-leb, leb-true}
use Rattle.framing.specs.Header.{fields, fields_at, header_byte, code_of, frame_id, in_field}
use Rattle.framing.specs.Answers.{status_number}
use Rattle.framing.specs.Theorems.{bit}
use Rattle.framing.specs.declared.Status.{Status}
use Rattle.framing.specs.declared.Status.TheVariants.{Good, Bad}
use Rattle.framing.proofs.Headers.{headers}
use Rattle.framing.proofs.Headers as framing
use Rattle.endian.specs.Endian.{word}
use Rattle.protocol.specs.Commands.{firmware, load_in, good_load, blocks_for, place_of, count_in, is_last}
use Rattle.protocol.specs.Replies.{written, reply_header, reply_with, sent, name_reply, udi_reply, load_reply, block_reply, digest_reply}
use Rattle.endian.specs.Lists.{padded}
use Rattle.protocol.specs.Theorems.{Protocol, IsGood, Framed, StatusTold, IsReply, is_name, is_udi, is_load, is_block, is_digest, load_with}
use Rattle.protocol.specs.declared.Load.{Load}
use Rattle.protocol.specs.declared.Reply.{Reply}

fields_in : (h command flag : ℕ) (size uss rest : List ℕ) → length size ≡ 4 → length uss ≡ 32
    → load_in (h ∷ command ∷ size ++ flag ∷ uss ++ rest) ≡ load_with (word size 0) flag uss
unfolding load_in word
fields_in h command flag (a ∷ b ∷ c ∷ d ∷ []) uss rest e l = rw (take_at uss rest 32 l)
fields_in h command flag [] uss rest e l = absurd (omega arith)
fields_in h command flag (a ∷ []) uss rest e l = absurd (omega arith)
fields_in h command flag (a ∷ b ∷ []) uss rest e l = absurd (omega arith)
fields_in h command flag (a ∷ b ∷ c ∷ []) uss rest e l = absurd (omega arith)
fields_in h command flag (a ∷ b ∷ c ∷ d ∷ x ∷ xs) uss rest e l = absurd (omega arith)

zero_or_one : (k : ℕ) → k ≤ 1 → (k ≡ 0) ⊎ (k ≡ 1)
zero_or_one zero h = inl refl
zero_or_one (suc k) h = inr (omega arith)

at_most_one : (k : ℕ) → (k ≡ 0) ⊎ (k ≡ 1) → k ≤ 1
at_most_one k (inl e) = omega arith
at_most_one k (inr e) = omega arith

is_good_when : (m : ℕ) (l : Load) → good_load m l ≡ true → IsGood m l
is_good_when m l e =
    let a = (and-eq-true_iff (leb 1 l.size && leb l.size m) (leb l.flag 1)).0 e in
    let b = (and-eq-true_iff (leb 1 l.size) (leb l.size m)).0 a.0 in
    record {
      some = leb-true 1 l.size b.0;
      fits = leb-true l.size m b.1;
      flag = zero_or_one l.flag (leb-true l.flag 1 a.1);
    }

good_is : (m : ℕ) (l : Load) → IsGood m l → good_load m l ≡ true
good_is m l g = simp (le-leb 1 l.size g.some, le-leb l.size m g.fits, le-leb l.flag 1 (at_most_one l.flag g.flag))

full_block : (n k : ℕ) → k < blocks_for n → is_last n k ≡ false → count_in n k ≡ 127
full_block n k h e =
    let d : (n + 126) / 127 ≡ k + 1 → ⊥ = eqb-false (blocks_for n) (k + 1) e in
    let g : k + 1 < (n + 126) / 127 = omega (arith, d) in
    omega arith

last_block : (n k : ℕ) → 1 ≤ n → is_last n k ≡ true → place_of k + count_in n k ≡ n
last_block n k h e =
    let d : (n + 126) / 127 ≡ k + 1 = eqb-true (blocks_for n) (k + 1) e in
    omega arith

-- a header for the firmware reads as it was written
pub header_of : (id n : ℕ) (s : Status) → id ≤ 3 → code_of n < 4
    → fields_at (written (header_byte id firmware n (status_number s))) ≡ fields id firmware n (status_number s)
header_of id n s h c =
    let w = framing.written id 2 n (status_number s) (omega arith) (omega arith) c (framing.status_small s) in
    rw w ((headers.exact _ id 2 n (status_number s)).1 w).1

reply_header_is : (h n : ℕ) (s : Status) → code_of n < 4 → fields_at (reply_header h n s) ≡ fields (in_field frame_id h) 2 n (status_number s)
unfolding reply_header
reply_header_is h n s c = header_of (h / 32 % 4) n s (omega arith) c

of_length : (h n : ℕ) (s : Status) → (n ≡ 4) ⊎ ((n ≡ 32) ⊎ (n ≡ 128)) → fields_at (reply_header h n s) ≡ fields (in_field frame_id h) 2 n (status_number s)
of_length h n s (inl e) = reply_header_is h n s (rw e (omega arith))
of_length h n s (inr (inl e)) = reply_header_is h n s (rw e (omega arith))
of_length h n s (inr (inr e)) = reply_header_is h n s (rw e (omega arith))

framed : (h n code : ℕ) (s : Status) (given : List ℕ) → n ≤ 128 → Framed (reply_with h n code s (padded 126 given))
framed h n code s given l =
    let e : length (take n (code ∷ status_number s ∷ padded 126 given)) ≡ n = rw (length-take, length-append, length-replicate) (omega arith) in
    (l, ap suc e ∙ sym (add-one n))

reply_lengths : (r : Reply) → IsReply r → Framed r
unfolding name_reply udi_reply load_reply block_reply digest_reply
reply_lengths _ (is_name h) = (omega arith, refl)
reply_lengths _ (is_udi h u) = framed h 32 0x09 Good u (omega arith)
reply_lengths _ (is_load h g) = (omega arith, refl)
reply_lengths _ (is_block h) = (omega arith, refl)
reply_lengths _ (is_digest h d) = framed h 128 0x07 Good d (omega arith)

-- bit 2 of the header that is written for a status
pub bit_is : (h n : ℕ) (s : Status) → code_of n < 4 → bit 2 (reply_header h n s) ≡ status_number s
bit_is h n s c = sym (headers.status _ _ _ _ _ (reply_header_is h n s c))

-- a reply with a status tells it
module _ (h n code : ℕ) (s : Status) (others : List ℕ) (c : code_of n < 4) (d : code ≡ 2 → ⊥) where
  with_status : StatusTold (reply_header h n s ∷ code ∷ status_number s ∷ others)
  with_status = let e = bit_is h n s c in (λ b. (d, sym e ∙ b), λ b. e ∙ b.1)

reply_told : (r : Reply) → IsReply r → StatusTold (sent r)
unfolding name_reply udi_reply load_reply block_reply digest_reply
reply_told _ (is_name h) = (λ e. absurd (let z = bit_is h 32 Good (omega arith) in omega arith), λ e. absurd (e.0 refl))
reply_told _ (is_udi h u) = with_status h 32 0x09 Good (take 30 (padded 126 u)) (omega arith) (λ e. omega arith)
reply_told _ (is_load h g) = with_status h 4 0x04 (cond g Good Bad) (0 ∷ 0 ∷ []) (omega arith) (λ e. omega arith)
reply_told _ (is_block h) = with_status h 4 0x06 Good (0 ∷ 0 ∷ []) (omega arith) (λ e. omega arith)
reply_told _ (is_digest h d) = with_status h 128 0x07 Good (take 126 (padded 126 d)) (omega arith) (λ e. omega arith)

pub protocol : Protocol
protocol = record {
  load = fields_in;
  used = λ l. (eqb-true l.flag 1, eq-eqb l.flag 1);
  good_load_exactly = λ m l. (is_good_when m l, good_is m l);
  full = full_block;
  last = last_block;
  header = of_length;
  lengths = reply_lengths;
  told = reply_told;
}
