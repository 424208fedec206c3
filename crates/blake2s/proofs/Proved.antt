-- The theorems of specs/Theorems.antt.
use mathlib.Core.Path.{◌≡◌, refl, ap, sym, ◌∙◌}
use mathlib.Core.Bool.{true, cond}
use mathlib.Core.List.{List, [], ◌++◌}
use Prim.Native.Nat.{ℕ, ◌+◌}
use native.Mathlib.Omega.{arith}
use lib.Dec.{eqb}
use lib.ListN.{length, length-append}
use borrow.Author.Tests.{ne_eqb}
use Rattle.std.specs.Prelude.{Result, Ok, Err, ⊤}
use Rattle.blake2s.specs.Hash.{number_of, hash_number, hash_output}
use Rattle.blake2s.specs.Stream.{begun, extended, in_range, begin_number, begin_context, update_number, update_context, finish_number, finish_output, refused_context}
use Rattle.blake2s.specs.Theorems.{Streamed, Streaming, run, numbers, accepted_parts}
use Rattle.blake2s.specs.declared.Context.{Context}
use Rattle.blake2s.specs.declared.Refusal.{Refusal}
use Rattle.blake2s.specs.declared.Refusal.TheVariants.{ContextRange, OutputLength, KeyLength, MessageLength}
use Rattle.blake2s.proofs.Numbers.{hash_accepted, Lengths, accepted_lengths, update_zero, update_accepted, finish_accepted, finish_not_one}
use Rattle.blake2s.proofs.Streams.{in_parts, stream_size, streamed}
use Rattle.blake2s.proofs.Sessions.{begun_nil, at_range, runs}

-- the answer of a number
answer : ℕ → Result ⊤ Refusal
answer n = cond (eqb n 0) (Ok tt) (cond (eqb n 1) (Err ContextRange) (cond (eqb n 8) (Err OutputLength) (cond (eqb n 9) (Err KeyLength) (Err MessageLength))))

answer_of : (x : Result ⊤ Refusal) → answer (number_of x) ≡ x
unfolding answer
answer_of (Ok tt) = refl
answer_of (Err ContextRange) = refl
answer_of (Err OutputLength) = refl
answer_of (Err KeyLength) = refl
answer_of (Err MessageLength) = refl

same_number : (x y : Result ⊤ Refusal) → number_of x ≡ number_of y → x ≡ y
same_number x y e = sym (answer_of x) ∙ ap answer e ∙ answer_of y

accepted_begin : (key : List ℕ) (nn : ℕ) → begin_number (length key) nn ≡ 0 → Lengths (length key) 0 nn
unfolding begin_number
accepted_begin key nn e = accepted_lengths (length key) 0 nn e

module _ (key : List ℕ) (nn : ℕ) (accepted : begin_number (length key) nn ≡ 0) where
  begin_is : begin_context key nn ≡ extended (begun key nn) []
  unfolding begin_context
  begin_is = rw accepted (sym (begun_nil key nn (accepted_begin key nn accepted).fits))

  all_streamed : (parts : List (List ℕ)) → Streamed key nn (run (begin_context key nn) parts) (numbers (begin_context key nn) parts) (accepted_parts (begin_context key nn) parts)
  unfolding finish_output hash_output
  all_streamed parts =
      let b = accepted_begin key nn accepted in
      let x = accepted_parts (extended (begun key nn) []) parts in
      let c = extended (begun key nn) x in
      let r = runs key nn b.fits b.some b.small parts [] (omega arith) in
      let g : in_range c ≡ true = at_range key nn b.fits b.some b.small x in
      let f : finish_number c nn ≡ 0 = finish_accepted c nn g (sym (stream_size key x nn b.fits)) in
      let k : hash_number (length key) (length x) nn ≡ 0 = hash_accepted (length key) (length x) nn b.some b.small b.fits r.short in
      rw (begin_is, r.last)
      record {
        range = g;
        updates = r.quiet;
        finishes = λ n. finish_not_one c n g;
        accepted = (f, k);
        same = λ out e. rw (e, f, k) (streamed key x nn b.fits);
      }

module _ (c : Context) (s : List ℕ) where
  extended_range : in_range (extended c s) ≡ in_range c
  unfolding in_range extended
  extended_range = refl

  extended_message : (extended c s).message ≡ c.message + length s
  unfolding extended
  extended_message = refl

  update_is : update_number c (length s) ≡ 0 → update_context c s ≡ extended c s
  unfolding update_context
  update_is e = rw e

module _ (c : Context) (s e : List ℕ) where
  both_to_one : (update_number c (length s) ≡ 0) × (update_number (update_context c s) (length e) ≡ 0) → update_number c (length (s ++ e)) ≡ 0
  both_to_one p =
      let u = update_zero c (length s) p.0 in
      let v = update_zero (extended c s) (length e) (rw (update_is c s p.0) at p.1) in
      let m = extended_message c s in
      let l = length-append s e in
      update_accepted c (length (s ++ e)) u.0 (omega arith)

  first_accepted : update_number c (length (s ++ e)) ≡ 0 → update_number c (length s) ≡ 0
  first_accepted p =
      let u = update_zero c (length (s ++ e)) p in
      let l = length-append s e in
      update_accepted c (length s) u.0 (omega arith)

  second_accepted : update_number c (length (s ++ e)) ≡ 0 → update_number (extended c s) (length e) ≡ 0
  second_accepted p =
      let u = update_zero c (length (s ++ e)) p in
      let l = length-append s e in
      let m = extended_message c s in
      update_accepted (extended c s) (length e) (extended_range c s ∙ u.0) (omega arith)

  one_to_both : update_number c (length (s ++ e)) ≡ 0 → (update_number c (length s) ≡ 0) × (update_number (update_context c s) (length e) ≡ 0)
  one_to_both p = (first_accepted p, rw (update_is c s (first_accepted p)) (second_accepted p))

  compose : length c.block ≡ 64 → update_number c (length (s ++ e)) ≡ 0 → update_context (update_context c s) e ≡ update_context c (s ++ e)
  compose l p =
      rw (update_is c s (first_accepted p), update_is (extended c s) e (second_accepted p), update_is c (s ++ e) p) (in_parts c l s e)

refused_is : (key : List ℕ) (nn : ℕ) → (begin_number (length key) nn ≡ 0 → ⊥) → begin_context key nn ≡ refused_context
unfolding begin_context
refused_is key nn h = rw (ne_eqb (begin_number (length key) nn) 0 h)

pub streaming : Streaming
unfolding update_number update_context finish_number in_range refused_context
streaming = record {
  answers = same_number;
  streamed = λ key nn parts a. all_streamed key nn a parts;
  both = λ c s e. (both_to_one c s e, one_to_both c s e);
  composed = compose;
  refused = λ key nn h s n. rw (refused_is key nn h) (refl, refl, refl);
}
