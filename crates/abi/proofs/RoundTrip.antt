-- A state's memory holds that state, and memory that holds a state is that state's memory.
use Prim.Native.Nat.{ℕ, zero, suc, ◌+◌, ◌*◌, ◌/◌, ◌%◌, ◌≤◌}
use mathlib.Core.Path.{◌≡◌, refl, sym, ap, ◌∙◌}
use mathlib.Core.List.{List, [], ◌∷◌, ◌++◌, append_assoc}
use mathlib.Core.Bool.{Bool, true, false, and-eq-true_iff}
use native.Mathlib.Omega.{arith}
use lib.Dec.{eqb, leb}
use lib.ListN.{length, get_or, take, drop, length-append, length-drop}
use lib.Seq.{get_or-append-add, drop-append-add, drop_at, drop-drop, take_at, take_all, take-add, drop-cons, length-take-le}
use borrow.Author.Tests.{leb-true, le-leb}
use Rattle.head.specs.declared.Phase.{Phase}
use Rattle.head.specs.declared.Phase.TheVariants.{Waiting, Loading, Started, Stopped}
use Rattle.head.specs.declared.State.{State}
use Rattle.abi.specs.Layout.{Memory, lent, phase_number, phase_of, as_bit, flags_of, flag_in, holds, state_in, memory_of}
use Rattle.abi.specs.Theorems.{Sized, Lengths}

-- ---- phases and flags

phase_back : (p : Phase) → (phase_of (phase_number p) ≡ p) × (phase_number p ≤ 3)
phase_back Waiting = (refl, omega arith)
phase_back Loading = (refl, omega arith)
phase_back Started = (refl, omega arith)
phase_back Stopped = (refl, omega arith)

phase_forth : (k : ℕ) → k ≤ 3 → phase_number (phase_of k) ≡ k
phase_forth zero h = refl
phase_forth (suc zero) h = refl
phase_forth (suc (suc zero)) h = refl
phase_forth (suc (suc (suc zero))) h = refl
phase_forth (suc (suc (suc (suc k)))) h = absurd (omega arith)

-- each flag is a bit
at_most_1 : (t : Bool) → as_bit t ≤ 1
at_most_1 true = omega arith
at_most_1 false = omega arith

from_bit : (t : Bool) (k : ℕ) → k ≡ as_bit t → eqb k 1 ≡ t
from_bit true k e = rw e
from_bit false k e = rw e

to_bit : (k : ℕ) → k ≤ 1 → as_bit (eqb k 1) ≡ k
to_bit zero h = refl
to_bit (suc zero) h = refl
to_bit (suc (suc k)) h = absurd (omega arith)

-- the flag of weight 1
pub low : (k : ℕ) → k / 1 ≡ k
low k = omega arith

record Flags (v c u s : Bool) (k : ℕ) : Type 0 where
  verify : flag_in 1 k ≡ v
  chained : flag_in 2 k ≡ c
  used : flag_in 4 k ≡ u
  second : flag_in 8 k ≡ s
  small : k ≤ 15

flags_back : (v c u s : Bool) → Flags v c u s (as_bit v + 2 * as_bit c + 4 * as_bit u + 8 * as_bit s)
flags_back v c u s =
    let k = as_bit v + 2 * as_bit c + 4 * as_bit u + 8 * as_bit s in
    let lv = at_most_1 v in
    let lc = at_most_1 c in
    let lu = at_most_1 u in
    let ls = at_most_1 s in
    let q1 = low k in
    let q2 : k / 2 ≡ as_bit c + 2 * as_bit u + 4 * as_bit s = omega arith in
    let q4 : k / 4 ≡ as_bit u + 2 * as_bit s = omega arith in
    let q8 : k / 8 ≡ as_bit s = omega arith in
    record {
      verify = from_bit v (k / 1 % 2) (omega arith);
      chained = from_bit c (k / 2 % 2) (omega arith);
      used = from_bit u (k / 4 % 2) (omega arith);
      second = from_bit s (k / 8 % 2) (omega arith);
      small = omega arith;
    }

flags_forth : (k : ℕ) → k ≤ 15 → as_bit (flag_in 1 k) + 2 * as_bit (flag_in 2 k) + 4 * as_bit (flag_in 4 k) + 8 * as_bit (flag_in 8 k) ≡ k
flags_forth k h =
    let q1 = low k in
    let q2 : k / 2 ≡ 2 * (k / 4) + k / 2 % 2 = omega arith in
    let q4 : k / 4 ≡ 2 * (k / 8) + k / 4 % 2 = omega arith in
    let q8 : k / 8 % 2 ≡ k / 8 = omega arith in
    rw (to_bit (k / 1 % 2) (omega arith), to_bit (k / 2 % 2) (omega arith), to_bit (k / 4 % 2) (omega arith), to_bit (k / 8 % 2) (omega arith)) (omega arith)

pub holds_facts : (b : List ℕ) → holds b ≡ true → (get_or b 130 0 ≤ 3) × (get_or b 131 0 ≤ 15)
holds_facts b e =
    let a = (and-eq-true_iff (leb (get_or b 130 0) 3) _).0 e in
    (leb-true (get_or b 130 0) 3 a.0, leb-true (get_or b 131 0) 15 a.1)

-- ---- from the state

past : (xs ys : List ℕ) (k : ℕ) → length xs ≡ k → (i : ℕ) → get_or (xs ++ ys) (k + i) 0 ≡ get_or ys i 0
past xs ys k e i = rw (← e) (get_or-append-add xs ys i 0)

past_drop : (xs ys : List ℕ) (k : ℕ) → length xs ≡ k → (i : ℕ) → drop (k + i) (xs ++ ys) ≡ drop i ys
past_drop xs ys k e i = rw (← e) (drop-append-add xs ys i)

module _ (s : State) (z : Sized s) where
  abbrev tail4 : List ℕ
  tail4 = s.progress.uss ++ s.config.digests.second

  abbrev tail3 : List ℕ
  tail3 = s.config.udi ++ tail4

  abbrev tail2 : List ℕ
  tail2 = s.config.measured_id ++ tail3

  abbrev tail1 : List ℕ
  tail1 = s.config.digests.first ++ tail2

  abbrev small : List ℕ
  small = s.incoming.header ∷ s.incoming.got ∷ phase_number s.progress.phase ∷ flags_of s ∷ tail1

  abbrev all : List ℕ
  all = s.incoming.body ++ small

  in_parts : (memory_of s).bytes ≡ all
  unfolding memory_of
  in_parts = simp append_assoc

  one : (i : ℕ) → get_or all (128 + i) 0 ≡ get_or small i 0
  one = past s.incoming.body small 128 z.body

  -- from the end of each part on
  past_part : (from n : ℕ) (x y : List ℕ) → drop from all ≡ x ++ y → length x ≡ n → drop (from + n) all ≡ y
  past_part from n x y e l = sym (drop-drop n from all) ∙ ap (drop n) e ∙ drop_at x y n l

  at_first : drop 132 all ≡ tail1
  at_first = past_drop s.incoming.body small 128 z.body 4

  at_measured : drop 164 all ≡ tail2
  at_measured = past_part 132 32 s.config.digests.first tail2 at_first z.first

  at_udi : drop 196 all ≡ tail3
  at_udi = past_part 164 32 s.config.measured_id tail3 at_measured z.measured

  at_uss : drop 204 all ≡ tail4
  at_uss = past_part 196 8 s.config.udi tail4 at_udi z.udi

  at_second : drop 236 all ≡ s.config.digests.second
  at_second = past_part 204 32 s.progress.uss s.config.digests.second at_uss z.uss

  first_back : take 32 (drop 132 all) ≡ s.config.digests.first
  first_back = ap (take 32) at_first ∙ take_at s.config.digests.first tail2 32 z.first

  measured_back : take 32 (drop 164 all) ≡ s.config.measured_id
  measured_back = ap (take 32) at_measured ∙ take_at s.config.measured_id tail3 32 z.measured

  udi_back : take 8 (drop 196 all) ≡ s.config.udi
  udi_back = ap (take 8) at_udi ∙ take_at s.config.udi tail4 8 z.udi

  uss_back : take 32 (drop 204 all) ≡ s.progress.uss
  uss_back = ap (take 32) at_uss ∙ take_at s.progress.uss s.config.digests.second 32 z.uss

  second_back : take 32 (drop 236 all) ≡ s.config.digests.second
  second_back = ap (take 32) at_second ∙ take_all 32 s.config.digests.second (let u = z.second in omega arith)

  flags : Flags s.config.verify s.config.chained s.progress.uss_used s.config.digests.has_second (flags_of s)
  flags = flags_back s.config.verify s.config.chained s.progress.uss_used s.config.digests.has_second

  held : holds all ≡ true
  held =
      rw (one 2, one 3, le-leb _ _ (phase_back s.progress.phase).1, le-leb _ _ flags.small)

  at_all : state_in (lent (memory_of s).numbers all) ≡ s
  unfolding state_in memory_of
  at_all =
      let b : take 128 all ≡ s.incoming.body = take_at s.incoming.body small 128 z.body in
      rw (one 0, one 1, one 2, one 3, b, first_back, measured_back, udi_back, uss_back, second_back, flags.verify, flags.chained, flags.used, flags.second, (phase_back s.progress.phase).0)

  pub back : (holds (memory_of s).bytes ≡ true) × (state_in (memory_of s) ≡ s)
  back = (rw in_parts held, ap (λ (b : List ℕ). state_in (lent (memory_of s).numbers b)) in_parts ∙ at_all)

  pub lengths : Lengths (memory_of s)
  unfolding memory_of
  lengths =
      let b = z.body in
      let r = z.first in
      let m = z.measured in
      let u = z.udi in
      let w = z.uss in
      let v = z.second in
      let l = length-append s.incoming.body small in
      let l1 = length-append s.config.digests.first tail2 in
      let l2 = length-append s.config.measured_id tail3 in
      let l3 = length-append s.config.udi tail4 in
      let l4 = length-append s.progress.uss s.config.digests.second in
      let e : length (memory_of s).bytes ≡ 268 = ap length in_parts ∙ omega arith in
      record { numbers = refl; bytes = e }

-- ---- from the memory

module _ (m : Memory) (l : Lengths m) where
  abbrev b : List ℕ
  b = m.bytes

  long : (i k : ℕ) → i + k ≤ 268 → length (take k (drop i b)) ≡ k
  long i k h = let n = l.bytes in length-take-le k (drop i b) (rw length-drop (omega arith))

  pub sized : Sized (state_in m)
  unfolding state_in
  sized =
      record {
        body = length-take-le 128 b (let n = l.bytes in omega arith);
        first = long 132 32 (omega arith);
        measured = long 164 32 (omega arith);
        udi = long 196 8 (omega arith);
        uss = long 204 32 (omega arith);
        second = long 236 32 (omega arith);
      }

  four : take 4 (drop 128 b) ≡ get_or b 128 0 ∷ get_or b 129 0 ∷ get_or b 130 0 ∷ get_or b 131 0 ∷ []
  four =
      let n = l.bytes in
      rw (drop-cons b 128 0 (omega arith), drop-cons b 129 0 (omega arith), drop-cons b 130 0 (omega arith), drop-cons b 131 0 (omega arith))

  three : (n : List ℕ) → length n ≡ 3 → get_or n 0 0 ∷ get_or n 1 0 ∷ get_or n 2 0 ∷ [] ≡ n
  three [] e = absurd (omega arith)
  three (x ∷ []) e = absurd (omega arith)
  three (x ∷ y ∷ []) e = absurd (omega arith)
  three (x ∷ y ∷ z ∷ []) e = refl
  three (x ∷ y ∷ z ∷ w ∷ n) e = absurd (omega arith)

  joined : take 128 b ++ (get_or b 128 0 ∷ get_or b 129 0 ∷ get_or b 130 0 ∷ get_or b 131 0 ∷ []) ++ take 32 (drop 132 b) ++ take 32 (drop 164 b) ++ take 8 (drop 196 b)
      ++ take 32 (drop 204 b) ++ take 32 (drop 236 b) ≡ b
  joined =
      let n = l.bytes in
      rw (← four, ← (take-add 128 4 b), ← (take-add 132 32 b), ← (take-add 164 32 b), ← (take-add 196 8 b), ← (take-add 204 32 b), ← (take-add 236 32 b)) (take_all 268 b (omega arith))

  pub forth : holds b ≡ true → memory_of (state_in m) ≡ m
  unfolding state_in memory_of
  forth e =
      let h = holds_facts b e in
      made (three m.numbers l.numbers) (rw (phase_forth (get_or b 130 0) h.0, flags_forth (get_or b 131 0) h.1) joined)
    where
      made : {n b' : List ℕ} → n ≡ m.numbers → b' ≡ m.bytes → lent n b' ≡ m
      made p q = rw (p, q)
