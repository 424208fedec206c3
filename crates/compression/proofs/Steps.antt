-- The steps of a compression: rotations, the rows of the code's tables hold places, and mixings, rounds and the next state are the RFC's.
use Rattle.std.proofs.Common.{◌≡◌, ℕ, ◌+◌, ◌-◌, ◌*◌, ◌/◌, ◌%◌, ◌^◌, ◌<◌, Bool, T, ltb, true, false, List, [], ◌∷◌, ◌++◌, length, get_or, set, drop, add-one, ltb→lt, eqb, eqb→eq, drop-cons, ◌∙◌, sym, subst, refl}
use native.Mathlib.Omega.{arith}
use lib.Bits.{bit_and, bit_xor, xor_disjoint, and_shifted}
use Rattle.std.specs.Int.{rotate_right, w32}
use Rattle.std.proofs.lemmas.Nat.{and_comm, or_disjoint, mod-pow-add, shl-shr}
use Rattle.std.proofs.Math.Nat.{add-zero, mod-eq_of_lt, mul-mod_left}
use Rattle.std.proofs.Math.Pow.{shr_lt}
use borrow.Rule.Slice.PartMut.{put_mid}
use Rattle.endian.specs.Lists.{each}
use Rattle.endian.proofs.Lists.{each_of}
use Rattle.rfc7693.specs.Rfc7693.{iv, sigma, rotr, work_vector, round, positions, mixing, rounds, F}
use Rattle.compression.specs.Steps.{Places, four_mixings}
use Rattle.rfc7693.proofs.Table.{all, all_at}
use Rattle.rfc7693.proofs.Orders.{over_table, order_length}

-- the two parts of a rotation have no bit in common
apart_bits : (x j k w : ℕ) → j + k ≡ w → k + j ≡ w → x < 2 ^ w → bit_and (x * 2 ^ k % 2 ^ w) (x / 2 ^ j) ≡ 0
apart_bits x j k w e f h = rw (sym e, mod-pow-add (x * 2 ^ k) j k, shl-shr x k, mul-mod_left x (2 ^ k), add-zero (x % 2 ^ j * 2 ^ k)) (and_shifted (x % 2 ^ j) k (x / 2 ^ j) (shr_lt k j (rw f h)))

-- so the library's is the RFC's
pub rotated : (x n : ℕ) → x < 2 ^ 32 → 0 < n → n < 32 → rotate_right w32 x n ≡ rotr x n
unfolding rotr
rotated x n h p q =
    let a : bit_and (x / 2 ^ n) (x * 2 ^ (32 - n) % 2 ^ 32) ≡ 0 =
    and_comm (x / 2 ^ n) (x * 2 ^ (32 - n) % 2 ^ 32) ∙ apart_bits x n (32 - n) 32 (omega arith) (omega arith) h in
    let k : n % 32 ≡ n = mod-eq_of_lt q in
    let l : (32 - n) % 32 ≡ 32 - n = omega arith in
    rw (k, l) (or_disjoint (x / 2 ^ n) (x * 2 ^ (32 - n) % 2 ^ 32) a ∙ sym (xor_disjoint (x / 2 ^ n) (x * 2 ^ (32 - n) % 2 ^ 32) a))

-- a list of numbers below sixteen, by one computed test
below_sixteen : List ℕ → Bool
below_sixteen = all (λ x. ltb x 16)

places : (n : ℕ) (s : List ℕ) → length s ≡ n → T (below_sixteen s) → Places n s
unfolding below_sixteen
places n s l t = record { below = λ i h. ltb→lt (get_or s i 0) 16 (all_at (λ x. ltb x 16) s 0 t i (rw l h)) }

-- four mixings, one after the other
pub mixed : (m s : List ℕ) (k : ℕ) (u : List ℕ) {v1 v2 v3 v4 : List ℕ} → v1 ≡ mixing m s u k → v2 ≡ mixing m s v1 (k + 1)
    → v3 ≡ mixing m s v2 (k + 2) → v4 ≡ mixing m s v3 (k + 3) → v4 ≡ four_mixings m s k u
unfolding four_mixings
mixed m s k u a b c d = rw (add-zero k, d, c, b, a)

-- the two steps of a round, one after the other
both_steps : (m s v : List ℕ) → four_mixings m s 4 (four_mixings m s 0 v) ≡ round m s v
unfolding four_mixings positions
both_steps = over_table

-- the rounds that are left, once both steps of round i are done
pub rounds_more : (m u : List ℕ) {v w : List ℕ} (i : ℕ) → i < 10
    → v ≡ four_mixings m (get_or sigma i []) 0 u → w ≡ four_mixings m (get_or sigma i []) 4 v
    → rounds m (drop (i + 1) sigma) w ≡ rounds m (drop i sigma) u
unfolding rounds sigma
rounds_more m u i h e f = rw (f, e, both_steps, add-one, drop-cons sigma i [] h)

-- the work vector as the code fills it: u and v, and then the counter and, in the last block, the flag put in
abbrev pub Filled : List ℕ → List ℕ → List ℕ → ℕ → Type 0
Filled u v h t =
    let w0 = put_mid 8 8 (u ++ 0 ∷ 0 ∷ 0 ∷ 0 ∷ 0 ∷ 0 ∷ 0 ∷ 0 ∷ []) v in
    let w1 = set w0 12 (bit_xor (get_or w0 12 0) (t % 2 ^ 32)) in
    let w2 = set w1 13 (bit_xor (get_or w1 13 0) (t / 2 ^ 32)) in
    (w2 ≡ work_vector h t false) × (set w2 14 (bit_xor (get_or w2 14 0) 4294967295) ≡ work_vector h t true)

pub filled : (h : List ℕ) (t : ℕ) {u v : List ℕ} → length h ≡ 8 → u ≡ h → v ≡ iv → Filled u v h t
unfolding work_vector iv
filled h t l e f = rw (e, f) (subst (λ (k : List ℕ). Filled k iv k t) (each_of 8 h l) (refl, refl))

-- the state that F gives, from the vector before and after the rounds
pub next_state : (h m : List ℕ) (t : ℕ) (f : Bool) {v w : List ℕ} → v ≡ work_vector h t f → w ≡ rounds m sigma v
    → each 8 (λ i. bit_xor (bit_xor (get_or h i 0) (get_or w i 0)) (get_or w (i + 8) 0)) ≡ F h m t f
unfolding F
next_state h m t f e g = rw (g, e)

-- the rows of both tables
module _ (k : ℕ) where
  pub row_places : k < 8 → Places 4 (get_or positions k [])
  unfolding positions below_sixteen
  row_places h = places 4 (get_or positions k []) (eqb→eq (length (get_or positions k [])) 4 (all_at (λ p. eqb (length p) 4) positions [] tt k h)) (all_at below_sixteen positions [] tt k h)

  pub order_places : k < 10 → Places 16 (get_or sigma k [])
  unfolding sigma below_sixteen
  order_places h = places 16 (get_or sigma k []) (order_length k h) (all_at below_sixteen sigma [] tt k h)
