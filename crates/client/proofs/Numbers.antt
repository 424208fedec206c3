-- Numbers: no refusal has 0, and what a call that is accepted was given.
use Prim.Native.Nat.{ℕ, ◌≤◌}
use mathlib.Core.Path.{◌≡◌, refl}
use mathlib.Core.Bool.{Bool, true, false, not, cond, ◌&&◌}
use native.Mathlib.Omega.{arith}
use lib.Dec.{eqb, leb, ltb}
use borrow.Author.Tests.{leb-true, ltb-false}
use Rattle.protocol.specs.Commands.{blocks_for}
use Rattle.client.specs.Answers.{refusal_number}
use Rattle.client.specs.Frames.{refusal}
use Rattle.client.specs.declared.Refusal.{Refusal}
use Rattle.client.specs.declared.Refusal.TheVariants.{FrameRoom, ProgramLength, FrameId, FrameNumber, UnexpectedReply}

pub refused_number : (why : Refusal) → eqb (refusal_number why) 0 ≡ false
refused_number FrameRoom = refl
refused_number ProgramLength = refl
refused_number FrameId = refl
refused_number FrameNumber = refl
refused_number UnexpectedReply = refl

-- the program, the frame ID and the frame number of a call that is not refused
pub record Given (n id k : ℕ) : Type 0 where
  pub some : 1 ≤ n
  pub small : n ≤ 131072
  pub id_small : id ≤ 3
  pub frame : k ≤ blocks_for n

pub given : (n id k : ℕ) → refusal n id k ≡ 0 → Given n id k
unfolding refusal
given n id k = go (leb 1 n) (leb n 131072) (ltb 3 id) (ltb (blocks_for n) k) refl refl refl refl
  where
    go : (a b c d : Bool) → leb 1 n ≡ a → leb n 131072 ≡ b → ltb 3 id ≡ c → ltb (blocks_for n) k ≡ d
        → ◌≡◌ {A = ℕ} (cond (not (a && b)) 40 (cond c 41 (cond d 42 0))) 0 → Given n id k
    go false b c d ea eb ec ed e = absurd (omega arith)
    go true false c d ea eb ec ed e = absurd (omega arith)
    go true true true d ea eb ec ed e = absurd (omega arith)
    go true true false true ea eb ec ed e = absurd (omega arith)
    go true true false false ea eb ec ed e =
        record { some = leb-true 1 n ea; small = leb-true n 131072 eb; id_small = ltb-false 3 id ec; frame = ltb-false (blocks_for n) k ed }
