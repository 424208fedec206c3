-- Each test is one part of the definition.
use Prim.Native.Nat.{ℕ}
use mathlib.Core.Path.{◌≡◌, refl}
use mathlib.Core.Bool.{Bool, true, false, cond}
use borrow.Author.Tests.{eq-eqb, ne_eqb}
use Rattle.framing.specs.Header.{good, stop, is_good, fields_at, header_at}
use Rattle.framing.proofs.is_good.Goals as goal

by_test : (t : Bool) (id ep n : ℕ) → t ≡ is_good (cond t (good id ep n) (stop 22))
by_test true id ep n = refl
by_test false id ep n = refl

pub returns-then-b-eq0 : goal.returns-then-b-eq0
unfolding header_at fields_at
returns-then-b-eq0 c = rw (eq-eqb _ _ c.if-b-eq0.true) (by_test _ _ _ _)

pub returns-else-b-eq0 : goal.returns-else-b-eq0
unfolding header_at fields_at
returns-else-b-eq0 c = rw (ne_eqb _ _ c.if-b-eq0.false)
