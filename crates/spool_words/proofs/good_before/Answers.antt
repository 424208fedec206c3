-- The number of the answer that a turn looks at is what the block gives there.
use Prim.Native.Nat.{ℕ, zero, suc, ◌<◌}
use mathlib.Core.Path.{◌≡◌, refl, ap, sym, ◌∙◌}
use native.Mathlib.Omega.{arith}
use native.Mathlib.Nat.{le_of_suc-le-suc}
use borrow.Author.Count.{below_more}
use borrow.Author.Tests.{eq-eqb, ne_eqb, eqb-true, eqb-false}
use Rattle.endian.specs.Lists.{each}
use Rattle.spool.specs.Reading.{blocks_in, look_refusal}
use Rattle.spool_words.specs.Words.{zeros_before, good_before}
use Rattle.spool_words.proofs.good_before.Goals as goal

before_at : (n i : ℕ) (f : ℕ → ℕ) → i < n → ((j : ℕ) → j < i → f j ≡ 0) → (f i ≡ 0 → ⊥) → zeros_before (each n f) ≡ i
unfolding zeros_before
before_at zero i f h z e = absurd (omega arith)
before_at (suc n) zero f h z e = rw (ne_eqb (f 0) 0 e)
before_at (suc n) (suc i) f h z e =
    rw (eq-eqb (f 0) 0 (z 0 (omega arith)))
    (ap suc (before_at n i (λ j. f (suc j)) (le_of_suc-le-suc h) (λ j k. z (suc j) (omega arith)) e))

before_all : (n : ℕ) (f : ℕ → ℕ) → ((j : ℕ) → j < n → f j ≡ 0) → zeros_before (each n f) ≡ n
unfolding zeros_before
before_all zero f z = refl
before_all (suc n) f z =
    rw (eq-eqb (f 0) 0 (z 0 (omega arith))) (ap suc (before_all n (λ j. f (suc j)) (λ j h. z (suc j) (omega arith))))

pub returns-then-not-is_good : goal.returns-then-not-is_good
unfolding good_before
returns-then-not-is_good c =
    let s = c.args.bytes.now in
    let e = sym c.is_good.ensures ∙ c.if-not-is_good.true in
    sym (before_at (blocks_in s) c.loop-i.i (look_refusal s) (omega arith) c.loop-i.invariant (λ q. eqb-false _ _ e (c.look.ensures ∙ q)))

pub loop-i-preserved : goal.loop-i-preserved
loop-i-preserved c =
    let e = sym c.is_good.ensures ∙ c.if-not-is_good.false in
    below_more _ _ c.loop-i.invariant (sym c.look.ensures ∙ eqb-true _ _ e)

pub returns : goal.returns
unfolding good_before
returns c =
    let s = c.args.bytes.now in
    sym (before_all (blocks_in s) (look_refusal s) (λ j h. c.loop-i.invariant j (omega arith)))
