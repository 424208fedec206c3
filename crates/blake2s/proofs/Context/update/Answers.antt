-- Each return has the number that the tests on the way to it leave, and the context of that number.
use mathlib.Core.Path.{◌≡◌, sym, ◌∙◌}
use mathlib.Core.Bool.{true, false}
use native.Mathlib.Omega.{arith}
use lib.ListN.{length}
use Rattle.blake2s.specs.Stream.{in_range, update_context}
use Rattle.blake2s.proofs.Numbers.{update_range, update_message, update_accepted}
use Rattle.blake2s.proofs.Context.update.Goals as goal

pub returns-then-not-in_range : goal.returns-then-not-in_range
unfolding update_context
returns-then-not-in_range c =
    let a = c.args in
    let r : in_range a.self.now ≡ false = sym c.in_range.ensures ∙ c.if-not-in_range.true in
    let e = update_range a.self.now (length a.part.now) r in
    (rw e, rw e)

pub returns-then-left-part : goal.returns-then-left-part
unfolding update_context
returns-then-left-part c =
    let a = c.args in
    let r : in_range a.self.now ≡ true = sym c.in_range.ensures ∙ c.if-not-in_range.false in
    let e = update_message a.self.now (length a.part.now) r (omega arith) in
    (rw e, rw e)

pub returns : goal.returns
unfolding update_context
returns c =
    let a = c.args in
    let r : in_range a.self.now ≡ true = sym c.in_range.ensures ∙ c.if-not-in_range.false in
    let e = update_accepted a.self.now (length a.part.now) r (omega arith) in
    (rw e, rw (c.extended.ensures, e))
