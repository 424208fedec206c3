-- Each return has the number that the tests on the way to it leave, and the output of that number.
use mathlib.Core.Path.{◌≡◌, sym, ◌∙◌}
use mathlib.Core.Bool.{true, false}
use lib.ListN.{length}
use Rattle.blake2s.specs.Stream.{in_range, finish_output}
use Rattle.blake2s.proofs.Numbers.{range_size, finish_range, finish_size, finish_accepted}
use Rattle.blake2s.proofs.Context.finish.Goals as goal

pub returns-then-not-in_range : goal.returns-then-not-in_range
unfolding finish_output
returns-then-not-in_range c =
    let a = c.args in
    let r : in_range a.self.now ≡ false = sym c.in_range.ensures ∙ c.if-not-in_range.true in
    let e = finish_range a.self.now (length a.out.now) r in
    (rw e, rw e)

pub returns-then-out-self : goal.returns-then-out-self
unfolding finish_output
returns-then-out-self c =
    let a = c.args in
    let r : in_range a.self.now ≡ true = sym c.in_range.ensures ∙ c.if-not-in_range.false in
    let e = finish_size a.self.now (length a.out.now) r c.if-out-self.true in
    (rw e, rw e)

pub closed-requires : goal.closed-requires
closed-requires c =
    let a = c.args in
    let r : in_range a.self.now ≡ true = sym c.in_range.ensures ∙ c.if-not-in_range.false in
    (c.if-out-self.false, (range_size a.self.now r).1)

pub returns : goal.returns
unfolding finish_output
returns c =
    let a = c.args in
    let r : in_range a.self.now ≡ true = sym c.in_range.ensures ∙ c.if-not-in_range.false in
    let e = finish_accepted a.self.now (length a.out.now) r c.if-out-self.false in
    (rw e, rw (c.closed.ensures, e))
