-- Each return has the number that the tests on the way to it leave.
use mathlib.Core.Path.{sym, ◌∙◌}
use native.Mathlib.Omega.{arith}
use Rattle.blake2s.proofs.Numbers.{good_size, hash_size, hash_key, hash_message, hash_accepted}
use Rattle.blake2s.proofs.check_lengths.Goals as goal

pub returns-then-bad_size : goal.returns-then-bad_size
returns-then-bad_size c =
    let a = c.args in
    sym (hash_size a.key a.msg a.size (sym c.bad_size.ensures ∙ c.if-bad_size.true))

pub returns-then-key-gt32 : goal.returns-then-key-gt32
returns-then-key-gt32 c =
    let g = good_size c.args.size (sym c.bad_size.ensures ∙ c.if-bad_size.false) in
    sym (hash_key _ _ _ g.0 g.1 c.if-key-gt32.true)

pub returns-then-msg-gt4294967295 : goal.returns-then-msg-gt4294967295
returns-then-msg-gt4294967295 c =
    let g = good_size c.args.size (sym c.bad_size.ensures ∙ c.if-bad_size.false) in
    sym (hash_message _ _ _ g.0 g.1 (omega arith) c.if-msg-gt4294967295.true)

pub returns : goal.returns
returns c =
    let g = good_size c.args.size (sym c.bad_size.ensures ∙ c.if-bad_size.false) in
    sym (hash_accepted _ _ _ g.0 g.1 (omega arith) (omega arith))
