-- The last test, and none failed; the check finds the others.
use Prim.Native.Nat.{ℕ, ◌+◌}
use mathlib.Core.Path.{◌≡◌, sym, ap, ◌∙◌}
use mathlib.Core.Bool.{cond}
use Rattle.std.specs.Prelude.{None, Some}
use Rattle.framing.specs.Answers.{fields_of}
use Rattle.client.specs.Replies.{expected_of, difference_in}
use Rattle.client.specs.declared.Difference.TheVariants.{Filler}
use Rattle.client.proofs.Expected.{last_test}
use Rattle.client.proofs.replies.Kind.compare.Goals as goal

pub returns-then-not-all_zero-clause-difference : goal.returns-then-not-all_zero-clause-difference
returns-then-not-all_zero-clause-difference c =
    let a = c.args in
    let n = c.digest_len.result in
    let r = a.reply.now in
    let l : difference_in (expected_of a.self) a.id r ≡ cond c.all_zero.result None (Some Filler) =
    last_test (expected_of a.self) a.id r c.in-Some.h n c.all_zero.result
    (ap fields_of (sym c.in-Some.is) ∙ c.read_reply_header.ensures) c.if-h-id.false c.if-h-ne2.false (c.if-h-len.false ∙ c.len.ensures)
    (c.if-reply-len.false ∙ ap (λ (n : ℕ). 1 + n) c.len-2.ensures) (c.if-reply-code.false ∙ c.code.ensures) (c.if-reply-from.false ∙ c.from.ensures)
    c.digest_len.ensures c.all_zero.ensures in
    rw (l, c.if-not-all_zero.true)

pub returns-clause-difference : goal.returns-clause-difference
returns-clause-difference c =
    let a = c.args in
    let n = c.digest_len.result in
    let r = a.reply.now in
    let l : difference_in (expected_of a.self) a.id r ≡ cond c.all_zero.result None (Some Filler) =
    last_test (expected_of a.self) a.id r c.in-Some.h n c.all_zero.result
    (ap fields_of (sym c.in-Some.is) ∙ c.read_reply_header.ensures) c.if-h-id.false c.if-h-ne2.false (c.if-h-len.false ∙ c.len.ensures)
    (c.if-reply-len.false ∙ ap (λ (n : ℕ). 1 + n) c.len-2.ensures) (c.if-reply-code.false ∙ c.code.ensures) (c.if-reply-from.false ∙ c.from.ensures)
    c.digest_len.ensures c.all_zero.ensures in
    rw (l, c.if-not-all_zero.false)
