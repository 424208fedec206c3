-- An accepted call has lengths in range, and a refused one leaves the output.
use mathlib.Core.Path.{sym, ◌∙◌}
use native.Mathlib.Omega.{arith}
use lib.ListN.{length}
use borrow.Author.Tests.{ne_eqb}
use Rattle.blake2s.specs.Hash.{hash_number, hash_output}
use Rattle.blake2s.proofs.Numbers.{refused, handed_on, accepted_lengths}
use Rattle.blake2s.proofs.hash.Goals as goal

pub returns-in_err-check_lengths : goal.returns-in_err-check_lengths
unfolding hash_output
returns-in_err-check_lengths c =
    let r = c.in_err-check_lengths.field-0.0 in
    let e = c.in_err-check_lengths.ensures in
    let n = hash_number (length c.args.key.now) (length c.args.msg.now) (length c.args.out.now) in
    (handed_on _ r c.from_residual.ensures.1 ∙ e, rw (ne_eqb n 0 (λ z. refused r (e ∙ z))))

pub whole-requires : goal.whole-requires
whole-requires c =
    let a = c.args in
    let l = accepted_lengths (length a.key.now) (length a.msg.now) (length a.out.now) (sym c.in_ok-check_lengths.ensures) in
    (l.fits, omega (arith, l.short), l.small)

pub returns : goal.returns
unfolding hash_output
returns c =
    let e = c.in_ok-check_lengths.ensures in
    (e, rw (c.whole.ensures, sym e))
