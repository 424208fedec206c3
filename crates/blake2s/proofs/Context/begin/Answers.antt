-- An accepted begin has lengths in range; a refused one has the context that is refused later.
use mathlib.Core.Path.{sym, ◌∙◌}
use lib.ListN.{length}
use borrow.Author.Tests.{ne_eqb}
use Rattle.blake2s.specs.Hash.{hash_number}
use Rattle.blake2s.specs.Stream.{begin_number, begin_context}
use Rattle.blake2s.proofs.Numbers.{refused, handed_on, no_context, accepted_lengths}
use Rattle.blake2s.proofs.Context.begin.Goals as goal

pub returns-in_err-check_lengths : goal.returns-in_err-check_lengths
unfolding begin_number begin_context
returns-in_err-check_lengths c =
    let r = c.in_err-check_lengths.field-0.0 in
    let e = c.in_err-check_lengths.ensures in
    let n = hash_number (length c.args.key.now) 0 c.args.size in
    (handed_on _ r c.from_residual.ensures.1 ∙ e, rw (ne_eqb n 0 (λ z. refused r (e ∙ z))) (no_context _ c.from_residual.ensures.0))

pub begun-requires : goal.begun-requires
begun-requires c =
    let l = accepted_lengths (length c.args.key.now) 0 c.args.size (sym c.in_ok-check_lengths.ensures) in
    (l.fits, l.small)

pub returns : goal.returns
unfolding begin_number begin_context
returns c =
    let e = c.in_ok-check_lengths.ensures in
    (e, rw (c.begun.ensures, sym e))
