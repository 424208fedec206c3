-- The two parts fill the buffer, and a message of 64 bytes is never refused.
use mathlib.Core.Path.{ap, ◌∙◌}
use mathlib.Core.List.{List, [], ◌++◌}
use Prim.Native.Nat.{ℕ}
use borrow.Author.Rules.{rules}
use native.Mathlib.Omega.{arith}
use Rattle.endian.specs.Lists.{zeros}
use Rattle.blake2s.specs.Hash.{hash_output}
use Rattle.blake2s.proofs.Numbers.{digest_zeros}
use Rattle.handover.proofs.Records.{joined, joined_length}
use Rattle.handover.proofs.mix.Goals as goal

pub returns : goal.returns
returns c =
    let cdi = c.args.cdi.now in
    let seed = c.args.seed.now in
    let both = joined cdi seed c.requires.0 c.requires.1 _ _ (c.put.ensures.fits (search rules)) (c.put-2.ensures.fits (search rules)) in
    let n = joined_length cdi seed c.requires.0 c.requires.1 in
    c.digest.ensures ∙ ap (λ (m : List ℕ). hash_output [] m (zeros 32)) both ∙ digest_zeros (cdi ++ seed) (omega (arith, n))
