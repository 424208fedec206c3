-- The code is the definition, with the library's rotation for the RFC's.
use Rattle.std.proofs.Common.{◌∙◌}
use Rattle.std.proofs.lemmas.Nat.{xor_of_32}
use Rattle.rfc7693.specs.Rfc7693.{xor_rotated}
use Rattle.compression.proofs.Steps.{rotated}
use Rattle.compression.proofs.xor_rotate.Goals as goal

pub returns : goal.returns
unfolding xor_rotated
returns c =
    let h = xor_of_32 _ _ c.element_fits.fits c.element_fits2.fits in
    rw (c.rotate_right.ensures ∙ rotated _ c.args.n h c.requires.2 c.requires.3)
