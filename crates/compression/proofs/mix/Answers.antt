-- The eight steps of the code are those of G.
use Rattle.rfc7693.specs.Rfc7693.{G}
use Rattle.compression.proofs.mix.Goals as goal

pub returns : goal.returns
unfolding G
returns c =
    rw (
      c.xor_rotate.ensures,
      c.add-v7.ensures,
      c.xor_rotate-v6.ensures,
      c.add-v5.ensures,
      c.xor_rotate-v4.ensures,
      c.add-v3.ensures,
      c.xor_rotate-v2.ensures,
      c.add-v1.ensures,
    )
