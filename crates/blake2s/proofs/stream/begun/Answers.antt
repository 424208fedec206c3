-- The fields are those of the definition: the key is copied to the front of zeros (`copied_padded`).
use Rattle.std.proofs.Common.{rules}
use Rattle.blake2s.specs.Stream.{begun}
use Rattle.blake2s.proofs.Contexts.{copied_padded}
use Rattle.blake2s.proofs.stream.begun.Goals as goal

pub returns : goal.returns
unfolding begun
returns c =
    let a = c.args in
    rw (c.first_state.ensures, (c.put.ensures.fits (search rules)), copied_padded a.key.now)
