-- The digest is the one that was measured.
use Rattle.messages.proofs.other_digest.Goals as goal

pub returns : goal.returns
returns c = rw (← c.measured-measured.ensures) c.of.ensures
