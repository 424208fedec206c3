-- After each two rounds those that are left give what all ten give on the first vector.
use Rattle.std.proofs.Common.{◌∙◌}
use Rattle.rfc7693.specs.Rfc7693.{sigma, rounds}
use Rattle.compression.proofs.rounds.Goals as goal

pub returns : goal.returns
unfolding rounds sigma
returns c = c.two_rounds.ensures ∙ c.two_rounds-v8.ensures ∙ c.two_rounds-v6.ensures ∙ c.two_rounds-v4.ensures ∙ c.two_rounds-v2.ensures
