-- The two arms are those of `cond`.
use Rattle.compression.proofs.inverted_if.Goals as goal

pub returns-then-last : goal.returns-then-last
returns-then-last c = rw c.if-last.true
