-- The reply is the identity's.
use native.Mathlib.Omega.{arith}
use Rattle.protocol.specs.Replies.{udi_reply}
use Rattle.loader.proofs.acting.answer_udi.Goals as goal

pub answer-requires-clause-len_bound : goal.answer-requires-clause-len_bound
unfolding udi_reply
answer-requires-clause-len_bound c = rw c.udi_reply.ensures (omega arith)
