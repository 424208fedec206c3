-- The reply is the name's.
use native.Mathlib.Omega.{arith}
use Rattle.protocol.specs.Replies.{name_reply}
use Rattle.loader.proofs.acting.answer_name.Goals as goal

pub answer-requires-clause-len_bound : goal.answer-requires-clause-len_bound
unfolding name_reply
answer-requires-clause-len_bound c = rw c.name_reply.ensures (omega arith)
