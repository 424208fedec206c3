-- The load is read, tested and answered as the definition does it (`load_made`).
use native.Mathlib.Omega.{arith}
use Rattle.protocol.specs.Replies.{load_reply}
use Rattle.loader.proofs.Steps.{load_made}
use Rattle.loader.proofs.acting.act_load.Goals as goal

pub answer-requires-clause-len_bound : goal.answer-requires-clause-len_bound
unfolding load_reply
answer-requires-clause-len_bound c = rw c.load_reply-reply.ensures (omega arith)

pub returns-then-good : goal.returns-then-good
returns-then-good c =
    let m = load_made c.args.s c.from.result c.read_load-l.result c.load_is_good-good.result c.load_reply-reply.result c.from.ensures
    c.read_load-l.ensures c.load_is_good-good.ensures c.load_reply-reply.ensures in
    rw (← m.0, ← (m.1 c.if-good.true), ← c.loaded.ensures) c.answer.ensures

pub answer-requires-2-clause-len_bound : goal.answer-requires-2-clause-len_bound
unfolding load_reply
answer-requires-2-clause-len_bound c = rw c.load_reply-reply.ensures (omega arith)

pub returns : goal.returns
returns c =
    let m = load_made c.args.s c.from.result c.read_load-l.result c.load_is_good-good.result c.load_reply-reply.result c.from.ensures
    c.read_load-l.ensures c.load_is_good-good.ensures c.load_reply-reply.ensures in
    rw (← m.0, ← (m.2 c.if-good.false)) c.answer-2.ensures
