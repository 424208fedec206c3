-- The block is stored; whether it is the last decides the rest.
use mathlib.Core.Path.{refl}
use native.Mathlib.Omega.{arith}
use Rattle.protocol.specs.Replies.{block_reply}
use Rattle.loader.proofs.Steps.{last_block, other_block}
use Rattle.loader.proofs.acting.act_block.Goals as goal

pub returns-then-is_last : goal.returns-then-is_last
returns-then-is_last c =
    let a = c.args in
    rw (← (last_block a.s c.from.result c.is_last.result a.room.now a.ram.now _ a.uds.now c.from.ensures c.store.ensures
    c.is_last.ensures c.if-is_last.true)) c.finish.ensures

pub answer-requires-clause-len_bound : goal.answer-requires-clause-len_bound
unfolding block_reply
answer-requires-clause-len_bound c = rw c.block_reply.ensures (omega arith)

pub returns : goal.returns
returns c =
    let a = c.args in
    other_block a.s c.from.result c.is_last.result a.room.now a.ram.now _ a.uds.now c.from.ensures c.store.ensures
    c.is_last.ensures c.if-is_last.false c.block_reply.result _ c.answer.result _ c.block_reply.ensures
    refl c.answer.ensures
