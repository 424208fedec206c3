-- The digest is what is measured and what the last reply says; what is decided on it is the outcome.
use Prim.Native.Nat.{◌≤◌}
use lib.ListN.{length, take}
use lib.Seq.{length-take-le}
use mathlib.Core.Path.{ap, ◌∙◌}
use native.Mathlib.Omega.{arith}
use Rattle.blake2s.proofs.Numbers.{digest_zeros}
use Rattle.protocol.specs.Replies.{sent, digest_reply, put_in}
use Rattle.protocol.specs.declared.Reply.{Reply}
use Rattle.loader.proofs.Steps.{finished_as}
use Rattle.loader.proofs.acting.finish.Goals as goal

pub put-requires-clause-len_bound : goal.put-requires-clause-len_bound
unfolding digest_reply
put-requires-clause-len_bound c = rw c.digest_reply.ensures (omega arith)

pub returns : goal.returns
returns c =
    let a = c.args in
    let sent_digest = c.put.ensures ∙ ap (λ (r : Reply). put_in a.room.now (sent r)) c.digest_reply.ensures in
    let n = length-take-le a.s.progress.size a.ram.now c.requires.size_in_bounds.0 in
    let short : length (take a.s.progress.size a.ram.now) ≤ 4294967295 = omega arith in
    let measured = c.digest-digest.ensures ∙ digest_zeros (take a.s.progress.size a.ram.now) short in
    finished_as a.s c.digest-digest.result a.room.now a.ram.now a.uds.now c.replied.result c.start_or_stop.result _ _ measured
    sent_digest c.replied.ensures c.start_or_stop.ensures
