-- The bytes stand after code and status, and what was not written is zero.
use lib.ListN.{length}
use mathlib.Core.Path.{◌≡◌, ◌∙◌}
use Rattle.protocol.specs.Replies.{udi_reply}
use borrow.Author.Rules.{rules}
use Rattle.protocol.proofs.udi_reply.Goals as goal

pub returns : goal.returns
unfolding udi_reply
returns c =
    let s = c.args.udi in
    let l : length s ≡ 8 = search rules in
    let e = c.copy_from_slice.ensures.after in
    c.with_status.ensures ∙ rw (e, l)
