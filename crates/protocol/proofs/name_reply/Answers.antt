-- The bytes stand at the front, and what was not written is zero.
use Rattle.protocol.specs.Replies.{name_reply}
use Rattle.protocol.proofs.name_reply.Goals as goal

pub returns : goal.returns
unfolding name_reply
returns c = rw (c.reply_header.ensures, c.copy_from_slice.ensures.after)
