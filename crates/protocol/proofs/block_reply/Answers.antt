-- Code and status, and zeros behind them.
use Rattle.protocol.specs.Replies.{block_reply}
use Rattle.protocol.proofs.block_reply.Goals as goal

pub returns : goal.returns
unfolding block_reply
returns c = c.with_status.ensures
