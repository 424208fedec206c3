-- Code and status, and zeros behind them.
use Rattle.protocol.specs.Replies.{load_reply}
use Rattle.protocol.proofs.load_reply.Goals as goal

pub returns : goal.returns
unfolding load_reply
returns c = rw (← c.status_if.ensures) c.with_status.ensures
