-- Status and digest are written exactly where the number is 0.
use Rattle.client.specs.Replies.{taking_into}
use Rattle.client.proofs.Numbers.{refused_number}
use Rattle.client_c.proofs.mastfrap_read_reply.Goals as goal

pub returns-in-Some : goal.returns-in-Some
unfolding taking_into
returns-in-Some c = rw (← c.read_reply.ensures.taking, c.in-Ok.is, c.into.ensures, c.in-Some.is)

pub returns-in-None : goal.returns-in-None
unfolding taking_into
returns-in-None c = rw (← c.read_reply.ensures.taking, c.in-Ok.is, c.into.ensures, c.in-None.is)

pub returns-in-Err : goal.returns-in-Err
unfolding taking_into
returns-in-Err c = rw (← c.read_reply.ensures.taking, c.in-Err.is, c.into-in-Err.ensures, refused_number c.in-Err.why)
