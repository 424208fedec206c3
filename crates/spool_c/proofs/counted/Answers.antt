-- A refusal's number is not 0 (`told`).
use Rattle.spool.specs.Answers.{with_count}
use Rattle.spool.proofs.Numbers.{told}
use Rattle.spool_c.proofs.counted.Goals as goal

pub returns-in-Ok : goal.returns-in-Ok
unfolding with_count
returns-in-Ok c = λ room. rw c.in-Ok.is

pub returns-in-Err : goal.returns-in-Err
returns-in-Err c = λ room. let len = c.args.len.now in rw (c.in-Err.is, c.from.ensures) (told c.in-Err.refusal room len)
