-- What stops the head is the number that the request has.
use mathlib.Core.Path.{ap, ◌∙◌}
use Rattle.head.specs.Act.{Request, performed}
use Rattle.loader.proofs.acting.perform.Goals as goal

pub returns-in-Err : goal.returns-in-Err
returns-in-Err c =
    let a = c.args in
    c.stop.ensures a.room.now a.ram.now a.uds.now ∙ ap (λ (r : Request). performed r a.s a.room.now a.ram.now a.uds.now) c.in-Err.ensures
