-- A secret that is not used is not in the frame.
use mathlib.Core.Bool.{not}
use lib.Dec.{eqb}
use Rattle.client_c.proofs.Calls.{as_lent}
use Rattle.client_c.proofs.mastfrap_make_frame.Goals as goal

pub returns : goal.returns
returns c =
    let a = c.args in
    rw (c.number.ensures, c.make_frame.ensures, c.then_some-secret.ensures) (as_lent (not (eqb a.used 0)) a.program.now a.id a.k a.uss.now a.room.now)
