-- A number fits its field when it is at most 3, and every status does.
use Prim.Native.Nat.{◌<◌}
use mathlib.Core.Path.{◌≡◌}
use mathlib.Core.Logic.{⊎_elim}
use native.Mathlib.Omega.{arith}
use Rattle.framing.specs.Header.{code_of}
use Rattle.framing.specs.Answers.{status_number}
use Rattle.framing.proofs.Headers.{written, no_room, status_small}
use Rattle.framing.proofs.write_header.Goals as goal

pub returns-in_err-code : goal.returns-in_err-code
returns-in_err-code c =
    let a = c.args in
    let e : code_of a.len ≡ 4 = c.in_err-code.ensures in
    rw c.from_residual.ensures (no_room a.id a.endpoint a.len (status_number a.status) (λ h. omega arith))

pub returns-then-id-gt3 : goal.returns-then-id-gt3
returns-then-id-gt3 c =
    let a = c.args in
    no_room a.id a.endpoint a.len (status_number a.status)
    (λ h. ⊎_elim (λ (i : 3 < a.id). omega arith) (λ e. omega arith) c.then-id-gt3.either)

pub returns : goal.returns
returns c =
    let a = c.args in
    let i : a.id < 4 = omega arith in
    let e : a.endpoint < 4 = omega arith in
    let code : c.in_ok-code.code ≡ code_of a.len = c.in_ok-code.ensures.0 in
    let l : code_of a.len < 4 = rw (← code) c.in_ok-code.ensures.1 in
    rw (c.from.ensures, code, written a.id a.endpoint a.len (status_number a.status) i e l (status_small a.status))
