-- begin by value; what it gives is put in the lent memory unless it is refused.
use Rattle.head.specs.Begin.{flash_of}
use Rattle.abi.specs.Layout.{lent}
use Rattle.abi.specs.Calls.{start_in}
use Rattle.abi.proofs.Called.{begin_refused, begin_taken, begin_small}
use Rattle.abi.proofs.mastfrap_begin.Goals as goal

pub returns-in-Err : goal.returns-in-Err
returns-in-Err c =
    let a = c.args in
    let memory = lent a.numbers.now a.bytes.now in
    let flash = flash_of a.slot0.now a.size0 a.slot1.now a.size1 a.built_in.now in
    let old = start_in a.start.now a.cdi.now a.digest.now in
    rw c.refusal_number.ensures
    (begin_refused memory a.«record».now a.udi.now flash a.ram.now a.uds.now old c.begin.result _ _ c.begin.ensures c.in-Err.why c.in-Err.is)

pub write-requires : goal.write-requires
write-requires c =
    let a = c.args in
    let memory = lent a.numbers.now a.bytes.now in
    let flash = flash_of a.slot0.now a.size0 a.slot1.now a.size1 a.built_in.now in
    let old = start_in a.start.now a.cdi.now a.digest.now in
    begin_small memory a.«record».now a.udi.now flash a.ram.now a.uds.now old c.begin.result _ _ c.begin.ensures c.in-Ok.r c.in-Ok.is

pub returns-in-Ok : goal.returns-in-Ok
returns-in-Ok c =
    let a = c.args in
    let memory = lent a.numbers.now a.bytes.now in
    let flash = flash_of a.slot0.now a.size0 a.slot1.now a.size1 a.built_in.now in
    let old = start_in a.start.now a.cdi.now a.digest.now in
    begin_taken memory a.«record».now a.udi.now flash a.ram.now a.uds.now old c.begin.result _ _ c.begin.ensures c.in-Ok.r c.in-Ok.is _ _ _ c.answer_number.ensures c.write.ensures c.give.ensures
