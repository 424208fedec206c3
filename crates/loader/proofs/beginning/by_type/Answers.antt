-- Where the program comes from says which case of the definition it is.
use mathlib.Core.Path.{sym, ap, ◌∙◌}
use Rattle.std.specs.Prelude.{Some}
use Rattle.record.specs.Record.{record_of}
use Rattle.record.specs.Types.{source_at, slot0, slot1, client, unknown}
use Rattle.loader.specs.Steps.{lent}
use Rattle.loader.proofs.Slots.{by_source_is}
use Rattle.loader.proofs.beginning.by_type.Goals as goal

pub returns-in-Some-Slot0 : goal.returns-in-Some-Slot0
returns-in-Some-Slot0 c =
    let a = c.args in
    c.boot.ensures
    ∙ by_source_is (record_of a.r) a.udi (lent a.flash) a.ram.now a.uds.now slot0 c.config_of-c.result
    (ap source_at (sym (c.in-Some-Slot0.is ∙ ap Some c.in-Some-Slot0.field-0-is)) ∙ c.source.ensures) c.config_of-c.ensures

pub returns-in-Some-Slot1 : goal.returns-in-Some-Slot1
returns-in-Some-Slot1 c =
    let a = c.args in
    c.boot-in-Some-Slot1.ensures
    ∙ by_source_is (record_of a.r) a.udi (lent a.flash) a.ram.now a.uds.now slot1 c.config_of-c.result
    (ap source_at (sym (c.in-Some-Slot1.is ∙ ap Some c.in-Some-Slot1.field-0-is)) ∙ c.source.ensures) c.config_of-c.ensures

pub returns-in-Some-Client : goal.returns-in-Some-Client
returns-in-Some-Client c =
    let a = c.args in
    c.wait.ensures a.ram.now a.uds.now
    ∙ by_source_is (record_of a.r) a.udi (lent a.flash) a.ram.now a.uds.now client c.config_of-c.result
    (ap source_at (sym (c.in-Some-Client.is ∙ ap Some c.in-Some-Client.field-0-is)) ∙ c.source.ensures) c.config_of-c.ensures

pub returns-in-None : goal.returns-in-None
returns-in-None c =
    let a = c.args in
    c.end.ensures a.ram.now a.uds.now
    ∙ by_source_is (record_of a.r) a.udi (lent a.flash) a.ram.now a.uds.now unknown c.config_of-c.result
    (ap source_at (sym c.in-None.is) ∙ c.source.ensures) c.config_of-c.ensures
