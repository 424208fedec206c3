-- The load is read and tested as the definition does it (`load_taken`, `load_left`).
use mathlib.Core.Path.{◌∙◌}
use Rattle.diagnosis.specs.Monitor.{monitor_of}
use Rattle.diagnosis.proofs.Steps.{load_taken, load_left}
use Rattle.diagnosis.proofs.frames.load.Goals as goal

pub returns-then-load_is_good : goal.returns-then-load_is_good
returns-then-load_is_good c =
    c.onward.ensures
    ∙ rw (c.fresh_hash.ensures, c.loaded.ensures) (load_taken (monitor_of c.args.w) c.from.result c.read_load-l.result c.load_is_good.result
    c.from.ensures c.read_load-l.ensures c.load_is_good.ensures c.if-load_is_good.true)

pub returns : goal.returns
returns c =
    c.query.ensures
    ∙ load_left (monitor_of c.args.w) c.from.result c.read_load-l.result c.load_is_good.result c.from.ensures c.read_load-l.ensures
    c.load_is_good.ensures c.if-load_is_good.false
