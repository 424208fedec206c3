-- The header, then the body after it.
use Rattle.std.proofs.Common.{rules}
use Rattle.loader.proofs.Copies.{put_front}
use lib.ListN.{take}
use native.Mathlib.Omega.{arith}
use mathlib.Core.Path.{◌∙◌}
use Rattle.loader.proofs.memory.put.Goals as goal

pub returns : goal.returns
returns c =
    let a = c.args in
    (c.put.ensures.fits (search rules)) ∙ put_front a.room.now (take a.r.len a.r.body) a.r.header (omega arith)
