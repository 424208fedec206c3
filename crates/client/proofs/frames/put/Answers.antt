-- The header, then the body after it.
use mathlib.Core.Path.{◌≡◌}
use lib.ListN.{length}
use Rattle.client.specs.Frames.{command_header}
use Rattle.client.proofs.Parts.{put_command}
use borrow.Author.Rules.{rules}
use Rattle.client.proofs.frames.put.Goals as goal

pub returns : goal.returns
returns c =
    let a = c.args in
    let l : length a.body ≡ 128 = search rules in
    rw ((c.put.ensures.fits (search rules)), c.header.ensures) (put_command a.room.now a.body (command_header a.id) c.requires l)
