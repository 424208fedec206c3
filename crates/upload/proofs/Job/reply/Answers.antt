-- The frame of a reply that is taken is one of the program's, and has a digest if it is the last.
use Rattle.std.proofs.Common.{rules}
use Prim.Native.Nat.{◌≤◌}
use native.Mathlib.Omega.{arith}
use mathlib.Core.Path.{◌≡◌, sym, ap, ◌∙◌}
use mathlib.Core.Bool.{not}
use lib.Dec.{ltb}
use Rattle.std.specs.Prelude.{is_some}
use Rattle.protocol.specs.Commands.{blocks_for, place_of}
use Rattle.framing.specs.declared.Status.TheVariants.{Good}
use Rattle.upload.specs.Upload.{replied}
use Rattle.upload.proofs.Replies.{read_given, some_left}
use Rattle.upload.proofs.Job.reply.Goals as goal

pub overflow_add-x : goal.overflow_add-x
overflow_add-x c =
    let a = c.args in
    let g = read_given a.self a.x c.read.result c.in-Ok.t c.read.ensures.taking c.in-Ok.is in
    let h : a.x.k ≤ blocks_for a.self.len = g.frame in
    omega (arith, g.small, h)

pub returns-in-None : goal.returns-in-None
unfolding replied
returns-in-None c =
    let a = c.args in
    let g = read_given a.self a.x c.read.result c.in-Ok.t c.read.ensures.taking c.in-Ok.is in
    let l : ltb (place_of a.x.k) a.self.len ≡ not (is_some c.in-Ok.t.digest) = some_left a.self.len a.self.id a.x.k g ∙ ap not (sym c.in-Ok.ensures.digest) in
    let s : c.in-Ok.t.status ≡ Good = search rules in
    rw (c.sent.ensures, ← c.read.ensures.taking, c.in-Ok.is, s, l, c.in-None.is)

pub returns-in-Some : goal.returns-in-Some
unfolding replied
returns-in-Some c =
    let a = c.args in
    let g = read_given a.self a.x c.read.result c.in-Ok.t c.read.ensures.taking c.in-Ok.is in
    let l : ltb (place_of a.x.k) a.self.len ≡ not (is_some c.in-Ok.t.digest) = some_left a.self.len a.self.id a.x.k g ∙ ap not (sym c.in-Ok.ensures.digest) in
    let s : c.in-Ok.t.status ≡ Good = search rules in
    rw (← c.read.ensures.taking, c.in-Ok.is, s, l, c.in-Some.is, ← c.check.ensures)
