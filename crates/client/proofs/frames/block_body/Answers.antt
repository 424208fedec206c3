-- The part of the program, over zeros.
use Rattle.std.proofs.Common.{rules}
use Prim.Native.Nat.{ℕ, ◌+◌, ◌-◌, min}
use mathlib.Core.Path.{◌≡◌, sym, ap, ◌∙◌}
use native.Mathlib.Omega.{arith}
use lib.ListN.{length, take, drop, length-drop}
use Rattle.protocol.specs.Commands.{place_of}
use Rattle.client.specs.Frames.{block_body}
use Rattle.client.proofs.Parts.{after_command, first_127}
use Rattle.client.proofs.frames.block_body.Goals as goal

pub returns : goal.returns
unfolding block_body
returns c =
    let from = c.place_of-from.result in
    let n = c.count_in-n.result in
    let rest = drop (place_of c.args.block) c.args.program.now in
    let k : from + n - from ≡ n = omega arith in
    let q : n ≡ min 127 (length rest) = c.count_in-n.ensures ∙ ap (λ (x : ℕ). min 127 x) (sym (length-drop (place_of c.args.block) c.args.program.now)) in
    rw ((c.put.ensures.fits (search rules)), k, c.place_of-from.ensures, first_127 n rest q) (after_command 5 (take 127 rest))
