-- Each test is one part of the range.
use mathlib.Core.Path.{sym, ◌∙◌}
use Rattle.endian.proofs.Cases.{impossible}
use Rattle.head.specs.State.{in_range}
use Rattle.head.proofs.states.in_range.Goals.{then-length_ok, else-length_ok}
use Rattle.head.proofs.states.in_range.Goals as goal

pub returns-then-frame_ok : goal.returns-then-frame_ok
unfolding in_range
returns-then-frame_ok c =
    let v = c.if-frame_ok.true in
    elim c.if-length_ok.branch [
      | then-length_ok w ↦ simp (c.progress_ok.ensures, ← c.length_ok.ensures, w.if-length_ok.true, ← w.frame_ok.ensures, ← w.value-is, v)
      | else-length_ok w ↦ let z = sym w.value-is ∙ v in impossible cc
    ]

pub returns-else-frame_ok : goal.returns-else-frame_ok
unfolding in_range
returns-else-frame_ok c =
    let v = c.if-frame_ok.false in
    elim c.if-length_ok.branch [
      | then-length_ok w ↦ simp (← c.length_ok.ensures, w.if-length_ok.true, ← w.frame_ok.ensures, ← w.value-is, v)
      | else-length_ok w ↦ simp (← c.length_ok.ensures, w.if-length_ok.false, v)
    ]
