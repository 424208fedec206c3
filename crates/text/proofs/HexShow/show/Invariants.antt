-- The digits of what is left, behind what is there, are the whole.
use Rattle.std.proofs.Common.{◌≡◌}
use lib.ListN.{drop}
use Rattle.text.specs.Text.{hex_of, added}
use Rattle.text.proofs.HexShow.show.Given as goal

abbrev pub invariant-loop-b : goal.invariant-loop-b
invariant-loop-b l = added l.t (hex_of (drop l.b-index l.b-items)) ≡ added l.initial.t (hex_of l.b-items)
