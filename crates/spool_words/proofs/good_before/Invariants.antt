-- All blocks before the one that a turn looks at are good.
use Rattle.std.proofs.Common.{◌≡◌, ℕ, ◌<◌}
use Rattle.spool.specs.Reading.{look_refusal}
use Rattle.spool_words.proofs.good_before.Given as goal

abbrev pub invariant-loop-i : goal.invariant-loop-i
invariant-loop-i l = (j : ℕ) → j < l.i → look_refusal l.bytes j ≡ 0
