-- The blocks that are left, on the state so far, give what all of them give on the first state.
use mathlib.Core.Path.{◌≡◌}
use Prim.Native.Nat.{◌≤◌, ◌+◌, ◌-◌, ◌*◌}
use lib.ListN.{drop}
use Rattle.blake2s.specs.Steps.{compressed_blocks}
use Rattle.blake2s.proofs.stream.compress_blocks.Given as goal

abbrev pub invariant-loop-i : goal.invariant-loop-i
invariant-loop-i l =
    (l.i ≤ l.n) × (compressed_blocks l.h (l.t + 64 * l.i) (drop (64 * l.i) l.d) (l.n - l.i) l.last ≡ compressed_blocks l.initial.h l.t l.d l.n l.last)
