-- A reply put at the front of a room.
use Prim.Native.Nat.{ℕ, ◌<◌}
use mathlib.Core.List.{List, [], ◌∷◌}
use mathlib.Core.Path.{◌≡◌}
use native.Mathlib.Omega.{arith}
use native.Mathlib.Nat.{add_comm}
use native.Mathlib.Numerals.{add-one}
use lib.ListN.{length, set}
use lib.Seq.{paste, take_all}
use Rattle.protocol.specs.Replies.{put_in}

pub put_front : (room body : List ℕ) (h : ℕ) → 0 < length room → paste (set room 0 h) 1 body (length body) ≡ put_in room (h ∷ body)
unfolding put_in
put_front [] body h p = absurd (omega arith)
put_front (x ∷ xs) body h p = rw (take_all (length body) body (omega arith), add_comm 1 (length body), add-one (length body))
