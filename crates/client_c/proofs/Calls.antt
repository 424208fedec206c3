-- The calls of `client` as C makes them.
use Prim.Native.Nat.{ℕ}
use mathlib.Core.Path.{◌≡◌, refl}
use mathlib.Core.Bool.{Bool, true, false}
use mathlib.Core.List.{List}
use Rattle.std.specs.Bool.{then_some}
use Rattle.client.specs.Frames.{secret_of, secret_in, load_body, making}

-- a secret that is not used is not in the frame
pub as_lent : (used : Bool) (program : List ℕ) (id k : ℕ) (uss room : List ℕ)
    → making program id (secret_in (then_some used uss)) k room ≡ making program id (secret_of used uss) k room
unfolding making load_body
as_lent true program id k uss room = refl
as_lent false program id k uss room = refl
