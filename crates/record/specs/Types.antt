-- What each type of a reset asks for: document 01, "Reset record and lent memory", and change requests 3 and 6. A type is its number, or none.
use Rattle.std.specs.Prelude.{ℕ, Bool, false, cond, ◌&&◌, ◌||◌, List, eqb}
use Rattle.std.proofs.Math.Option.{Option, none, some}
use Rattle.std.specs.Prelude as code
use Rattle.endian.specs.Lists.{zeros, same}
use Rattle.record.specs.declared.Digests.{Digests}
use Rattle.record.specs.declared.Place.{Place}
use Rattle.record.specs.declared.Place.TheVariants as place

-- where the program comes from
pub data Source : Type 0 where
  slot0 : Source
  slot1 : Source
  -- a client sends it
  client : Source
  -- the type is unknown
  unknown : Source

abbrev pub source_at : code.Option Place → Source
source_at (code.Some place.Slot0) = slot0
source_at (code.Some place.Slot1) = slot1
source_at (code.Some place.Client) = client
source_at code.None = unknown

abbrev pub is_type : Option ℕ → ℕ → Bool
is_type (some t) n = eqb t n
is_type none n = false

-- types 0 and 2 load slot 0, types 1 and 3 slot 1; 4 and 5 wait for a client
abbrev pub source_of : Option ℕ → Source
source_of t =
    cond (is_type t 0 || is_type t 2) slot0
    (cond (is_type t 1 || is_type t 3) slot1
    (cond (is_type t 4 || is_type t 5) client unknown))

-- the program of types 0, 2, 3 and 5 must have an allowed digest
abbrev pub verifies : Option ℕ → Bool
verifies t = is_type t 0 || is_type t 2 || is_type t 3 || is_type t 5

-- one digest, and no second
abbrev pub alone : List ℕ → Digests
alone d = record { first = d; second = zeros 32; has_second = false }

-- type 0 has the built-in digest alone; the others have what the record says, also those that verify nothing
abbrev pub digests_of : Option ℕ → List ℕ → Digests → Digests
digests_of t built_in recorded = cond (is_type t 0) (alone built_in) recorded

-- demand 3, by change request 6: the digest d is one of them
abbrev pub one_of : Digests → List ℕ → Bool
one_of allowed d = same d allowed.first || (allowed.has_second && same d allowed.second)
