-- The Compound Device Identifier: document 01, "Commands and replies", which source document 002 decides.
use Rattle.std.specs.Prelude.{ℕ, ◌+◌, Bool, cond, List, [], ◌∷◌, ◌++◌, Option, is_some}
use Rattle.std.specs.Option.{unwrap_or}
use Rattle.endian.specs.Lists.{zeros}
use Rattle.rfc7693.specs.Rfc7693.{blake2s}

-- bit 0: a user secret (USS) is used; bit 1: the record's mask has RESET_SEED (document 01: chained)
abbrev pub domain_of : Bool → Bool → ℕ
domain_of used chained = cond used 1 0 + cond chained 2 0

-- with RESET_SEED the measurement is measured_id, otherwise the program's digest
abbrev pub measurement_of : Bool → List ℕ → List ℕ → List ℕ
measurement_of chained measured_id digest = cond chained measured_id digest

-- the string that is hashed: UDS (32), domain (1), measurement (32), then USS (32) if used
unfoldable pub cdi_string : List ℕ → Bool → List ℕ → List ℕ → Bool → List ℕ → List ℕ
cdi_string uds chained measured_id digest used uss =
    uds ++ domain_of used chained ∷ measurement_of chained measured_id digest ++ cond used uss []

-- its BLAKE2s-256
unfoldable pub cdi_of : List ℕ → Bool → List ℕ → List ℕ → Bool → List ℕ → List ℕ
cdi_of uds chained measured_id digest used uss = blake2s [] (cdi_string uds chained measured_id digest used uss) 32

-- the same of a measured_id and a user secret that may not be there
abbrev pub cdi_from : List ℕ → Option (List ℕ) → List ℕ → Option (List ℕ) → List ℕ
cdi_from uds measured_id digest uss =
    cdi_of uds (is_some measured_id) (unwrap_or measured_id (zeros 32)) digest (is_some uss) (unwrap_or uss (zeros 32))
