-- What is proved about the record besides the promise: that the number settles the type, which bits of the mask count, where the digests stand,
-- which digest is allowed, and what is not read. The proof is `records` in proofs/Proved.antt.
use Rattle.std.specs.Prelude.{ℕ, ◌+◌, ◌*◌, ◌≡◌, ◌↔◌, ◌⊎◌, Bool, true, false, cond, List, ◌++◌, length, Option}
use Rattle.endian.specs.Lists.{zeros}
use Rattle.record.specs.Record.{mask_field, data_field, number_in, type_number, reset_seed, has_second, record_at}
use Rattle.record.specs.Types.{one_of}
use Rattle.record.specs.declared.Digests.{Digests}
use Rattle.record.specs.declared.ResetType.{ResetType}

pub record Records : Type 0 where
  -- no two types share a number, and only `None` has none
  pub types : (x y : Option ResetType) → type_number x ≡ type_number y → x ≡ y
  -- bit 0 is RESET_SEED, bit 1 says that there is a second digest, and the others, k, are ignored
  pub bits : (seed second : Bool) (k : ℕ)
      → let mask = cond seed 1 0 + cond second 2 0 + 4 * k in (reset_seed mask ≡ seed) × (has_second mask ≡ second)
  -- the first digest is the 32 bytes after the first 8, measured_id the 32 after those, and the second digest, if there is one, the 32 after
  -- those, and otherwise zeros
  pub fields : (a d m e rest : List ℕ) → length a ≡ 8 → length d ≡ 32 → length m ≡ 32 → length e ≡ 32
      → let r = record_at (a ++ d ++ m ++ e ++ rest) in
      (r.digests.first ≡ d) × (r.measured_id ≡ m) × (r.digests.second ≡ cond (has_second (number_in mask_field a)) e (zeros 32))
  -- one of the allowed digests is the first or, where there is one, the second
  pub one_of_exactly : (a : Digests) (d : List ℕ) → (one_of a d ≡ true) ↔ ((d ≡ a.first) ⊎ ((a.has_second ≡ true) × (d ≡ a.second)))
  -- data is not read: what comes from byte 104 on or, where mask bit 1 is clear, from byte 72 on
  pub data_place : (data_field true ≡ record { from = 104; size = 152 }) × (data_field false ≡ record { from = 72; size = 184 })
  pub unread : (p x y : List ℕ) → length p ≡ (data_field (has_second (number_in mask_field p))).from → record_at (p ++ x) ≡ record_at (p ++ y)
