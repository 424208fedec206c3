-- How document 01 reads the bytes of a session: "The words of demand 3", sentence by sentence, with change request 6. Nothing here knows of a head
-- or of its state. A frame is the list of its bytes, the header first.
use Rattle.std.specs.Prelude.{ℕ, ◌+◌, ◌≡◌, ◌⊎◌, Bool, true, false, cond, eqb, length, get_or, take, drop}
use mathlib.Core.List.{List, [], ◌∷◌, ◌++◌, flatten}
use Rattle.endian.specs.Lists.{All}
use Rattle.framing.specs.Header.{good, header_at, in_field, endpoint}
use Rattle.rfc7693.specs.Rfc7693.{blake2s}
use Rattle.protocol.specs.Commands.{firmware, command_in, load_in, good_load, carried_by, blocks_for}
use Rattle.record.specs.Record.{type_field, mask_field, first_digest_field, measured_id_field, second_digest_field, reset_seed, has_second, field_of, number_in}

-- a good frame: a header with bits 7 and 2 zero, then a body of the length that it gives; it is whole when all of that body is there
pub record Good (f : List ℕ) : Type 0 where
  pub id : ℕ
  pub ep : ℕ
  pub n : ℕ
  pub header : header_at (get_or f 0 0) ≡ good id ep n
  pub whole : length f ≡ 1 + n

-- a frame with endpoint 2
abbrev pub for_firmware : List ℕ → Bool
for_firmware f = eqb (in_field endpoint (get_or f 0 0)) firmware

-- the frames with endpoint 2: the others are left out
abbrev pub own : List (List ℕ) → List (List ℕ)
own [] = []
own (f ∷ fs) = cond (for_firmware f) (f ∷ own fs) (own fs)

abbrev pub body_of : List ℕ → List ℕ
body_of f = drop 1 f

-- a query has a body of 1 byte, 0x01 or 0x08
abbrev pub QueryFrame : List ℕ → Type 0
QueryFrame f = (length (body_of f) ≡ 1) × ((command_in f ≡ 0x01) ⊎ (command_in f ≡ 0x08))

-- a load has a body of 128 that begins with 0x03
abbrev pub LoadFrame : List ℕ → Type 0
LoadFrame f = (length (body_of f) ≡ 128) × (command_in f ≡ 0x03)

-- good or bad by its size and its flag; m is the RAM's length at begin
abbrev pub GoodLoad : ℕ → List ℕ → Type 0
GoodLoad m f = LoadFrame f × (good_load m (load_in f) ≡ true)

abbrev pub BadLoad : ℕ → List ℕ → Type 0
BadLoad m f = LoadFrame f × (good_load m (load_in f) ≡ false)

-- what may come before the good load
abbrev pub Opens : ℕ → List ℕ → Type 0
Opens m f = QueryFrame f ⊎ BadLoad m f

-- a block has a body of 128 that begins with 0x05 and carries the other 127 bytes
abbrev pub BlockFrame : List ℕ → Type 0
BlockFrame f = (length (body_of f) ≡ 128) × (command_in f ≡ 0x05)

-- the bytes that blocks carry, in order
abbrev pub carried : List (List ℕ) → List ℕ
carried [] = []
carried (f ∷ fs) = carried_by f ++ carried fs

-- the size that a load gives
abbrev pub size_of : List ℕ → ℕ
size_of load = (load_in load).size

-- the first n bytes carried
abbrev pub program_of : List ℕ → List (List ℕ) → List ℕ
program_of load blocks = take (size_of load) (carried blocks)

abbrev pub digest_of : List ℕ → List (List ℕ) → List ℕ
digest_of load blocks = blake2s [] (program_of load blocks) 32

-- the type of a record
abbrev pub type_of : List ℕ → ℕ
type_of rec = number_in type_field rec

-- mask bit 0: chained if it is 1, direct if it is 0
abbrev pub chained : List ℕ → Bool
chained rec = reset_seed (number_in mask_field rec)

-- the digest is one of the record's: bytes 8 to 39 or, with mask bit 1, bytes 72 to 103
abbrev pub Recorded : List ℕ → List ℕ → Type 0
Recorded rec d = (d ≡ field_of first_digest_field rec) ⊎ ((has_second (number_in mask_field rec) ≡ true) × (d ≡ field_of second_digest_field rec))

-- a program of this digest may start: type 0 allows the built-in digest only, types 2, 3 and 5 those of the record, and types 1 and 4 any
pub record Allowed (rec built_in_digest d : List ℕ) : Type 0 where
  pub built_in : type_of rec ≡ 0 → d ≡ built_in_digest
  pub recorded : (type_of rec ≡ 2) ⊎ ((type_of rec ≡ 3) ⊎ (type_of rec ≡ 5)) → Recorded rec d

abbrev pub measured_id : List ℕ → List ℕ
measured_id rec = field_of measured_id_field rec

-- frames with endpoint 2: queries and bad loads in any order and number, one good load, then blocks
pub record Loads (m : ℕ) (os : List (List ℕ)) : Type 0 where
  pub opening : List (List ℕ)
  pub load : List ℕ
  pub blocks : List (List ℕ)
  pub order : os ≡ opening ++ load ∷ blocks
  pub opens : All (Opens m) opening
  pub loads : GoodLoad m load
  pub carry : All BlockFrame blocks

-- how many blocks the program needs: ceil(n / 127)
abbrev pub needed : {m : ℕ} {os : List (List ℕ)} → Loads m os → ℕ
needed l = blocks_for (size_of l.load)

-- the accepted bytes of a session that has started, for the record, the built-in digest and the RAM's length at begin
pub record Starting (rec built_in : List ℕ) (m : ℕ) (received : List ℕ) : Type 0 where
  -- whole good frames one after the other, with nothing left over, and the last is a block
  pub before : List (List ℕ)
  pub last : List ℕ
  pub all_good : All Good (before ++ last ∷ [])
  pub nothing_left : received ≡ flatten (before ++ last ∷ [])
  pub last_own : for_firmware last ≡ true
  pub last_block : BlockFrame last
  -- those with endpoint 2 load, and all blocks have come
  pub loading : Loads m (own (before ++ last ∷ []))
  pub enough : length loading.blocks ≡ needed loading
  -- the digest of the first n bytes carried is allowed
  pub allowed : Allowed rec built_in (digest_of loading.load loading.blocks)
