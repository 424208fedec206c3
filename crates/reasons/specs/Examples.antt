-- Literal bytes that each reason comes up with.
use Rattle.std.specs.Prelude.{ℕ, ◌≡◌, List, [], ◌∷◌, ◌++◌}
use Rattle.endian.specs.Lists.{zeros}
use Rattle.diagnosis.specs.Reasons.{Reason, refused, stopped, unfinished, waiting, missing, started, Explained}
use Rattle.diagnosis.specs.Monitor.{diagnosis}

pub record Example : Type 0 where
  pub rec : List ℕ
  pub ram : ℕ
  pub bytes : List ℕ
  pub tells : Explained

-- it is what a diagnosis tells
abbrev pub Told : Example → Type 0
Told e = diagnosis e.rec e.ram e.bytes ≡ e.tells

-- a record of type t with the digest d
abbrev record_of : ℕ → List ℕ → List ℕ
record_of t d = t ∷ 0 ∷ 0 ∷ 0 ∷ zeros 4 ++ (d ++ zeros 216)

-- one of type 5 with the first byte of its mask, and the digests d and e
abbrev record_of_two : ℕ → List ℕ → List ℕ → List ℕ
record_of_two mask d e = 5 ∷ 0 ∷ 0 ∷ 0 ∷ mask ∷ zeros 3 ++ (d ++ (zeros 32 ++ (e ++ zeros 152)))

-- BLAKE2s-256 of the one byte 0x42
abbrev digest42 : List ℕ
digest42 =
    0xb1 ∷ 0x26 ∷ 0x89 ∷ 0xdc ∷ 0x38 ∷ 0x62 ∷ 0x1e ∷ 0x98 ∷ 0xd8 ∷ 0xcc ∷ 0x05 ∷ 0x01 ∷ 0x77 ∷ 0x16 ∷ 0xab ∷ 0x17 ∷
    0xbe ∷ 0x95 ∷ 0xd9 ∷ 0x4f ∷ 0x85 ∷ 0x2d ∷ 0x93 ∷ 0x6d ∷ 0x72 ∷ 0x90 ∷ 0xa6 ∷ 0xd8 ∷ 0x4d ∷ 0xaf ∷ 0x3f ∷ 0x70 ∷ []

-- a load of n bytes, below 256, without a user secret, and a block that begins with the byte b
abbrev load : ℕ → List ℕ
load n = 0x13 ∷ 0x03 ∷ n ∷ zeros 126

abbrev block : ℕ → List ℕ
block b = 0x13 ∷ 0x05 ∷ b ∷ zeros 126

-- a reason, the number, frame and offset of the last byte that was read, and the digest of the program; without one it is zeros
abbrev weighed : Reason → ℕ → ℕ → ℕ → List ℕ → Explained
weighed r byte frame offset d = record { reason = r; byte = byte; frame = frame; offset = offset; digest = d }

abbrev told : Reason → ℕ → ℕ → ℕ → Explained
told r byte frame offset = weighed r byte frame offset (zeros 32)

-- on a record of type 4, with 1,024 bytes of RAM, and on one of type 5 with the digest d
abbrev heard : List ℕ → Explained → Example
heard bytes x = record { rec = record_of 4 (zeros 32); ram = 1024; bytes = bytes; tells = x }

abbrev heard_for : List ℕ → List ℕ → Explained → Example
heard_for d bytes x = record { rec = record_of 5 d; ram = 1024; bytes = bytes; tells = x }

abbrev pub examples : List Example
examples =
    record { rec = zeros 255; ram = 1024; bytes = []; tells = told (refused 6) 0 0 0 }
    ∷ record { rec = record_of 2 (zeros 32); ram = 0; bytes = []; tells = told (refused 7) 0 0 0 }
    ∷ record { rec = record_of 2 (zeros 32); ram = 1024; bytes = []; tells = told (refused 48) 0 0 0 }
    ∷ record { rec = record_of 6 (zeros 32); ram = 1024; bytes = 0x90 ∷ []; tells = told (stopped 20 0) 0 0 0 }
    -- bit 7 of a header; and bit 2, after a frame of four bytes for the application
    ∷ heard (0x90 ∷ []) (told (stopped 22 1) 1 1 0)
    ∷ heard (0x19 ∷ 0x90 ∷ 0x90 ∷ 0x90 ∷ 0x90 ∷ 0x14 ∷ []) (told (stopped 22 6) 6 2 0)
    -- a block's command before a load, of a wrong length too: 23 comes first; and a name query after a load
    ∷ heard (0x10 ∷ 0x05 ∷ []) (told (stopped 23 2) 2 1 1)
    ∷ heard (load 1 ++ (0x10 ∷ 0x01 ∷ [])) (told (stopped 23 131) 131 2 1)
    -- a load's command with a body of one byte; and a block's with four
    ∷ heard (0x10 ∷ 0x03 ∷ []) (told (stopped 24 2) 2 1 1)
    ∷ heard (load 1 ++ (0x11 ∷ 0x05 ∷ 0 ∷ 0 ∷ 0 ∷ [])) (told (stopped 24 134) 134 2 4)
    ∷ heard_for (zeros 32) (load 1 ++ block 0x42) (weighed (stopped 25 258) 258 2 128 digest42)
    -- one byte of a query, or of a frame for the application
    ∷ heard (0x10 ∷ []) (told unfinished 1 1 0)
    ∷ heard (load 254 ++ (0x18 ∷ [])) (told unfinished 130 2 0)
    -- nothing at all; and a load that is too large
    ∷ heard [] (told waiting 0 0 0)
    ∷ record { rec = record_of 4 (zeros 32); ram = 100; bytes = load 254; tells = told waiting 129 1 128 }
    ∷ heard (load 254) (told (missing 2) 129 1 128)
    ∷ heard (load 254 ++ block 0x42) (told (missing 1) 258 2 128)
    -- what comes after a start is not read
    ∷ heard_for digest42 (load 1 ++ (block 0x42 ++ (0x90 ∷ []))) (weighed started 258 2 128 digest42)
    -- the second digest, with mask bit 1 and without
    ∷ record { rec = record_of_two 2 (zeros 32) digest42; ram = 1024; bytes = load 1 ++ block 0x42; tells = weighed started 258 2 128 digest42 }
    ∷ record { rec = record_of_two 1 (zeros 32) digest42; ram = 1024; bytes = load 1 ++ block 0x42; tells = weighed (stopped 25 258) 258 2 128 digest42 }
    ∷ []
