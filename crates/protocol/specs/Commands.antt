-- What a load and a block say: document 01, "Commands and replies". A frame is the list of its bytes, so that a position is the paper's: the
-- header is 0 and the command byte 1.
use Rattle.std.specs.Prelude.{ℕ, ◌+◌, ◌-◌, ◌*◌, ◌/◌, min, Bool, ◌&&◌, List, ◌∷◌, eqb, leb, get_or, take, drop}
use Rattle.endian.specs.Endian.{word}
use Rattle.protocol.specs.declared.Frame.{Frame}
use Rattle.protocol.specs.declared.Load.{Load}

-- a program has 1 to 131,072 bytes, and so has RAM
abbrev pub longest : ℕ
longest = 131072

abbrev pub length_ok : ℕ → Bool
length_ok n = leb 1 n && leb n longest

abbrev pub bytes_of : Frame → List ℕ
bytes_of f = f.header ∷ f.body

-- the endpoint of the firmware
abbrev pub firmware : ℕ
firmware = 2

abbrev pub command_in : List ℕ → ℕ
command_in f = get_or f 1 0

-- bytes 2 to 5 are the size, byte 6 the flag, 7 to 38 the user secret (USS); bytes from 39 on are ignored
unfoldable pub load_in : List ℕ → Load
load_in f = record { size = word f 2; flag = get_or f 6 0; uss = take 32 (drop 7 f) }

-- a size of 0, or over the RAM's length m, is bad, and so is a flag other than 0 or 1 (change request 2)
abbrev pub good_load : ℕ → Load → Bool
good_load m l = leb 1 l.size && leb l.size m && leb l.flag 1

-- flag 1 means that the USS is used, flag 0 none
abbrev pub uses_uss : Load → Bool
uses_uss l = eqb l.flag 1

-- a block carries the 127 bytes after the command byte
abbrev pub carried_by : List ℕ → List ℕ
carried_by f = drop 2 f

-- ceil(n / 127)
abbrev pub blocks_for : ℕ → ℕ
blocks_for n = (n + 126) / 127

-- block k, from 0, carries program bytes 127k to 127k + 126
abbrev pub place_of : ℕ → ℕ
place_of k = 127 * k

-- as many of them as are below n
abbrev pub count_in : ℕ → ℕ → ℕ
count_in n k = min 127 (n - place_of k)

-- block ceil(n / 127) - 1 is the last
abbrev pub is_last : ℕ → ℕ → Bool
is_last n k = eqb (blocks_for n) (k + 1)
