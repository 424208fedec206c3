-- What is proved about the definition of RFC 7693. The proofs are `examples`, `trace` and `hashing` in proofs/Proved.antt.
use Rattle.std.specs.Prelude.{ℕ, suc, ◌+◌, ◌*◌, ◌^◌, ◌<◌, ◌≤◌, ◌≡◌, Bool, true, cond, List, [], ◌∷◌, ◌++◌, eqb, length, get_or, take, drop}
use Rattle.std.specs.Int.Bits.{bit_xor}
use Rattle.endian.specs.Lists.{each, padded}
use Rattle.rfc7693.specs.Rfc7693.{bb, ceil, words, iv, sigma, work_vector, TableRound, rounds, F, input, Compression, leading, compressions, initial, blake2s}

-- the message of RFC 7693's appendix B, "abc"
abbrev pub message : List ℕ
message = 97 ∷ 98 ∷ 99 ∷ []

-- the definition of RFC 7693, computed on published examples
pub record Examples : Type 0 where
  -- RFC 7693, appendix B
  pub abc : blake2s [] message 32 ≡
      0x50 ∷ 0x8c ∷ 0x5e ∷ 0x8c ∷ 0x32 ∷ 0x7c ∷ 0x14 ∷ 0xe2 ∷
      0xe1 ∷ 0xa7 ∷ 0x2b ∷ 0xa3 ∷ 0x4e ∷ 0xeb ∷ 0x45 ∷ 0x2f ∷
      0x37 ∷ 0x45 ∷ 0x8b ∷ 0x20 ∷ 0x9e ∷ 0xd6 ∷ 0x3a ∷ 0x29 ∷
      0x4d ∷ 0x99 ∷ 0x9b ∷ 0x4c ∷ 0x86 ∷ 0x67 ∷ 0x59 ∷ 0x82 ∷ []
  -- the first of the known answers that BLAKE2 is published with: the key 0, 1, .., 31 and no message
  pub keyed : blake2s (each 32 (λ i. i)) [] 32 ≡
      0x48 ∷ 0xa8 ∷ 0x99 ∷ 0x7d ∷ 0xa4 ∷ 0x07 ∷ 0x87 ∷ 0x6b ∷
      0x3d ∷ 0x79 ∷ 0xc0 ∷ 0xd9 ∷ 0x23 ∷ 0x25 ∷ 0xad ∷ 0x3b ∷
      0x89 ∷ 0xcb ∷ 0xb7 ∷ 0x54 ∷ 0xd8 ∷ 0x6a ∷ 0xb7 ∷ 0x1a ∷
      0xee ∷ 0x04 ∷ 0x7a ∷ 0xd3 ∷ 0x45 ∷ 0xfd ∷ 0x2c ∷ 0x49 ∷ []

-- appendix B as printed: v[16] before the first round (i=0) and after each of the ten (i=1 to i=10)
unfoldable pub printed : List (List ℕ)
printed =
    -- (i=0)
    (0x6B08E647 ∷ 0xBB67AE85 ∷ 0x3C6EF372 ∷ 0xA54FF53A ∷ 0x510E527F ∷ 0x9B05688C ∷
    0x1F83D9AB ∷ 0x5BE0CD19 ∷ 0x6A09E667 ∷ 0xBB67AE85 ∷ 0x3C6EF372 ∷ 0xA54FF53A ∷
    0x510E527C ∷ 0x9B05688C ∷ 0xE07C2654 ∷ 0x5BE0CD19 ∷ []) ∷
    -- (i=1)
    (0x16A3242E ∷ 0xD7B5E238 ∷ 0xCE8CE24B ∷ 0x927AEDE1 ∷ 0xA7B430D9 ∷ 0x93A4A14E ∷
    0xA44E7C31 ∷ 0x41D4759B ∷ 0x95BF33D3 ∷ 0x9A99C181 ∷ 0x608A3A6B ∷ 0xB666383E ∷
    0x7A8DD50F ∷ 0xBE378ED7 ∷ 0x353D1EE6 ∷ 0x3BB44C6B ∷ []) ∷
    -- (i=2)
    (0x3AE30FE3 ∷ 0x0982A96B ∷ 0xE88185B4 ∷ 0x3E339B16 ∷ 0xF24338CD ∷ 0x0E66D326 ∷
    0xE005ED0C ∷ 0xD591A277 ∷ 0x180B1F3A ∷ 0xFCF43914 ∷ 0x30DB62D6 ∷ 0x4847831C ∷
    0x7F00C58E ∷ 0xFB847886 ∷ 0xC544E836 ∷ 0x524AB0E2 ∷ []) ∷
    -- (i=3)
    (0x7A3BE783 ∷ 0x997546C1 ∷ 0xD45246DF ∷ 0xEDB5F821 ∷ 0x7F98A742 ∷ 0x10E864E2 ∷
    0xD4AB70D0 ∷ 0xC63CB1AB ∷ 0x6038DA9E ∷ 0x414594B0 ∷ 0xF2C218B5 ∷ 0x8DA0DCB7 ∷
    0xD7CD7AF5 ∷ 0xAB4909DF ∷ 0x85031A52 ∷ 0xC4EDFC98 ∷ []) ∷
    -- (i=4)
    (0x2A8B8CB7 ∷ 0x1ACA82B2 ∷ 0x14045D7F ∷ 0xCC7258ED ∷ 0x383CF67C ∷ 0xE090E7F9 ∷
    0x3025D276 ∷ 0x57D04DE4 ∷ 0x994BACF0 ∷ 0xF0982759 ∷ 0xF17EE300 ∷ 0xD48FC2D5 ∷
    0xDC854C10 ∷ 0x523898A9 ∷ 0xC03A0F89 ∷ 0x47D6CD88 ∷ []) ∷
    -- (i=5)
    (0xC4AA2DDB ∷ 0x111343A3 ∷ 0xD54A700A ∷ 0x574A00A9 ∷ 0x857D5A48 ∷ 0xB1E11989 ∷
    0x6F5C52DF ∷ 0xDD2C53A3 ∷ 0x678E5F8E ∷ 0x9718D4E9 ∷ 0x622CB684 ∷ 0x92976076 ∷
    0x0E41A517 ∷ 0x359DC2BE ∷ 0x87A87DDD ∷ 0x643F9CEC ∷ []) ∷
    -- (i=6)
    (0x3453921C ∷ 0xD7595EE1 ∷ 0x592E776D ∷ 0x3ED6A974 ∷ 0x4D997CB3 ∷ 0xDE9212C3 ∷
    0x35ADF5C9 ∷ 0x9916FD65 ∷ 0x96562E89 ∷ 0x4EAD0792 ∷ 0xEBFC2712 ∷ 0x2385F5B2 ∷
    0xF34600FB ∷ 0xD7BC20FB ∷ 0xEB452A7B ∷ 0xECE1AA40 ∷ []) ∷
    -- (i=7)
    (0xBE851B2D ∷ 0xA85F6358 ∷ 0x81E6FC3B ∷ 0x0BB28000 ∷ 0xFA55A33A ∷ 0x87BE1FAD ∷
    0x4119370F ∷ 0x1E2261AA ∷ 0xA1318FD3 ∷ 0xF4329816 ∷ 0x071783C2 ∷ 0x6E536A8D ∷
    0x9A81A601 ∷ 0xE7EC80F1 ∷ 0xACC09948 ∷ 0xF849A584 ∷ []) ∷
    -- (i=8)
    (0x07E5B85A ∷ 0x069CC164 ∷ 0xF9DE3141 ∷ 0xA56F4680 ∷ 0x9E440AD2 ∷ 0x9AB659EA ∷
    0x3C84B971 ∷ 0x21DBD9CF ∷ 0x46699F8C ∷ 0x765257EC ∷ 0xAF1D998C ∷ 0x75E4C3B6 ∷
    0x523878DC ∷ 0x30715015 ∷ 0x397FEE81 ∷ 0x4F1FA799 ∷ []) ∷
    -- (i=9)
    (0x435148C4 ∷ 0xA5AA2D11 ∷ 0x4B354173 ∷ 0xD543BC9E ∷ 0xBDA2591C ∷ 0xBF1D2569 ∷
    0x4FCB3120 ∷ 0x707ADA48 ∷ 0x565B3FDE ∷ 0x32C9C916 ∷ 0xEAF4A1AB ∷ 0xB1018F28 ∷
    0x8078D978 ∷ 0x68ADE4B5 ∷ 0x9778FDA3 ∷ 0x2863B92E ∷ []) ∷
    -- (i=10)
    (0xD9C994AA ∷ 0xCFEC3AA6 ∷ 0x700D0AB2 ∷ 0x2C38670E ∷ 0xAF6A1F66 ∷ 0x1D023EF3 ∷
    0x1D9EC27D ∷ 0x945357A5 ∷ 0x3E9FFEBD ∷ 0x969FE811 ∷ 0xEF485E21 ∷ 0xA632797A ∷
    0xDEEF082E ∷ 0xAF3D80E1 ∷ 0x4E86829B ∷ 0x4DEAFD3A ∷ []) ∷ []

-- what appendix B prints of the hash on the way, computed from the definition
pub record Trace : Type 0 where
  -- F is called once, with t = 3 and f = TRUE
  pub call : compressions [] message ≡ record { block = padded bb message; counter = 3; last = true } ∷ []
  pub m : words (padded bb message) ≡
      0x00636261 ∷ 0x00000000 ∷ 0x00000000 ∷ 0x00000000 ∷ 0x00000000 ∷ 0x00000000 ∷
      0x00000000 ∷ 0x00000000 ∷ 0x00000000 ∷ 0x00000000 ∷ 0x00000000 ∷ 0x00000000 ∷
      0x00000000 ∷ 0x00000000 ∷ 0x00000000 ∷ 0x00000000 ∷ []
  pub v : each 11 (λ i. rounds (words (padded bb message)) (take i sigma) (work_vector (initial 0 32) 3 true)) ≡ printed
  pub h : F (initial 0 32) (words (padded bb message)) 3 true ≡
      0x8C5E8C50 ∷ 0xE2147C32 ∷ 0xA32BA7E1 ∷ 0x2F45EB4E ∷ 0x208B4537 ∷ 0x293AD69E ∷
      0x4C9B994D ∷ 0x82596786 ∷ []

-- how often k stands in a list
unfoldable pub times : ℕ → List ℕ → ℕ
times k [] = 0
times k (x ∷ xs) = cond (eqb k x) 1 0 + times k xs

pub record Hashing : Type 0 where
  -- RFC 7693, 2.7: there are ten orders, each a permutation of the sixteen places
  pub orders : length sigma ≡ 10
  pub permutation : (r : ℕ) → r < 10 → (length (get_or sigma r []) ≡ 16) × ((k : ℕ) → k < 16 → times k (get_or sigma r []) ≡ 1)
  -- RFC 7693, 3.2: the round over the table of positions is the round as printed
  pub by_table : TableRound
  -- document 01, "Hashing": the number of compressions
  pub empty : length (compressions [] []) ≡ 1
  pub unkeyed : (msg : List ℕ) → 0 < length msg → length (compressions [] msg) ≡ ceil (length msg)
  pub keyed : (key msg : List ℕ) → 0 < length key → length key ≤ 32 → length (compressions key msg) ≡ 1 + ceil (length msg)
  -- no block is added after a full one: where the input ends with its block k, that is the final block
  pub full : (key msg : List ℕ) (k : ℕ) → length key ≤ 32 → length (input key msg) ≡ bb * suc k
      → compressions key msg
      ≡ leading k 0 (input key msg) ++ record { block = drop (bb * k) (input key msg); counter = length (input key msg); last = true } ∷ []
  -- the longest message with a key: the last counter passes 2^32, and its words are 63 and 1
  pub longest : (key msg : List ℕ) → 0 < length key → length key ≤ 32 → length msg ≡ 4294967295
      → (z : Compression) (i : ℕ) → suc i ≡ length (compressions key msg) → (get_or (compressions key msg) i z).counter ≡ 2 ^ 32 + 63
  pub carry : (h : List ℕ) (f : Bool) → length h ≡ 8
      → (get_or (work_vector h (2 ^ 32 + 63) f) 12 0 ≡ bit_xor (get_or iv 4 0) 63) × (get_or (work_vector h (2 ^ 32 + 63) f) 13 0 ≡ bit_xor (get_or iv 5 0) 1)
