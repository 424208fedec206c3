-- BLAKE2s after RFC 7693, in the RFC's order and with its letters. An array is a list, a word a number below 2**32, a byte one below 2**8.
-- Comments have the RFC's signs: its 2**n is `2 ^ n` here, its a ^ b is `bit_xor a b`, its a mod b is `a % b` and its v[i] is `get_or v i 0`.
use Rattle.std.specs.Prelude.{ℕ, ◌+◌, ◌-◌, ◌*◌, ◌/◌, ◌%◌, ◌^◌, ◌≡◌, Bool, true, false, cond, eqb, length, get_or, set, take, drop}
use mathlib.Core.List.{List, [], ◌∷◌, ◌++◌, foldl}
use Rattle.std.specs.Int.Bits.{bit_xor}
use Rattle.endian.specs.Lists.{each, padded}
use Rattle.endian.specs.Endian.{word, bytes}

-- 2.1: BLAKE2s has words of w bits, blocks of bb bytes and the rotations R1 to R4. It has r = 10 rounds, one for each row of
-- SIGMA. The ranges of nn, kk and ll, the bytes of hash, key and message, are in `blake2s`, specs/Hash.antt
abbrev pub w : ℕ
w = 32

abbrev pub bb : ℕ
bb = 64

abbrev pub R1 : ℕ
R1 = 16

abbrev pub R2 : ℕ
R2 = 12

abbrev pub R3 : ℕ
R3 = 8

abbrev pub R4 : ℕ
R4 = 7

-- 2.3: ceil(n / bb); every other quotient is rounded down
abbrev pub ceil : ℕ → ℕ
ceil n = (n + (bb - 1)) / bb

-- 2.3: x >> n
abbrev pub shr : ℕ → ℕ → ℕ
shr x n = x / 2 ^ n

-- 2.3: x << n
abbrev pub shl : ℕ → ℕ → ℕ
shl x n = x * 2 ^ n % 2 ^ w

-- 2.3: x >>> n
unfoldable pub rotr : ℕ → ℕ → ℕ
rotr x n = bit_xor (shr x n) (shl x (w - n))

-- 2.4: the sixteen words m[0..15] of a block of bytes. A word as four bytes, and the 32 bytes of the words h[0..7], are `word` and `bytes` of
-- `endian`
unfoldable pub words : List ℕ → List ℕ
words x = each 16 (λ i. word x (4 * i))

-- 2.6: the initialization vector IV, by the values of appendix D
unfoldable pub iv : List ℕ
iv =
    0x6a09e667 ∷ 0xbb67ae85 ∷ 0x3c6ef372 ∷ 0xa54ff53a ∷
    0x510e527f ∷ 0x9b05688c ∷ 0x1f83d9ab ∷ 0x5be0cd19 ∷ []

-- 2.7: the message word permutations SIGMA[0..9]
unfoldable pub sigma : List (List ℕ)
sigma =
    (0 ∷ 1 ∷ 2 ∷ 3 ∷ 4 ∷ 5 ∷ 6 ∷ 7 ∷ 8 ∷ 9 ∷ 10 ∷ 11 ∷ 12 ∷ 13 ∷ 14 ∷ 15 ∷ []) ∷
    (14 ∷ 10 ∷ 4 ∷ 8 ∷ 9 ∷ 15 ∷ 13 ∷ 6 ∷ 1 ∷ 12 ∷ 0 ∷ 2 ∷ 11 ∷ 7 ∷ 5 ∷ 3 ∷ []) ∷
    (11 ∷ 8 ∷ 12 ∷ 0 ∷ 5 ∷ 2 ∷ 15 ∷ 13 ∷ 10 ∷ 14 ∷ 3 ∷ 6 ∷ 7 ∷ 1 ∷ 9 ∷ 4 ∷ []) ∷
    (7 ∷ 9 ∷ 3 ∷ 1 ∷ 13 ∷ 12 ∷ 11 ∷ 14 ∷ 2 ∷ 6 ∷ 5 ∷ 10 ∷ 4 ∷ 0 ∷ 15 ∷ 8 ∷ []) ∷
    (9 ∷ 0 ∷ 5 ∷ 7 ∷ 2 ∷ 4 ∷ 10 ∷ 15 ∷ 14 ∷ 1 ∷ 11 ∷ 12 ∷ 6 ∷ 8 ∷ 3 ∷ 13 ∷ []) ∷
    (2 ∷ 12 ∷ 6 ∷ 10 ∷ 0 ∷ 11 ∷ 8 ∷ 3 ∷ 4 ∷ 13 ∷ 7 ∷ 5 ∷ 15 ∷ 14 ∷ 1 ∷ 9 ∷ []) ∷
    (12 ∷ 5 ∷ 1 ∷ 15 ∷ 14 ∷ 13 ∷ 4 ∷ 10 ∷ 0 ∷ 7 ∷ 6 ∷ 3 ∷ 9 ∷ 2 ∷ 8 ∷ 11 ∷ []) ∷
    (13 ∷ 11 ∷ 7 ∷ 14 ∷ 12 ∷ 1 ∷ 3 ∷ 9 ∷ 5 ∷ 0 ∷ 15 ∷ 4 ∷ 8 ∷ 6 ∷ 2 ∷ 10 ∷ []) ∷
    (6 ∷ 15 ∷ 14 ∷ 9 ∷ 11 ∷ 3 ∷ 0 ∷ 8 ∷ 12 ∷ 2 ∷ 13 ∷ 7 ∷ 1 ∷ 4 ∷ 10 ∷ 5 ∷ []) ∷
    (10 ∷ 2 ∷ 8 ∷ 4 ∷ 7 ∷ 6 ∷ 1 ∷ 5 ∷ 15 ∷ 11 ∷ 9 ∷ 14 ∷ 3 ∷ 12 ∷ 13 ∷ 0 ∷ []) ∷ []

-- 3.1: v[a] := (v[a] + v[b] + x) mod 2**w; for v[c] := (v[c] + v[d]) mod 2**w x is 0
unfoldable pub added : List ℕ → ℕ → ℕ → ℕ → List ℕ
added v a b x = set v a ((get_or v a 0 + get_or v b 0 + x) % 2 ^ w)

-- 3.1: v[d] := (v[d] ^ v[a]) >>> n
unfoldable pub xor_rotated : List ℕ → ℕ → ℕ → ℕ → List ℕ
xor_rotated v d a n = set v d (rotr (bit_xor (get_or v d 0) (get_or v a 0)) n)

-- 3.1: the mixing function G; v1 to v7 are v after each line but the last
unfoldable pub G : List ℕ → ℕ → ℕ → ℕ → ℕ → ℕ → ℕ → List ℕ
G v a b c d x y =
    let v1 = added v a b x in
    let v2 = xor_rotated v1 d a R1 in
    let v3 = added v2 c d 0 in
    let v4 = xor_rotated v3 b c R2 in
    let v5 = added v4 a b y in
    let v6 = xor_rotated v5 d a R3 in
    let v7 = added v6 c d 0 in
    xor_rotated v7 b c R4

-- 3.2: the local work vector v[0..15] of F, from the state h, the offset counter t and the flag f of the final block
unfoldable pub work_vector : List ℕ → ℕ → Bool → List ℕ
work_vector h t f =
    let v0 = h ++ iv in
    let v1 = set v0 12 (bit_xor (get_or v0 12 0) (t % 2 ^ w)) in
    let v2 = set v1 13 (bit_xor (get_or v1 13 0) (shr t w)) in
    cond f (set v2 14 (bit_xor (get_or v2 14 0) (2 ^ w - 1))) v2

-- 3.2: m[s[j]]
abbrev pub selected : List ℕ → List ℕ → ℕ → ℕ
selected m s j = get_or m (get_or s j 0) 0

-- 3.2: a round, one turn of F's loop, with the message words m in the order s: the four columns, then the four diagonals
unfoldable pub round : List ℕ → List ℕ → List ℕ → List ℕ
round m s v =
    let v1 = G v 0 4 8 12 (selected m s 0) (selected m s 1) in
    let v2 = G v1 1 5 9 13 (selected m s 2) (selected m s 3) in
    let v3 = G v2 2 6 10 14 (selected m s 4) (selected m s 5) in
    let v4 = G v3 3 7 11 15 (selected m s 6) (selected m s 7) in
    let v5 = G v4 0 5 10 15 (selected m s 8) (selected m s 9) in
    let v6 = G v5 1 6 11 12 (selected m s 10) (selected m s 11) in
    let v7 = G v6 2 7 8 13 (selected m s 12) (selected m s 13) in
    G v7 3 4 9 14 (selected m s 14) (selected m s 15)

-- 3.2 as a table (change request 4): the positions a, b, c, d of a round's mixings, columns and then diagonals. The code goes by it; the hash
-- is defined by the round above.
unfoldable pub positions : List (List ℕ)
positions =
    (0 ∷ 4 ∷ 8 ∷ 12 ∷ []) ∷
    (1 ∷ 5 ∷ 9 ∷ 13 ∷ []) ∷
    (2 ∷ 6 ∷ 10 ∷ 14 ∷ []) ∷
    (3 ∷ 7 ∷ 11 ∷ 15 ∷ []) ∷
    (0 ∷ 5 ∷ 10 ∷ 15 ∷ []) ∷
    (1 ∷ 6 ∷ 11 ∷ 12 ∷ []) ∷
    (2 ∷ 7 ∷ 8 ∷ 13 ∷ []) ∷
    (3 ∷ 4 ∷ 9 ∷ 14 ∷ []) ∷ []

-- mixing i of a round, at row i of the table, with the message words m[s[2i]] and m[s[2i + 1]]
unfoldable pub mixing : List ℕ → List ℕ → List ℕ → ℕ → List ℕ
mixing m s v i =
    let p = get_or positions i [] in
    G v (get_or p 0 0) (get_or p 1 0) (get_or p 2 0) (get_or p 3 0) (selected m s (2 * i)) (selected m s (2 * i + 1))

-- what is proved of it (`by_table` of `hashing`): the mixings at its rows, from the first to the last, are the round as printed
abbrev pub TableRound : Type 0
TableRound = (m s v : List ℕ) → foldl (mixing m s) v (each (length positions) (λ i. i)) ≡ round m s v

-- 3.2: the rounds, one for each order s in turn. With r = 10 SIGMA[i mod 10] is SIGMA[i], so F goes through SIGMA once
unfoldable pub rounds : List ℕ → List (List ℕ) → List ℕ → List ℕ
rounds m ss v = foldl (λ u s. round m s u) v ss

-- 3.2: the compression function F
unfoldable pub F : List ℕ → List ℕ → ℕ → Bool → List ℕ
F h m t f =
    let v = rounds m sigma (work_vector h t f) in
    each 8 (λ i. bit_xor (bit_xor (get_or h i 0) (get_or v i 0)) (get_or v (i + 8) 0))

-- 3.3: the bytes of d[0..dd-1] on end, but for the padding of the final block: a key, padded, is d[0], and the message follows
unfoldable pub input : List ℕ → List ℕ → List ℕ
input [] msg = msg
input (k ∷ ks) msg = padded bb (k ∷ ks) ++ msg

-- 3.3: the block d[i], where d is given as those bytes; the final one is padded, and where there are none d[0] is all zeros
unfoldable pub block_at : List ℕ → ℕ → List ℕ
block_at d i = padded bb (take bb (drop (bb * i) d))

-- 3.3: the number dd of blocks, for a key of kk and a message of ll bytes: 1 where kk = 0 and ll = 0
unfoldable pub block_count : ℕ → ℕ → ℕ
block_count kk ll = cond (eqb (kk + ll) 0) 1 (ceil kk + ceil ll)

-- 3.3: a call of F: its block d[i], its offset counter t and its flag f
pub record Compression : Type 0 where
  pub block : List ℕ
  pub counter : ℕ
  pub last : Bool

-- 3.3: the calls for d[0] to d[n - 1], none of them final, with t = (i + 1) * bb; bytes before d, which only a hash in parts has, count too
unfoldable pub leading : ℕ → ℕ → List ℕ → List Compression
leading n before d = each n (λ i. record { block = block_at d i; counter = before + (i + 1) * bb; last = false })

-- 3.3: all calls of F for a key and a message: those for d[0] to d[dd - 2], and the final one with t = ll or, if there is a key, ll + bb
unfoldable pub compressions : List ℕ → List ℕ → List Compression
compressions key msg =
    let kk = length key in
    let ll = length msg in
    let d = input key msg in
    let dd = block_count kk ll in
    let t = cond (eqb kk 0) ll (ll + bb) in
    leading (dd - 1) 0 d ++ record { block = block_at d (dd - 1); counter = t; last = true } ∷ []

-- 3.3: the state h after some calls of F
unfoldable pub compressed : List ℕ → List Compression → List ℕ
compressed h cs = foldl (λ g c. F g (words c.block) c.counter c.last) h cs

-- 3.3: the first state: IV, and in h[0] the parameter block's p[0] = 0x0101kknn of 2.5, whose other words are 0
unfoldable pub initial : ℕ → ℕ → List ℕ
initial kk nn = set iv 0 (bit_xor (bit_xor (bit_xor (get_or iv 0 0) 0x01010000) (shl kk 8)) nn)

-- 3.3: BLAKE2s with a key of up to 32 bytes, empty for none, and a hash of nn bytes, 1 to 32. The RFC's function takes d, ll and kk, which
-- are made from key and message here
unfoldable pub blake2s : List ℕ → List ℕ → ℕ → List ℕ
blake2s key msg nn = take nn (bytes (compressed (initial (length key) nn) (compressions key msg)))
