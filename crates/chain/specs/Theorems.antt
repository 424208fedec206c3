-- What is proved of chains (change request 7): begin has what the reset was asked for, the last CDI is the one worked out, what equal strings and equal CDIs
-- mean, and that there are chains. The proof is `chains` in proofs/Proved.antt.
use Rattle.std.specs.Prelude.{ℕ, ◌<◌, ◌≤◌, ◌≡◌, ◌⊎◌, Bool, true, false, List, [], ◌∷◌, ◌++◌, map, eqb, leb, length, get_or}
use Rattle.std.proofs.Math.Option.{Option, none, some}
use Rattle.rfc7693.specs.Rfc7693.{blake2s}
use Rattle.endian.specs.Lists.{All}
use Rattle.record.specs.Record.{data_field, reset_seed, has_second}
use Rattle.handover.specs.Reset.{Next, measured_id_for, written_record, resetting}
use Rattle.handover.specs.Theorems.{Typed, asked, counting}
use Rattle.head.specs.Answers.{continues}
use Rattle.head.specs.Begin.{by_type}
use Rattle.session.specs.Reading.{Allowed, chained}
use Rattle.session.specs.Session.{Reset, begun, Admitted, Entry, state_after, Among, Session, all_of, has_ended}
use Rattle.session.specs.Boot.{Same, AnyStart, from_client, from_flash, basis, start_string, user_secret}
use Rattle.chain.specs.Chain.{given_cdi, Link, Chain, last_start, input_of, folded_cdi, first_uds, first_cdi, inputs, link_strings, all_strings}

-- ---- begin on a record that a reset wrote

pub record Begins (x : Next) (measured_id : List ℕ) (R : Reset) : Type 0 where
  -- begin goes by what was asked for: it uses that and nothing else of the record
  pub by_asked : begun R ≡ by_type (asked x measured_id) R.udi R.flash R.ram R.uds
  -- types 4 and 5: it waits for a client, and has this in its state,
  pub waits : 4 ≤ x.type → (begun R).report ≡ continues
  pub config : 4 ≤ x.type → (begun R).state.config
      ≡ record {
        ram_len = length R.ram;
        measured_id = measured_id;
        udi = R.udi;
        digests = (asked x measured_id).digests;
        verify = eqb x.type 5;
        chained = reset_seed x.mask;
      }
  -- and so has every state of the session, before a start or stop
  pub stays : (S : Session) → S.reset ≡ R → (e : Entry) (i : Among e (all_of S)) → has_ended (i.before ++ e ∷ []) ≡ false
      → (state_after e).config ≡ (begun R).state.config

-- ---- an example

-- a chain of two links, the first without a user secret and the second with one; the CDI is python's, by hashlib
pub record Example : Type 0 where
  pub two_links : folded_cdi (counting 0x80) (counting 0x00)
      (record { seed = counting 0x20; secret = none } ∷ record { seed = counting 0x40; secret = some (counting 0x60) } ∷ []) ≡
      0x28 ∷ 0x64 ∷ 0xe1 ∷ 0x92 ∷ 0xd1 ∷ 0xfa ∷ 0x39 ∷ 0xba ∷ 0x39 ∷ 0xbd ∷ 0x90 ∷ 0xb2 ∷ 0xa6 ∷ 0x18 ∷ 0x49 ∷ 0xf2 ∷
      0x40 ∷ 0x4c ∷ 0x68 ∷ 0xc5 ∷ 0xcc ∷ 0x8b ∷ 0x52 ∷ 0x14 ∷ 0xd3 ∷ 0x10 ∷ 0x70 ∷ 0x6d ∷ 0x5e ∷ 0x7e ∷ 0x0d ∷ 0xca ∷ []

-- ---- two chains

-- one by one
abbrev pub Paired : {A B : Type 0} → (A → B → Type 0) → List A → List B → Type 0
Paired P [] [] = Unit {0}
Paired P [] (y ∷ ys) = ⊥
Paired P (x ∷ xs) [] = ⊥
Paired P (x ∷ xs) (y ∷ ys) = P x y × Paired P xs ys

-- what demand 3's second half gives for one start
abbrev pub SameStarts : Link → Link → Type 0
SameStarts l l' = Same (basis l.start) (basis l'.start)

-- all that the CDI at the end is made from: the first start, and seed and user secret of each link
pub record SameLine (first first' : AnyStart) (links links' : List Link) : Type 0 where
  pub starts : Same (basis first) (basis first')
  pub inputs : map input_of links ≡ map input_of links'

-- two different strings with one hash, one of each list
pub record Collision (xs ys : List (List ℕ)) : Type 0 where
  pub place : ℕ
  pub place' : ℕ
  pub within : place < length xs
  pub within' : place' < length ys
  pub differ : get_or xs place [] ≡ get_or ys place' [] → ⊥
  pub same_hash : blake2s [] (get_or xs place []) 32 ≡ blake2s [] (get_or ys place' []) 32

-- ---- there are chains

-- what a start began with, and whether it is a client's
abbrev pub begun_with : AnyStart → Reset
begun_with (from_client S t) = S.reset
begun_with (from_flash R t) = R

abbrev pub is_client : AnyStart → Bool
is_client (from_client S t) = true
is_client (from_flash R t) = false

-- a link as it is planned: the reset's arguments, the program, the user secret or none, and UDI, built-in digest and RAM of the head
pub record Plan : Type 0 where
  pub seed : List ℕ
  pub next : Next
  pub memory : List ℕ
  pub program : List ℕ
  pub secret : Option (List ℕ)
  pub udi : List ℕ
  pub built_in : List ℕ
  pub ram : List ℕ

-- a program from flash has no user secret
abbrev pub SecretFor : ℕ → Option (List ℕ) → Type 0
SecretFor type none = Unit {0}
SecretFor type (some uss) = (4 ≤ type) × (length uss ≡ 32)

pub record Possible (p : Plan) : Type 0 where
  -- nothing of the reset is refused, and it has RESET_SEED
  pub typed : Typed p.next
  pub known : p.next.type ≤ 5
  pub data_length : length p.next.next_data ≡ (data_field (has_second p.next.mask)).size
  pub seed_length : length p.seed ≡ 32
  pub memory_length : length p.memory ≡ 256
  pub seeded : reset_seed p.next.mask ≡ true
  -- the program fits the RAM; the lengths of UDI and built-in digest are their types in the code
  pub not_empty : 1 ≤ length p.program
  pub fits : length p.program ≤ length p.ram
  pub ram_small : length p.ram ≤ 131072
  pub udi_length : length p.udi ≡ 8
  pub built_in_length : length p.built_in ≡ 32
  -- the record that is written, whatever its measured_id, allows the program, or for type 0 the built-in digest does
  pub allowed : (measured_id : List ℕ) → length measured_id ≡ 32 → Allowed (written_record p.next measured_id) p.built_in (blake2s [] p.program 32)
  pub secret : SecretFor p.next.type p.secret

-- a link that is as planned; types 4 and 5 are a client's, the others from flash
pub record Carried (p : Plan) (l : Link) : Type 0 where
  pub seed : l.seed ≡ p.seed
  pub next : l.next ≡ p.next
  pub memory : l.memory ≡ p.memory
  pub program : (basis l.start).program ≡ p.program
  pub secret : user_secret (basis l.start) ≡ p.secret
  pub client : is_client l.start ≡ leb 4 p.next.type
  pub udi : (begun_with l.start).udi ≡ p.udi
  pub built_in : (begun_with l.start).flash.built_in ≡ p.built_in
  pub ram : (begun_with l.start).ram ≡ p.ram

pub record Chains : Type 0 where
  -- begin on the record that an accepted reset wrote
  pub begins : (cdi seed : List ℕ) (x : Next) (memory : List ℕ) → Typed x → (resetting cdi seed x memory).number ≡ 0
      → (R : Reset) → R.rec ≡ (resetting cdi seed x memory).rec → Admitted R → Begins x (measured_id_for x.mask cdi seed) R
  -- the last CDI is worked out from the first, the UDS, and seed and user secret of each link. Programs, digests, data and RAM of the links do not enter
  pub cdi : (c : Chain) → given_cdi (last_start c) ≡ folded_cdi (first_uds c) (first_cdi c) (inputs c)
  pub example : Example
  -- the strings on the way are those of the links' starts
  pub strings : (c : Chain) → map (λ l. start_string (basis l.start)) c.links ≡ link_strings c
  -- two chains, of one head or of two, whose strings are equal link by link
  pub injective : (c c' : Chain) → link_strings c ≡ link_strings c' → Paired SameStarts c.links c'.links
  -- and, with nothing assumed of the hash, two of one length that end in one CDI: all that it is made from is the same, or here are two different strings,
  -- one hashed in each chain, that have one hash
  pub same_end : (c c' : Chain) → length c.links ≡ length c'.links → given_cdi (last_start c) ≡ given_cdi (last_start c')
      → SameLine c.first c'.first c.links c'.links ⊎ Collision (all_strings c) (all_strings c')
  -- where both begin with a direct start, the lengths need not be known
  pub same_length : (c c' : Chain) → chained (basis c.first).rec ≡ false → chained (basis c'.first).rec ≡ false
      → given_cdi (last_start c) ≡ given_cdi (last_start c') → (length c.links ≡ length c'.links) ⊎ Collision (all_strings c) (all_strings c')
  -- after every start, every list of links that is possible comes about, by client and from flash in any order
  pub exists : (t : AnyStart) (ps : List Plan) → All Possible ps → (c : Chain) × (c.first ≡ t) × Paired Carried ps c.links
  -- a link is possible with every type, seed, program and user secret, if the record allows that program
  pub possible : (type : ℕ) (seed program : List ℕ) (secret : Option (List ℕ)) → type ≤ 5 → length seed ≡ 32 → 1 ≤ length program → length program ≤ 131072
      → SecretFor type secret
      → (p : Plan) × Possible p × (p.next.type ≡ type) × (p.seed ≡ seed) × (p.program ≡ program) × (p.secret ≡ secret)
  -- so there is a chain of every length, with types in any order
  pub orders : (types : List ℕ) → All (λ n. n ≤ 5) types
      → (c : Chain) × Paired (λ n l. (l.next.type ≡ n) × (is_client l.start ≡ leb 4 n)) types c.links
