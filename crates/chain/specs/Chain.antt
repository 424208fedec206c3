-- Change request 7: a chain of starts, each after a reset by the program before it, and the CDI that is worked out for its end. The reset is the one that
-- the promise of `reset` cites (`resetting`), a start is one of `verified_boot` (session, specs/Boot.antt).
use Rattle.std.specs.Prelude.{ℕ, ◌≡◌, true}
use Rattle.std.proofs.Math.Option.{Option, none, some}
use mathlib.Core.List.{List, [], ◌∷◌, ◌++◌, map, foldl}
use Rattle.rfc7693.specs.Rfc7693.{blake2s}
use Rattle.endian.specs.Endian.{bytes}
use Rattle.record.specs.Record.{reset_seed}
use Rattle.handover.specs.Reset.{Next, mixed, HandedOver, resetting}
use Rattle.handover.specs.Theorems.{Typed}
use Rattle.session.specs.Session.{begun}
use Rattle.session.specs.Boot.{AnyStart, from_client, from_flash, basis, start_string, user_secret}

-- ---- chains

-- the CDI that a start gave
abbrev pub given_cdi : AnyStart → List ℕ
given_cdi (from_client S t) = t.out.cdi
given_cdi (from_flash R t) = (begun R).cdi

-- a reset, with the memory that its record is written to, and the start after it
pub record Link : Type 0 where
  pub seed : List ℕ
  pub next : Next
  pub memory : List ℕ
  pub start : AnyStart

-- "each get the CDI of the start before"
abbrev pub reset_after : AnyStart → Link → HandedOver
reset_after before l = resetting (given_cdi before) l.seed l.next l.memory

pub record Follows (uds : List ℕ) (before : AnyStart) (l : Link) : Type 0 where
  pub typed : Typed l.next
  -- "resets that all have RESET_SEED"; they are accepted
  pub accepted : (reset_after before l).number ≡ 0
  pub seeded : reset_seed l.next.mask ≡ true
  -- "and lead to a start", on the record that was written
  pub on_record : (basis l.start).rec ≡ (reset_after before l).rec
  -- "each link is lent the first's UDS afresh": at entry to the starting call
  pub afresh : (basis l.start).uds ≡ uds

abbrev pub Linked : List ℕ → AnyStart → List Link → Type 0
Linked uds before [] = Unit {0}
Linked uds before (l ∷ ls) = Follows uds before l × Linked uds l.start ls

pub record Chain : Type 0 where
  pub first : AnyStart
  pub links : List Link
  pub linked : Linked (basis first).uds first links

abbrev pub last_after : AnyStart → List Link → AnyStart
last_after before [] = before
last_after before (l ∷ ls) = last_after l.start ls

abbrev pub last_start : Chain → AnyStart
last_start c = last_after c.first c.links

-- ---- the CDI at the end, worked out

-- all of a link that enters: the seed of the reset, and the user secret of the start, or none
pub record LinkInput : Type 0 where
  pub seed : List ℕ
  pub secret : Option (List ℕ)

abbrev pub input_of : Link → LinkInput
input_of l = record { seed = l.seed; secret = user_secret (basis l.start) }

-- source document 002: blake2s(UDS, domain, blake2s(previous-CDI, measured_id_seed), USS), where the domain of a chained start is 2 and, with a user
-- secret, 3
abbrev pub chain_string : List ℕ → List ℕ → List ℕ → Option (List ℕ) → List ℕ
chain_string uds cdi seed none = uds ++ 2 ∷ mixed cdi seed
chain_string uds cdi seed (some uss) = uds ++ 3 ∷ mixed cdi seed ++ uss

module _ (uds : List ℕ) where
  abbrev pub link_string : List ℕ → LinkInput → List ℕ
  link_string cdi i = chain_string uds cdi i.seed i.secret

  abbrev pub next_cdi : List ℕ → LinkInput → List ℕ
  next_cdi cdi i = blake2s [] (link_string cdi i) 32

  -- link after link, from the CDI of the first start on
  abbrev pub folded_cdi : List ℕ → List LinkInput → List ℕ
  folded_cdi = foldl next_cdi

  -- the string of each link's start
  abbrev pub folded_strings : List ℕ → List LinkInput → List (List ℕ)
  folded_strings cdi [] = []
  folded_strings cdi (i ∷ is) = link_string cdi i ∷ folded_strings (next_cdi cdi i) is

  -- all that is hashed on the way: for each link the reset's string, CDI and seed, and the start's
  abbrev pub hashed_strings : List ℕ → List LinkInput → List (List ℕ)
  hashed_strings cdi [] = []
  hashed_strings cdi (i ∷ is) = (cdi ++ i.seed) ∷ link_string cdi i ∷ hashed_strings (next_cdi cdi i) is

module _ (c : Chain) where
  -- the first's UDS as bytes
  abbrev pub first_uds : List ℕ
  first_uds = bytes (basis c.first).uds

  abbrev pub first_cdi : List ℕ
  first_cdi = given_cdi c.first

  abbrev pub inputs : List LinkInput
  inputs = map input_of c.links

  -- the strings of the links' starts
  abbrev pub link_strings : List (List ℕ)
  link_strings = folded_strings first_uds first_cdi inputs

  -- all that was hashed for CDIs, from the first start on
  abbrev pub all_strings : List (List ℕ)
  all_strings = start_string (basis c.first) ∷ hashed_strings first_uds first_cdi inputs
