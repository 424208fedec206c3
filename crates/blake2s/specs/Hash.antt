-- The refusals of hashing: document 01, "Numbers of refused calls and of stops". Where several apply the lowest is given; 0 is none.
use Rattle.std.specs.Prelude.{ℕ, Bool, cond, ◌||◌, List, eqb, ltb, length, Result, Ok, Err}
use Rattle.rfc7693.specs.Rfc7693.{blake2s}
use Rattle.blake2s.specs.declared.Refusal.{Refusal}
use Rattle.blake2s.specs.declared.Refusal.TheVariants.{ContextRange, OutputLength, KeyLength, MessageLength}

-- the number of each refusal
abbrev pub refusal_number : Refusal → ℕ
refusal_number ContextRange = 1
refusal_number OutputLength = 8
refusal_number KeyLength = 9
refusal_number MessageLength = 10

-- the number of each answer
abbrev pub number_of : {A : Type 0} → Result A Refusal → ℕ
number_of (Ok _) = 0
number_of (Err r) = refusal_number r

-- a refused call leaves what was there
abbrev pub kept : {A : Type 0} → ℕ → A → A → A
kept number made old = cond (eqb number 0) made old

-- no hash has 0 bytes or more than 32
abbrev pub bad_size : ℕ → Bool
bad_size nn = eqb nn 0 || ltb 32 nn

-- a message has at most 4,294,967,295 bytes, where RFC 7693, 2.1, allows all below 2**64
abbrev pub too_long : ℕ → Bool
too_long ll = ltb 4294967295 ll

-- hashing in one call, with a key of kk bytes, a message of ll and an output of nn
unfoldable pub hash_number : ℕ → ℕ → ℕ → ℕ
hash_number kk ll nn = cond (bad_size nn) 8 (cond (ltb 32 kk) 9 (cond (too_long ll) 10 0))

-- the output after the call
unfoldable pub hash_output : List ℕ → List ℕ → List ℕ → List ℕ
hash_output key msg out =
    kept (hash_number (length key) (length msg) (length out)) (blake2s key msg (length out)) out
