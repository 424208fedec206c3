-- A hash in parts is the hash of what came, in one call.
use Prim.Native.Nat.{ℕ, ◌+◌, ◌≤◌}
use mathlib.Core.Path.{◌≡◌, sym}
use mathlib.Core.Bool.{true}
use mathlib.Core.List.{List, [], ◌++◌}
use native.Mathlib.Nat.{zero-add}
use native.Mathlib.Omega.{arith}
use lib.ListN.{length}
use Rattle.endian.specs.Lists.{zeros}
use Rattle.rfc7693.specs.Rfc7693.{blake2s}
use Rattle.blake2s.specs.Hash.{hash_number}
use Rattle.blake2s.specs.Stream.{begun, extended, in_range, begin_number, begin_context, update_number, update_context, finish_number, finish_output}
use Rattle.blake2s.specs.declared.Context.{Context}
use Rattle.blake2s.proofs.Numbers.{update_accepted, finish_accepted}
use Rattle.blake2s.proofs.Streams.{begun_long, in_parts, stream_size, streamed}
use Rattle.blake2s.proofs.Sessions.{begun_nil, at_range}
use Rattle.diagnosis.specs.Monitor.{fresh_hash}

-- the hash after the bytes x
abbrev pub hashed : List ℕ → Context
hashed x = extended (begun [] 32) x

pub hashed_nothing : fresh_hash ≡ hashed []
unfolding begin_context begin_number hash_number
hashed_nothing = sym (begun_nil [] 32 (omega arith))

message : (x : List ℕ) → (hashed x).message ≡ length x
unfolding extended begun
message x = zero-add (length x)

pub hashed_more : (x e : List ℕ) → length x + length e ≤ 4294967295 → update_context (hashed x) e ≡ hashed (x ++ e)
unfolding update_context
hashed_more x e h =
    let k = message x in
    let r : in_range (hashed x) ≡ true = at_range [] 32 (omega arith) (omega arith) (omega arith) x in
    let z : update_number (hashed x) (length e) ≡ 0 = update_accepted (hashed x) (length e) r (omega arith) in
    rw z (in_parts (begun [] 32) (begun_long [] [] 32 (omega arith)) x e)

pub hashed_all : (x : List ℕ) → finish_output (hashed x) (zeros 32) ≡ blake2s [] x 32
unfolding finish_output
hashed_all x =
    let r : in_range (hashed x) ≡ true = at_range [] 32 (omega arith) (omega arith) (omega arith) x in
    let z : finish_number (hashed x) 32 ≡ 0 = finish_accepted (hashed x) 32 r (sym (stream_size [] x 32 (omega arith))) in
    rw z (streamed [] x 32 (omega arith))
