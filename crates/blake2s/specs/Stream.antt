-- Hashing in parts. The calls of F are those of RFC 7693, 3.3, each made as soon as a byte has come that stands behind its block:
-- a block is final until then, so a full one waits.
use Rattle.std.specs.Prelude.{ℕ, ◌+◌, ◌-◌, ◌*◌, ◌/◌, Bool, true, false, cond, not, List, ◌++◌, eqb, length, take, Result, Ok, Err}
use Rattle.rfc7693.specs.Rfc7693.{bb, words, F, block_at, leading, compressed, initial}
use Rattle.endian.specs.Endian.{bytes}
use Rattle.endian.specs.Lists.{padded, zeros}
use Rattle.blake2s.specs.Hash.{bad_size, too_long, kept, hash_number}
use Rattle.blake2s.specs.declared.Context.{Context}
use Rattle.blake2s.specs.declared.Refusal.{Refusal}

-- how many blocks of n bytes come before the final one
unfoldable pub earlier : ℕ → ℕ
earlier n = (n - 1) / bb

-- how many bytes a context has taken in: a key counts as a block
unfoldable pub total : Context → ℕ
total c = cond c.keyed bb 0 + c.message

-- how many of them stand in blocks that are compressed
unfoldable pub done : Context → ℕ
done c = bb * earlier (total c)

-- those that wait for the next call
unfoldable pub waiting : Context → List ℕ
waiting c = take (total c - done c) c.block

-- a context before the first byte of the message: the key waits
unfoldable pub begun : List ℕ → ℕ → Context
begun key nn =
    record {
      h = initial (length key) nn;
      block = padded bb key;
      message = 0;
      keyed = not (eqb (length key) 0);
      size = nn;
    }

-- a context after the bytes s: all blocks but the last are compressed
unfoldable pub extended : Context → List ℕ → Context
extended c s =
    let d = waiting c ++ s in
    let n = earlier (length d) in
    record {
      h = compressed c.h (leading n (done c) d);
      block = block_at d n;
      message = c.message + length s;
      keyed = c.keyed;
      size = c.size;
    }

-- the hash: what waits is the final block
unfoldable pub closed : Context → List ℕ
closed c = take c.size (bytes (F c.h (words (padded bb (waiting c))) (total c) true))

-- the range of a context's fields: its size is that of a hash, and every other field may hold anything
unfoldable pub in_range : Context → Bool
in_range c = not (bad_size c.size)

-- begin, with a key of kk bytes, for a hash of nn: as hashing an empty message in one call
unfoldable pub begin_number : ℕ → ℕ → ℕ
begin_number kk nn = hash_number kk 0 nn

-- no hash: a context out of range, so that no call takes it. A refused begin gives none; the definition has this one
unfoldable pub refused_context : Context
refused_context = record { h = zeros 8; block = zeros 64; message = 0; keyed = false; size = 0 }

-- the context of what begin answers
abbrev pub context_of : Result Context Refusal → Context
context_of (Ok c) = c
context_of (Err _) = refused_context

unfoldable pub begin_context : List ℕ → ℕ → Context
begin_context key nn = kept (begin_number (length key) nn) (begun key nn) refused_context

-- update, with a part of ll bytes
unfoldable pub update_number : Context → ℕ → ℕ
update_number c ll = cond (in_range c) (cond (too_long (c.message + ll)) 10 0) 1

unfoldable pub update_context : Context → List ℕ → Context
update_context c s = kept (update_number c (length s)) (extended c s) c

-- finish, with an output of nn bytes
unfoldable pub finish_number : Context → ℕ → ℕ
finish_number c nn = cond (in_range c) (cond (eqb nn c.size) 0 8) 1

unfoldable pub finish_output : Context → List ℕ → List ℕ
finish_output c out = kept (finish_number c (length out)) (closed c) out
