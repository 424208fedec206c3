-- What is expected of a reply, by its kind, and what is known of a reply that is expected.
use Prim.Native.Nat.{ℕ, ◌+◌, ◌-◌, ◌<◌, ◌≤◌}
use mathlib.Core.Path.{◌≡◌, refl, sym, ap, ◌∙◌}
use mathlib.Core.Bool.{Bool, true, false, not, cond, ◌&&◌}
use mathlib.Core.List.{List, [], ◌∷◌}
use native.Mathlib.Omega.{arith}
use lib.Dec.{eqb}
use lib.ListN.{length, take, drop}
use lib.Seq.{drop-drop}
use borrow.Author.Tests.{eqb-true, eq-eqb}
use Rattle.endian.proofs.Cases.{impossible}
use Rattle.endian.proofs.Lists.{drop_whole}
use Rattle.framing.specs.Header.{code_of, fields_at}
use Rattle.framing.specs.Answers.{status_number, fields_of}
use Rattle.framing.specs.declared.ReplyHeader.{ReplyHeader}
use Rattle.protocol.specs.Commands.{is_last}
use Rattle.protocol.specs.Replies.{header_in, code_in, status_in}
use Rattle.std.specs.Prelude.{None, Some}
use Rattle.client.specs.Replies.{Expected, expected_reply, header_is, status_is, all_zero, filler_in, difference_in}
use Rattle.client.specs.declared.Difference.TheVariants.{Header, Length, Code, Status, Filler}

-- code, status and digest are within the body
pub record Fits (x : Expected) : Type 0 where
  pub body : x.len ≤ 128
  pub filler : x.digest + 2 ≤ x.len
  pub digest : x.digest ≤ 32
  -- there is a header for the length
  pub code : code_of x.len < 4

pub expected_fits : (n k : ℕ) → Fits (expected_reply n k)
expected_fits n k = go (eqb k 0) (is_last n (k - 1))
  where
    go : (a b : Bool) → Fits (cond a (record { code = 0x04; len = 4; digest = 0 }) (cond b (record { code = 0x07; len = 128; digest = 32 }) (record { code = 0x06; len = 4; digest = 0 })))
    go true b = record { body = omega arith; filler = omega arith; digest = omega arith; code = omega arith }
    go false true = record { body = omega arith; filler = omega arith; digest = omega arith; code = omega arith }
    go false false = record { body = omega arith; filler = omega arith; digest = omega arith; code = omega arith }

and_false : (t : Bool) → t && false ≡ false
and_false true = refl
and_false false = refl

-- a reply without a byte has not the header that is expected
pub no_header : (id n : ℕ) (r : List ℕ) → length r ≡ 0 → header_is (fields_at (header_in r)) id n ≡ false
unfolding fields_at
no_header id n [] e = and_false (eqb 0 id)
no_header id n (b ∷ r) e = absurd (omega arith)

-- what a reply that differs in nothing is
pub record Passes (x : Expected) (id : ℕ) (r : List ℕ) : Type 0 where
  pub header : header_is (fields_at (header_in r)) id x.len ≡ true
  pub whole : length r ≡ 1 + x.len
  pub code : code_in r ≡ x.code
  pub status : status_is (fields_at (header_in r)) (status_in r) ≡ true
  pub filler : all_zero (filler_in x r) ≡ true

pub passes : (x : Expected) (id : ℕ) (r : List ℕ) → difference_in x id r ≡ None → Passes x id r
unfolding difference_in
passes x id r = go _ _ _ _ _ refl refl refl refl refl
  where
    go : (a b c d e : Bool) → header_is (fields_at (header_in r)) id x.len ≡ a → eqb (length r) (1 + x.len) ≡ b → eqb (code_in r) x.code ≡ c
        → status_is (fields_at (header_in r)) (status_in r) ≡ d → all_zero (filler_in x r) ≡ e
        → cond (not a) (Some Header) (cond (not b) (Some Length) (cond (not c) (Some Code) (cond (not d) (Some Status) (cond (not e) (Some Filler) None)))) ≡ None → Passes x id r
    go false b c d e ea eb ec ed ee q = impossible cc
    go true false c d e ea eb ec ed ee q = impossible cc
    go true true false d e ea eb ec ed ee q = impossible cc
    go true true true false e ea eb ec ed ee q = impossible cc
    go true true true true false ea eb ec ed ee q = impossible cc
    go true true true true true ea eb ec ed ee q =
        record { header = ea; whole = eqb-true _ _ eb; code = eqb-true _ _ ec; status = ed; filler = ee }

pub passed : (x : Expected) (id : ℕ) (r : List ℕ) → Passes x id r → difference_in x id r ≡ None
unfolding difference_in
passed x id r p = rw (p.header, eq-eqb _ _ p.whole, eq-eqb _ _ p.code, p.status, p.filler)

-- one that passes the tests before the last, by the parts of its header
pub last_test : (x : Expected) (id : ℕ) (r : List ℕ) (h : ReplyHeader) (n : ℕ) (t : Bool)
    → fields_of (Some h) ≡ fields_at (header_in r) → h.id ≡ id → h.endpoint ≡ 2 → h.len ≡ x.len
    → length r ≡ 1 + x.len → code_in r ≡ x.code → status_in r ≡ status_number h.status
    → n ≡ x.digest → t ≡ all_zero (take (length r - (3 + n)) (drop (3 + n) r))
    → difference_in x id r ≡ cond t None (Some Filler)
unfolding difference_in
last_test x id r h n t f i e l w c s d z =
    let filler : all_zero (filler_in x r) ≡ t =
    rw (← d) (ap all_zero (drop-drop n 3 r ∙ sym (drop_whole (3 + n) r)) ∙ sym z) in
    rw (← f, eq-eqb _ _ i, eq-eqb _ _ e, eq-eqb _ _ l, eq-eqb _ _ w, eq-eqb _ _ c, eq-eqb _ _ s, filler) (by_last t)
  where
    by_last : (t : Bool) → cond (not t) (Some Filler) None ≡ cond t None (Some Filler)
    by_last true = refl
    by_last false = refl
