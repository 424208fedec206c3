-- The head's replies as the server takes them: change request 1, "The server's half", with bit 2 as change request 5 has it.
use Rattle.std.specs.Prelude.{ℕ, ◌+◌, ◌-◌, Bool, true, false, not, cond, ◌&&◌, Option, None, Some, unwrap_or, Result, Ok, Err, List, [], ◌∷◌, eqb, ltb, length, take, drop}
use Rattle.framing.specs.Header.{Fields, fields, bad, fields_at}
use Rattle.framing.specs.Answers.{status_number}
use Rattle.protocol.specs.Commands.{firmware, is_last}
use Rattle.protocol.specs.Replies.{header_in, code_in, status_in}
use Rattle.endian.specs.Lists.{padded, zeros}
use Rattle.client.specs.Answers.{refusal_number, difference_number}
use Rattle.client.specs.Frames.{refusal}
use Rattle.client.specs.declared.Refusal.{Refusal}
use Rattle.client.specs.declared.Difference.{Difference}
use Rattle.client.specs.declared.Difference.TheVariants.{Header, Length, Code, Status, Filler}
use Rattle.client.specs.declared.Taken.{Taken}
use Rattle.client.specs.declared.replies.Kind.{Kind}
use Rattle.client.specs.declared.replies.Kind.TheVariants as kind

-- what the reply to a frame must be: its code, its body's length, and how many bytes of a digest come after the status
pub record Expected : Type 0 where
  pub code : ℕ
  pub len : ℕ
  pub digest : ℕ

-- the reply to frame k of a program of n bytes
abbrev pub expected_reply : ℕ → ℕ → Expected
expected_reply n k =
    cond (eqb k 0) (record { code = 0x04; len = 4; digest = 0 })
    (cond (is_last n (k - 1)) (record { code = 0x07; len = 128; digest = 32 })
    (record { code = 0x06; len = 4; digest = 0 }))

-- which of the three it is
abbrev pub expected_of : Kind → Expected
expected_of kind.Load = record { code = 0x04; len = 4; digest = 0 }
expected_of kind.Block = record { code = 0x06; len = 4; digest = 0 }
expected_of kind.Last = record { code = 0x07; len = 128; digest = 32 }

-- bit 7 zero, the expected ID, endpoint 2 and the expected length
abbrev pub header_is : Fields → ℕ → ℕ → Bool
header_is (fields i ep n s) id len = eqb i id && (eqb ep firmware && eqb n len)
header_is bad id len = false

-- the status byte is the header's status, so it is 0 or 1
abbrev pub status_is : Fields → ℕ → Bool
status_is (fields i ep n s) byte = eqb byte s
status_is bad byte = false

abbrev pub all_zero : List ℕ → Bool
all_zero [] = true
all_zero (b ∷ bs) = eqb b 0 && all_zero bs

-- after header, code and status come the digest, if it is the last reply, and filler; zeros where no digest is expected
abbrev pub digest_in : Expected → List ℕ → List ℕ
digest_in x r = padded 32 (take x.digest (drop 3 r))

abbrev pub filler_in : Expected → List ℕ → List ℕ
filler_in x r = drop x.digest (drop 3 r)

-- the first test that a reply fails; one without a byte fails that of the header, since 0 is a header of endpoint 0
unfoldable pub difference_in : Expected → ℕ → List ℕ → Option Difference
difference_in x id r =
    cond (not (header_is (fields_at (header_in r)) id x.len)) (Some Header)
    (cond (not (eqb (length r) (1 + x.len))) (Some Length)
    (cond (not (eqb (code_in r) x.code)) (Some Code)
    (cond (not (status_is (fields_at (header_in r)) (status_in r))) (Some Status)
    (cond (not (all_zero (filler_in x r))) (Some Filler) None))))

-- as a comparison ends
abbrev pub difference_of : {A : Type 0} → Result A Difference → Option Difference
difference_of (Ok x) = None
difference_of (Err d) = Some d

-- then it is one whole frame with the expected header and code, a status of 0 or 1 that its header tells too, and zero filler
abbrev pub is_expected : Expected → ℕ → List ℕ → Bool
is_expected x id r = eqb (difference_number (difference_in x id r)) 0

-- ---- the call

-- all that reading a reply settles: the number of the refusal, 0 for none, the status and the digest
pub record Taking : Type 0 where
  pub number : ℕ
  pub status : ℕ
  pub digest : List ℕ

abbrev pub taking_as : ℕ → ℕ → List ℕ → Taking
taking_as number status digest = record { number = number; status = status; digest = digest }

-- a refused reading gives neither status nor digest
abbrev pub refused_with : ℕ → Taking
refused_with k = taking_as k 0 (zeros 32)

-- zeros where there is no digest
abbrev pub said : Taken → Taking
said t = taking_as 0 (status_number t.status) (unwrap_or t.digest (zeros 32))

abbrev pub taking_of : Result Taken Refusal → Taking
taking_of (Ok t) = said t
taking_of (Err why) = refused_with (refusal_number why)

-- there is one with the last reply, and with no other
abbrev pub has_digest : Expected → Bool
has_digest x = ltb 0 x.digest

abbrev pub said_by : Expected → List ℕ → Taking
said_by x r = taking_as 0 (status_in r) (digest_in x r)

abbrev pub taken_as : Expected → ℕ → List ℕ → Taking
taken_as x id r = cond (is_expected x id r) (said_by x r) (refused_with 43)

unfoldable pub taking : ℕ → ℕ → ℕ → List ℕ → Taking
taking n id k r =
    let j = refusal n id k in
    cond (eqb j 0) (taken_as (expected_reply n k) id r) (refused_with j)

-- where a call is refused with 40, 41 or 42 no reply is expected, so there is nothing to differ from
unfoldable pub differing : ℕ → ℕ → ℕ → List ℕ → Option Difference
differing n id k r = cond (eqb (refusal n id k) 0) (difference_in (expected_reply n k) id r) None

-- where status and digest are lent: a refused reading leaves them
unfoldable pub taking_into : ℕ → ℕ → ℕ → List ℕ → ℕ → List ℕ → Taking
taking_into n id k r status digest =
    let t = taking n id k r in
    cond (eqb t.number 0) t (taking_as t.number status digest)
