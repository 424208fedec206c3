-- Every message fits a text of 512 bytes.
use Prim.Native.Nat.{ℕ, ◌*◌, ◌/◌, ◌%◌, ◌≤◌, min}
use native.Mathlib.Nat.{div-le_of_le-mul}
use native.Mathlib.Omega.{arith}
use mathlib.Core.Path.{◌≡◌, refl}
use mathlib.Core.Bool.{Bool, true, false, cond}
use mathlib.Core.List.{List, ◌++◌}
use lib.Dec.{eqb}
use lib.ListN.{length, take, drop, length-append, length-take, length-replicate}
use Rattle.std.specs.Prelude.{Option, None, Some}
use Rattle.endian.specs.Lists.{padded}
use Rattle.protocol.specs.Commands.{length_ok, blocks_for, place_of}
use Rattle.client.specs.Frames.{refusal}
use Rattle.protocol.specs.Replies.{status_in}
use Rattle.client.specs.Replies.{taking_as, digest_in, is_expected, expected_reply, refused_with, taking, differing}
use Rattle.client.specs.declared.Difference.{Difference}
use Rattle.client.specs.declared.Difference.TheVariants.{Header, Length, Code, Status, Filler}
use Rattle.client.proofs.Expected.{expected_fits}
use Rattle.text.specs.Text.{ascii, hex_of, decimal_of}
use Rattle.text.proofs.Proved.{texts}
use Rattle.upload.specs.Upload.{came_of}
use Rattle.messages.specs.Messages.{frame_name, seconds_of, came_name, difference_words, no_answer, line_closed, unexpected, refused, other_digest, length_words, message_of, loaded_line, bar_of, rate_of, line_at, progress_line}
use Rattle.upload.specs.declared.Job.{Job}
use Rattle.upload.specs.declared.Exchange.{Exchange}
use Rattle.upload.specs.declared.Failure.{Failure}
use Rattle.upload.specs.declared.Failure.TheVariants.{ProgramLength, FrameId, SecretLength, Device, NoAnswer, LineClosed, UnexpectedReply, Refused, OtherDigest}

-- one of two
either : (t : Bool) (a b : List ℕ) (n : ℕ) → length a ≤ n → length b ≤ n → length (cond t a b) ≤ n
either true a b n p q = p
either false a b n p q = q

either_after : (f : List ℕ) (t : Bool) (a b : List ℕ) (n : ℕ) → length (f ++ a) ≤ n → length (f ++ b) ≤ n → length (f ++ cond t a b) ≤ n
either_after f true a b n p q = p
either_after f false a b n p q = q

-- ---- parts of a message

frame_short : (job : Job) (k : ℕ) → length (frame_name job k) ≤ 79
unfolding frame_name
frame_short job k =
    let a = texts.few k in
    let b = texts.few (blocks_for job.len) in
    either_after (ascii "frame " ++ decimal_of k) (eqb k 0) _ _ 79 (simp length-append (omega arith)) (simp length-append (omega arith))

seconds_short : (n : ℕ) → length (seconds_of n) ≤ 43
seconds_short n =
    let a = texts.few (n / 10) in
    let b = texts.few (n % 10) in
    either_after (decimal_of (n / 10)) (eqb (n % 10) 0) _ _ 43 (simp length-append (omega arith)) (simp length-append (omega arith))

-- a reply has no more than 129 bytes, of two digits each
reply_short : (x : Exchange) → length x.reply ≡ 129 → length (hex_of (came_of x)) ≤ 258
reply_short x e = let t = texts.two (came_of x) in let l = length-take x.got x.reply in omega arith

came_short : (x : Exchange) → length x.reply ≡ 129 → length (came_name x) ≤ 278
came_short x e =
    let l = reply_short x e in either (eqb x.got 0) _ _ 278 (omega arith) (simp length-append (omega arith))

difference_short : (d : Option Difference) → length (difference_words d) ≤ 33
difference_short None = omega arith
difference_short (Some Header) = omega arith
difference_short (Some Length) = omega arith
difference_short (Some Code) = omega arith
difference_short (Some Status) = omega arith
difference_short (Some Filler) = omega arith

-- a digest has 32 bytes, also where a reply is refused
padded_length : (d : ℕ) (l : List ℕ) → d ≤ 32 → length (padded 32 (take d l)) ≡ 32
padded_length d l h = let t = length-take d l in simp (length-append, length-replicate) (omega arith)

digest_length : (n id k : ℕ) (r : List ℕ) → length (taking n id k r).digest ≡ 32
unfolding taking
digest_length n id k r = go (eqb (refusal n id k) 0) (is_expected (expected_reply n k) id r)
  where
    go : (a b : Bool)
        → length (cond a (cond b (taking_as 0 (status_in r) (digest_in (expected_reply n k) r)) (refused_with 43)) (refused_with (refusal n id k))).digest
        ≡ 32
    go true true = padded_length (expected_reply n k).digest (drop 3 r) (expected_fits n k).digest
    go true false = refl
    go false b = refl

-- ---- messages

module _ (job : Job) (x : Exchange) (e : length x.reply ≡ 129) where
  no_answer_fits : length (no_answer job x) ≤ 512
  no_answer_fits =
      let c = came_short x e in
      let f = frame_short job x.k in
      let s = simp length-append at (seconds_short job.wait) in
      simp length-append (omega arith)

  closed_fits : length (line_closed job x) ≤ 512
  closed_fits = let f = frame_short job x.k in simp length-append (omega arith)

  unexpected_fits : length (unexpected job x) ≤ 512
  unexpected_fits =
      let f = frame_short job x.k in
      let d = difference_short (differing job.len job.id x.k (came_of x)) in
      let r = reply_short x e in
      simp length-append (omega arith)

  refused_fits : length (refused job x) ≤ 512
  refused_fits =
      let f = frame_short job x.k in either (eqb x.k 0) _ _ 512 (omega arith) (simp length-append (omega arith))

  digest_fits : length (other_digest job x) ≤ 512
  digest_fits =
      let d = digest_length job.len job.id x.k (came_of x) in
      let h = texts.two (taking job.len job.id x.k (came_of x)).digest in
      simp length-append (omega arith)

  words_fit : length (length_words job) ≤ 512
  words_fit = either (eqb job.len 0) _ _ 512 (omega arith) (omega arith)

  pub fits : (f : Failure) → length (message_of job x f) ≤ 512
  fits ProgramLength = words_fit
  fits FrameId = omega arith
  fits SecretLength = omega arith
  fits Device = omega arith
  fits NoAnswer = no_answer_fits
  fits LineClosed = closed_fits
  fits UnexpectedReply = unexpected_fits
  fits Refused = refused_fits
  fits OtherDigest = digest_fits

pub loaded_fits : (job : Job) → length job.digest ≡ 32 → length (loaded_line job) ≤ 512
loaded_fits job e = let a = texts.few job.len in let h = texts.two job.digest in simp length-append (omega arith)

-- ---- the line of progress

-- a bar has 32 places, if no more are filled
bar_length : (n : ℕ) → n ≤ 32 → length (bar_of n) ≡ 32
bar_length n h = simp (length-append, length-replicate) (omega arith)

rate_short : (n seconds : ℕ) → length (rate_of n seconds) ≤ 30
rate_short n seconds =
    let a = texts.few (n / seconds) in either (eqb seconds 0) _ _ 30 (omega arith) (simp length-append (omega arith))

line_fits : (n done seconds : ℕ) → done ≤ blocks_for n → length (line_at n done seconds) ≤ 512
line_fits n done seconds h =
    let b = simp length-append at (bar_length (32 * done / blocks_for n) (div-le_of_le-mul (blocks_for n) (omega arith))) in
    let d = texts.few done in
    let m = texts.few (blocks_for n) in
    let p = texts.few (100 * done / blocks_for n) in
    let r = rate_short (min n (place_of done)) seconds in
    simp length-append (omega arith)

pub progress_fits : (n done seconds : ℕ) → length (progress_line n done seconds) ≤ 512
unfolding progress_line
progress_fits n done seconds = either (length_ok n) _ _ 512 (line_fits n (min done (blocks_for n)) seconds (omega arith)) (omega arith)
