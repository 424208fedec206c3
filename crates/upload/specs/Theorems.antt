-- What is proved about a load besides the promises. The proof is `uploads` in proofs/Proved.antt.
use Rattle.std.specs.Prelude.{ℕ, ◌+◌, ◌<◌, ◌≤◌, max, ◌≡◌, ◌↔◌, true, List, [], ◌∷◌, ◌++◌, length, replicate}
use Rattle.rfc7693.specs.Rfc7693.{blake2s}
use Rattle.endian.specs.Lists.{zeros}
use Rattle.framing.specs.Header.{fields_at, reply_body_len}
use Rattle.protocol.specs.Commands.{place_of}
use Rattle.protocol.specs.Replies.{header_in}
use Rattle.client.specs.Frames.{refusal}
use Rattle.client.specs.Replies.{taking_as, taking}
use Rattle.upload.specs.Upload.{job_of, is_over, Loaded, Failed, turn_of, sent_frame, opening, after_reply, turned, bytes_of, runs, most_events}
use Rattle.upload.specs.declared.Job.{Job}
use Rattle.upload.specs.declared.Exchange.{Exchange}
use Rattle.upload.specs.declared.Event.{Event}
use Rattle.upload.specs.declared.Event.TheVariants.{Byte, Silence, Closed}
use Rattle.upload.specs.declared.Failure.TheVariants.{NoAnswer, LineClosed, UnexpectedReply, Refused, OtherDigest}
use Rattle.upload.specs.declared.Next.TheVariants.{Send}

-- these bytes in this order, with so many ticks of silence before or between them
pub data Heard : List ℕ → ℕ → List Event → Type 0 where
  nothing : Heard [] 0 []
  byte : (b : ℕ) (r : List ℕ) (n : ℕ) (es : List Event) → Heard r n es → Heard (b ∷ r) n (Byte b ∷ es)
  silence : (b : ℕ) (r : List ℕ) (n : ℕ) (es : List Event) → Heard (b ∷ r) n es → Heard (b ∷ r) (n + 1) (Silence ∷ es)

-- the events of a reply to frame k: one whole frame, in time, which the client takes with status 0 and this digest
pub record Answer (job : Job) (k : ℕ) (digest : List ℕ) (es : List Event) : Type 0 where
  pub reply : List ℕ
  pub silences : ℕ
  pub heard : Heard reply silences es
  pub whole : length reply ≡ 1 + reply_body_len (fields_at (header_in reply))
  pub in_time : silences < max 1 job.wait
  pub taken : taking job.len job.id k reply ≡ taking_as 0 0 digest

-- the events, from frame k on, of a load that succeeds: an answer to each frame, the last with the program's digest; what comes then is not
-- looked at
pub data Loads (job : Job) : ℕ → List Event → Type 0 where
  last : (k : ℕ) (es rest : List Event) → job.len ≤ place_of k → Answer job k job.digest es → Loads job k (es ++ rest)
  more : (k : ℕ) (digest : List ℕ) (es rest : List Event) → place_of k < job.len → Answer job k digest es → Loads job (k + 1) rest
      → Loads job k (es ++ rest)

-- a program of one byte with frame ID 1 and a wait of two ticks, and its digest as 32 times 0xdd
abbrev pub small : Job
small = record { len = 1; id = 1; digest = replicate 32 0xdd; wait = 2 }

-- its replies: to the load, and to the block
abbrev pub first_reply : List ℕ
first_reply = 0x31 ∷ 0x04 ∷ zeros 3

abbrev pub last_reply : List ℕ
last_reply = 0x33 ∷ 0x07 ∷ 0 ∷ replicate 32 0xdd ++ zeros 94

pub record Uploads : Type 0 where
  -- a job has the program's BLAKE2s digest
  pub digests : (program : List ℕ) (id wait : ℕ) → length program ≤ 131072 → (job_of program id wait).digest ≡ blake2s [] program 32
  -- no line makes a load run forever: after so many events it is over
  pub ends : (job : Job) (es : List Event) → most_events job ≤ length es → is_over (runs job (opening job) es).next ≡ true
  -- it succeeds exactly when each frame is answered so; the client takes no reply to a frame that it refuses
  pub loads : (job : Job) (es : List Event) → ((runs job (opening job) es).next ≡ Loaded) ↔ Loads job 0 es
  -- a frame is sent only if the client makes it, and then nothing has come of its reply
  pub first : (job : Job) → (opening job).next ≡ Send → ((opening job).exchange ≡ sent_frame job 0) × (refusal job.len job.id 0 ≡ 0)
  pub sends : (job : Job) (x : Exchange) (e : Event) → (turned job x e).next ≡ Send
      → ((turned job x e).exchange ≡ sent_frame job (x.k + 1)) × (refusal job.len job.id (x.k + 1) ≡ 0)
  -- a whole reply is read to its end
  pub reads : (job : Job) (k : ℕ) (r : List ℕ) → length r ≡ 1 + reply_body_len (fields_at (header_in r))
      → (runs job (turn_of (sent_frame job k) Send) (bytes_of r)).next ≡ after_reply job k (taking job.len job.id k r)
  -- literal events: a load with a silence in it, and what makes each failure
  pub example : ((runs small (opening small) (Silence ∷ bytes_of first_reply ++ bytes_of last_reply)).next ≡ Loaded)
      × ((runs small (opening small) (Byte 0x31 ∷ Silence ∷ Silence ∷ [])).next ≡ Failed NoAnswer)
      × ((runs small (opening small) (Byte 0x31 ∷ Closed ∷ [])).next ≡ Failed LineClosed)
      × ((runs small (opening small) (Byte 0x80 ∷ [])).next ≡ Failed UnexpectedReply)
      × ((runs small (opening small) (bytes_of (0x35 ∷ 0x04 ∷ 1 ∷ 0 ∷ 0 ∷ []))).next ≡ Failed Refused)
      × ((runs small (opening small) (bytes_of (0x31 ∷ 0x04 ∷ 1 ∷ 0 ∷ 0 ∷ []))).next ≡ Failed UnexpectedReply)
      × ((runs small (opening small) (bytes_of (0x35 ∷ 0x04 ∷ 0 ∷ 0 ∷ 0 ∷ []))).next ≡ Failed UnexpectedReply)
      × ((runs small (opening small) (bytes_of first_reply ++ bytes_of (0x33 ∷ 0x07 ∷ 0 ∷ replicate 32 0xde ++ zeros 94))).next
      ≡ Failed OtherDigest)
