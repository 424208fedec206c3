-- A load as the laptop goes through it, event by event: each frame is sent, and its reply read to its end, before the next one is. What a
-- frame is and which reply is taken is change request 1, in `client`.
use Rattle.std.specs.Prelude.{ℕ, ◌+◌, ◌-◌, ◌*◌, Bool, true, false, not, cond, Ok, Err, List, [], ◌∷◌, eqb, leb, ltb, length, set, take}
use Rattle.endian.specs.Lists.{zeros, same}
use Rattle.blake2s.specs.Hash.{hash_output}
use Rattle.framing.specs.Header.{fields_at, reply_body_len}
use Rattle.protocol.specs.Commands.{length_ok, blocks_for, place_of}
use Rattle.protocol.specs.Replies.{header_in}
use Rattle.client.specs.Replies.{Taking, taking}
use Rattle.upload.specs.declared.Job.{Job}
use Rattle.upload.specs.declared.Exchange.{Exchange}
use Rattle.upload.specs.declared.Event.{Event}
use Rattle.upload.specs.declared.Event.TheVariants.{Byte, Silence, Closed}
use Rattle.upload.specs.declared.Failure.{Failure}
use Rattle.upload.specs.declared.Failure.TheVariants.{ProgramLength, FrameId, SecretLength, Device, NoAnswer, LineClosed, UnexpectedReply, Refused, OtherDigest}
use Rattle.upload.specs.declared.Next.{Next}
use Rattle.upload.specs.declared.Next.TheVariants.{Send, Wait, Over}
use Rattle.upload.specs.declared.Turn.{Turn}

-- the exit status of each failure; the script of `./load` gives 0 for a load and 1 where it could not be built
abbrev pub exit_number : Failure → ℕ
exit_number ProgramLength = 3
exit_number FrameId = 2
exit_number SecretLength = 3
exit_number Device = 4
exit_number NoAnswer = 5
exit_number LineClosed = 6
exit_number UnexpectedReply = 7
exit_number Refused = 8
exit_number OtherDigest = 9

abbrev pub is_over : Next → Bool
is_over Send = false
is_over Wait = false
is_over (Over r) = true

-- the two ends: the head has the program, or not
abbrev pub Loaded : Next
Loaded = Over (Ok tt)

abbrev pub Failed : Failure → Next
Failed why = Over (Err why)

-- what is to be loaded: the digest is that of the hash in one call, from 32 zeros, which a call that is refused leaves
unfoldable pub job_of : List ℕ → ℕ → ℕ → Job
job_of program id wait = record { len = length program; id = id; digest = hash_output [] program (zeros 32); wait = wait }

-- ---- turns

abbrev pub turn_of : Exchange → Next → Turn
turn_of x next = record { exchange = x; next = next }

abbrev pub over : Exchange → Failure → Turn
over x why = turn_of x (Failed why)

-- frame k, of whose reply nothing has come
abbrev pub sent_frame : Job → ℕ → Exchange
sent_frame job k = record { k = k; got = 0; reply = zeros 129; ticks = job.wait }

-- frame 0 is sent first; nothing is where the client refuses the program's length or the frame ID
unfoldable pub opening : Job → Turn
opening job =
    turn_of (sent_frame job 0)
    (cond (not (length_ok job.len)) (Failed ProgramLength)
    (cond (ltb 3 job.id) (Failed FrameId) Send))

-- the digest that the head measured must be the program's
abbrev pub after_last : Job → List ℕ → Next
after_last job digest = cond (same digest job.digest) Loaded (Failed OtherDigest)

-- a whole reply to frame k, as the client takes it: one that is not taken, or has status 1, ends the load; another frame follows if the
-- frames up to k do not carry all of the program
abbrev pub after_reply : Job → ℕ → Taking → Next
after_reply job k t =
    cond (not (eqb t.number 0)) (Failed UnexpectedReply)
    (cond (not (eqb t.status 0)) (Failed Refused)
    (cond (ltb (place_of k) job.len) Send
    (after_last job t.digest)))

-- the bytes of a reply that have come
abbrev pub came_of : Exchange → List ℕ
came_of x = take x.got x.reply

abbrev pub onward : Job → Exchange → Next → Turn
onward job x Send = turn_of (sent_frame job (x.k + 1)) Send
onward job x Wait = turn_of x Wait
onward job x (Over r) = turn_of x (Over r)

unfoldable pub replied : Job → Exchange → Turn
replied job x = onward job x (after_reply job x.k (taking job.len job.id x.k (came_of x)))

-- ---- events

abbrev pub with_byte : Exchange → ℕ → Exchange
with_byte x b = record { k = x.k; got = x.got + 1; reply = set x.reply x.got b; ticks = x.ticks }

-- a reply is as long as its header says; a bad header is all there is of one
abbrev pub is_whole : Exchange → Bool
is_whole x = ltb (reply_body_len (fields_at (header_in x.reply))) x.got

-- no reply is longer than 129 bytes
unfoldable pub received : Job → Exchange → ℕ → Turn
received job x b =
    cond (ltb 128 x.got) (over x UnexpectedReply)
    (let y = with_byte x b in cond (is_whole y) (replied job y) (turn_of y Wait))

abbrev pub with_silence : Exchange → Exchange
with_silence x = record { k = x.k; got = x.got; reply = x.reply; ticks = x.ticks - 1 }

-- the last tick of silence is one too many
unfoldable pub silent : Exchange → Turn
silent x = cond (leb x.ticks 1) (over x NoAnswer) (turn_of (with_silence x) Wait)

abbrev pub turned : Job → Exchange → Event → Turn
turned job x (Byte b) = received job x b
turned job x Silence = silent x
turned job x Closed = over x LineClosed

-- ---- a whole load

-- the events of bytes, with no silence between them
abbrev pub bytes_of : List ℕ → List Event
bytes_of [] = []
bytes_of (b ∷ r) = Byte b ∷ bytes_of r

-- from a turn on, until one is over
abbrev pub runs : Job → Turn → List Event → Turn
runs job t [] = t
runs job t (e ∷ es) = cond (is_over t.next) t (runs job (turned job t.exchange e) es)

-- how many events a load can take: for each frame no more than the ticks and the bytes of the longest reply
abbrev pub most_events : Job → ℕ
most_events job = (blocks_for job.len + 1) * (job.wait + 129)
