-- Acting on a whole frame, the second of the two calls: document 01, "Commands and replies", refusals 1 to 5 and 47, stops 23 to 25.
use Rattle.std.specs.Prelude.{ℕ, ◌+◌, Bool, not, cond, List, [], ◌∷◌, eqb, ltb, length, take}
use Rattle.std.proofs.Math.Seq.{paste}
use Rattle.framing.specs.Header.{header_at, body_len}
use Rattle.rfc7693.specs.Rfc7693.{blake2s}
use Rattle.protocol.specs.Commands.{command_in, load_in, good_load, uses_uss, carried_by, place_of, count_in, is_last}
use Rattle.protocol.specs.Replies.{sent, put_in, name_reply, udi_reply, load_reply, block_reply, digest_reply}
use Rattle.protocol.specs.declared.Load.{Load}
use Rattle.protocol.specs.declared.Reply.{Reply}
use Rattle.head.specs.State.{is_whole, in_range, live, idle, ended}
use Rattle.head.specs.Answers.{Report, refused, continues, stopped, Outcome, replied}
use Rattle.head.specs.Start.{unstarted, decided}
use Rattle.head.specs.declared.Phase.{Phase}
use Rattle.head.specs.declared.Phase.TheVariants as phase
use Rattle.head.specs.declared.Progress.{Progress}
use Rattle.head.specs.declared.State.{State}

-- ---- what a whole frame asks for: the table of commands

pub data Request : Type 0 where
  asks_name : Request
  asks_udi : Request
  gives_load : Request
  gives_block : Request
  -- nothing that is allowed: the number of the stop
  halts : ℕ → Request

-- stop 24 is a wrong body length
abbrev pub sized : ℕ → ℕ → Request → Request
sized wanted n r = cond (eqb n wanted) r (halts 24)

-- by the command byte and the body's length; stop 23 is a command that is not allowed, unknown ones included
abbrev pub request_waiting : ℕ → ℕ → Request
request_waiting c n =
    cond (eqb c 0x01) (sized 1 n asks_name)
    (cond (eqb c 0x08) (sized 1 n asks_udi)
    (cond (eqb c 0x03) (sized 128 n gives_load) (halts 23)))

abbrev pub request_loading : ℕ → ℕ → Request
request_loading c n = cond (eqb c 0x05) (sized 128 n gives_block) (halts 23)

abbrev pub request_in : Phase → ℕ → ℕ → Request
request_in phase.Waiting c n = request_waiting c n
request_in phase.Loading c n = request_loading c n
request_in phase.Started c n = halts 23
request_in phase.Stopped c n = halts 23

-- the whole frame: its header and the gathered bytes, which a shorter body does not fill
abbrev pub frame_in : State → List ℕ
frame_in s = s.incoming.header ∷ s.incoming.body

abbrev pub request_of : State → Request
request_of s = request_in s.progress.phase (command_in (frame_in s)) (body_len (header_at s.incoming.header))

-- ---- what is then done: "Commands and replies"

-- an outcome with neither CDI nor digest
abbrev pub plain : Report → ℕ → State → List ℕ → List ℕ → List ℕ → Outcome
plain report reply s room ram uds = replied reply room (unstarted report s ram uds)

-- stop k, without a reply
abbrev pub stopping : ℕ → State → List ℕ → List ℕ → List ℕ → Outcome
stopping k s room ram uds = plain (stopped k) 0 (ended phase.Stopped s.config.ram_len) room ram uds

-- a reply, after which the session goes on
abbrev pub replying : Reply → State → List ℕ → List ℕ → List ℕ → Outcome
replying r s room ram uds = plain continues (r.len + 1) s (put_in room (sent r)) ram uds

-- the state between frames
abbrev pub between : State → Progress → State
between s p = record { incoming = idle; config = s.config; progress = p }

-- the load that the frame is, and whether it is taken
abbrev pub load_of : State → Load
load_of s = load_in (frame_in s)

abbrev pub takes : State → Bool
takes s = good_load s.config.ram_len (load_of s)

-- a load that is not taken gets status 1, and the head goes on waiting
unfoldable pub load_answer : State → Reply
load_answer s = load_reply s.incoming.header (takes s)

-- a load that is taken: the head is then loading
abbrev pub loaded : Load → Progress
loaded l = record { phase = phase.Loading; size = l.size; block = 0; uss_used = uses_uss l; uss = l.uss }

unfoldable pub after_load : State → Progress
after_load s = cond (takes s) (loaded (load_of s)) s.progress

-- RAM after block k of a program of n bytes: only bytes below n are stored
abbrev pub stored_in : List ℕ → List ℕ → ℕ → ℕ → List ℕ
stored_in ram f n k = paste ram (place_of k) (carried_by f) (count_in n k)

abbrev pub next_block : Progress → Progress
next_block p = record { phase = p.phase; size = p.size; block = p.block + 1; uss_used = p.uss_used; uss = p.uss }

-- the program has the digest d: the last reply is written, and then the head starts or stops
unfoldable pub finished_with : List ℕ → State → List ℕ → List ℕ → List ℕ → Outcome
finished_with d s room ram uds =
    replied 129 (put_in room (sent (digest_reply s.incoming.header d))) (decided s.config s.progress d ram uds)

-- the first n bytes of RAM are measured
abbrev pub finished : State → List ℕ → List ℕ → List ℕ → Outcome
finished s room ram uds = finished_with (blake2s [] (take s.progress.size ram) 32) s room ram uds

unfoldable pub acted_block : State → List ℕ → List ℕ → List ℕ → Outcome
acted_block s room ram uds =
    let n = s.progress.size in
    let k = s.progress.block in
    let ram1 = stored_in ram (frame_in s) n k in
    cond (is_last n k)
    (finished s room ram1 uds)
    (replying (block_reply s.incoming.header) (between s (next_block s.progress)) room ram1 uds)

abbrev pub performed : Request → State → List ℕ → List ℕ → List ℕ → Outcome
performed asks_name s room ram uds = replying (name_reply s.incoming.header) (between s s.progress) room ram uds
performed asks_udi s room ram uds = replying (udi_reply s.incoming.header s.config.udi) (between s s.progress) room ram uds
performed gives_load s room ram uds = replying (load_answer s) (between s (after_load s)) room ram uds
performed gives_block s room ram uds = acted_block s room ram uds
performed (halts k) s room ram uds = stopping k s room ram uds

-- ---- a call

-- the first refusal that applies, 0 for none; 47 is acting while no frame is whole. What is lent is given by its lengths
unfoldable pub act_refusal : State → ℕ → ℕ → ℕ → ℕ
act_refusal s room ram uds =
    cond (not (in_range s)) 1
    (cond (not (live s.progress.phase)) 2
    (cond (not (is_whole s.incoming)) 47
    (cond (ltb room 129) 3
    (cond (not (eqb ram s.config.ram_len)) 4
    (cond (not (eqb uds 8)) 5 0)))))

-- a refused call changes nothing
abbrev pub refusing : ℕ → State → List ℕ → List ℕ → List ℕ → Outcome
refusing k s room ram uds = plain (refused k) 0 s room ram uds

unfoldable pub acted : State → List ℕ → List ℕ → List ℕ → Outcome
acted s room ram uds =
    let k = act_refusal s (length room) (length ram) (length uds) in
    cond (eqb k 0) (performed (request_of s) s room ram uds) (refusing k s room ram uds)
