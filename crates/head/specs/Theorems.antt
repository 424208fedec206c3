-- What is proved about the calls, besides the promises of `begin`, `gather` and `act`. The proof is `head_theorems` in proofs/Proved.antt.
use Rattle.std.specs.Prelude.{Result as Tried, Ok, Err}
use Rattle.std.specs.Prelude.{ℕ, ◌+◌, ◌≤◌, ◌≡◌, ◌↔◌, ◌⊎◌, true, false, cond, List, [], ◌∷◌, eqb, length, take, drop}
use Rattle.std.proofs.Math.Seq.{paste}
use Rattle.framing.specs.Header.{good, header_at}
use Rattle.framing.specs.Theorems.{bit}
use Rattle.rfc7693.specs.Rfc7693.{blake2s}
use Rattle.protocol.specs.Commands.{place_of, count_in}
use Rattle.protocol.specs.Replies.{header_in}
use Rattle.protocol.specs.Theorems.{StatusTold}
use Rattle.endian.specs.Lists.{zeros}
use Rattle.head.specs.State.{is_whole, in_range, live, idle, ended}
use Rattle.head.specs.Answers.{refused, continues, whole, stopped, started, reported, cdi_in, digest_in, Gathering, Result, Outcome, replied, unreplied}
use Rattle.head.specs.Start.{unstarted, ending}
use Rattle.head.specs.Begin.{Flash, begin_refusal, beginning}
use Rattle.head.specs.Gather.{gather_refusal, with_incoming, gathered}
use Rattle.head.specs.Act.{gives_load, request_of, takes, act_refusal, refusing, acted}
use Rattle.head.specs.declared.Phase.TheVariants as phase
use Rattle.head.specs.declared.State.{State}
use Rattle.head.specs.declared.Refusal.{Refusal}
use Rattle.head.specs.declared.Answer.{Answer}
use Rattle.head.specs.declared.Answer.TheVariants.{Continue, Whole, Stopped, Started}

-- an answer without the CDI and the digest that a start gives
abbrev pub bare : Answer → Answer
bare Continue = Continue
bare Whole = Whole
bare (Stopped s) = Stopped s
bare (Started x) = Started (record { address = x.address; size = x.size; cdi = []; digest = [] })

abbrev pub bare_of : Tried Answer Refusal → Tried Answer Refusal
bare_of (Ok a) = Ok (bare a)
bare_of (Err r) = Err r

-- what a call gives with it, nothing where it is refused
abbrev pub given_by : (Answer → List ℕ) → Tried Answer Refusal → List ℕ
given_by f (Ok a) = f a
given_by f (Err r) = []

-- after the gathering g, bytes gathered one after the other
abbrev pub gathered_on : List ℕ → Gathering → Gathering
gathered_on [] g = g
gathered_on (b ∷ bs) g = gathered_on bs (gathered g.state b)

-- x is y but for the bytes of the block that the state waits for; while it waits for a load these are none, and x is y
abbrev pub SameButBlock : State → List ℕ → List ℕ → Type 0
SameButBlock s x y =
    let place = place_of s.progress.block in
    let end = place + count_in s.progress.size s.progress.block in
    (length x ≡ length y) × (take place x ≡ take place y) × (drop end x ≡ drop end y)

-- a result with other words for the UDS, or with another CDI
abbrev pub with_uds : List ℕ → Result → Result
with_uds uds x = record { report = x.report; state = x.state; cdi = x.cdi; digest = x.digest; ram = x.ram; uds = uds }

abbrev pub with_cdi : List ℕ → Result → Result
with_cdi cdi x = record { report = x.report; state = x.state; cdi = cdi; digest = x.digest; ram = x.ram; uds = x.uds }

-- an outcome with its result changed: the reply stays
abbrev pub changed : (Result → Result) → Outcome → Outcome
changed f o = replied o.reply o.room (f (unreplied o))

-- begin with anything lent
module _ (bytes udi : List ℕ) (f : Flash) (ram uds : List ℕ) where
  -- what the call leads to
  abbrev pub after_begin : Result
  after_begin = beginning bytes udi f ram uds

  pub record BeginProperties : Type 0 where
    -- every state that begin hands back is in range
    pub range : in_range after_begin.state ≡ true
    -- a call answers the number of a refusal exactly when that is the number of what is lent; RAM and the UDS then stay
    pub refuses : (k : ℕ) → (after_begin.report ≡ refused k) ↔ ((k ≡ begin_refusal (length bytes) (length ram) (length uds)) × (k ≡ 0 → ⊥))
    pub kept : (k : ℕ) → after_begin.report ≡ refused k → after_begin ≡ ending (refused k) 1 ram uds
    -- where a session begins, RAM and the UDS stay, and neither CDI nor digest is given
    pub goes_on : after_begin.report ≡ continues → after_begin ≡ unstarted continues after_begin.state ram uds
    -- no begin makes a frame whole
    pub no_whole : after_begin.report ≡ whole → ⊥
    -- after a stop, 20, 25 or 26, the state is the one of an end and the UDS stays; only 25 comes after RAM was written
    pub stops : (k : ℕ) → after_begin.report ≡ stopped k
        → ((k ≡ 20) ⊎ ((k ≡ 25) ⊎ (k ≡ 26))) × (after_begin ≡ ending (stopped k) (length ram) after_begin.ram uds)
        × ((k ≡ 25 → ⊥) → after_begin.ram ≡ ram)
    -- after a start the state is the one of an end, each word of the UDS is zero, and the digest is that of the first n bytes of RAM
    pub starts : (address n : ℕ) → after_begin.report ≡ started address n
        → (address ≡ 0x40000000) × (1 ≤ n) × (n ≤ length ram) × (after_begin.state ≡ ended phase.Started (length ram))
        × (after_begin.uds ≡ zeros 8) × (after_begin.digest ≡ blake2s [] (take n after_begin.ram) 32) × (drop n after_begin.ram ≡ drop n ram)
    -- RAM keeps its length
    pub ram_length : length after_begin.ram ≡ length ram
    -- only a start depends on the UDS (document 01: it is read only at a start): a call that answers none leaves its words, and does the same
    -- with any others, if they are as many; with others a start may give another CDI, and all else is the same
    pub secret : ((address n : ℕ) → after_begin.report ≡ started address n → ⊥)
        → (after_begin.uds ≡ uds) × ((other : List ℕ) → length other ≡ length uds → beginning bytes udi f ram other ≡ with_uds other after_begin)
    pub identity : (address n : ℕ) → after_begin.report ≡ started address n
        → (other : List ℕ) → length other ≡ length uds → beginning bytes udi f ram other ≡ with_cdi (beginning bytes udi f ram other).cdi after_begin
    -- unless a session begins, every call on the state is refused with 2
    pub over : (after_begin.report ≡ continues → ⊥)
        → ((b : ℕ) → gathered after_begin.state b ≡ record { report = refused 2; state = after_begin.state })
        × ((room ram uds : List ℕ) → acted after_begin.state room ram uds ≡ refusing 2 after_begin.state room ram uds)

-- any byte gathered in any state, in range or not
module _ (s : State) (b : ℕ) where
  -- what the call leads to
  abbrev pub after_gather : Gathering
  after_gather = gathered s b

  pub record GatherProperties : Type 0 where
    -- a state in range stays in range
    pub stays : in_range s ≡ true → in_range after_gather.state ≡ true
    -- a call answers the number of a refusal exactly when that is the number of its state, which it then returns
    pub refuses : (k : ℕ) → (after_gather.report ≡ refused k) ↔ ((k ≡ gather_refusal s) × (k ≡ 0 → ⊥))
    pub kept : (k : ℕ) → after_gather.report ≡ refused k → after_gather.state ≡ s
    -- while the session goes on, only the frame that is being gathered changes, and the answer says whether it is whole
    pub goes_on : (after_gather.report ≡ continues) ⊎ (after_gather.report ≡ whole) → after_gather.state ≡ with_incoming s after_gather.state.incoming
    pub not_whole : after_gather.report ≡ continues → is_whole after_gather.state.incoming ≡ false
    pub has_whole : after_gather.report ≡ whole → is_whole after_gather.state.incoming ≡ true
    -- and it has neither started nor stopped
    pub lives : (after_gather.report ≡ continues) ⊎ (after_gather.report ≡ whole) → live after_gather.state.progress.phase ≡ true
    -- 22 is the only stop, and the state is then the one of an end; no byte starts a program
    pub stops : (k : ℕ) → after_gather.report ≡ stopped k → (k ≡ 22) × (after_gather.state ≡ ended phase.Stopped s.config.ram_len)
    pub no_start : (address size : ℕ) → after_gather.report ≡ started address size → ⊥

-- acting in any state, in range or not, with anything lent
module _ (s : State) (room ram uds : List ℕ) where
  -- what the call leads to
  abbrev pub after_act : Outcome
  after_act = acted s room ram uds

  pub record ActProperties : Type 0 where
    -- a state in range stays in range
    pub stays : in_range s ≡ true → in_range after_act.state ≡ true
    -- a call answers the number of a refusal exactly when that is the number of its state and of what is lent; it then returns what it was
    -- given
    pub refuses : (k : ℕ) → (after_act.report ≡ refused k) ↔ ((k ≡ act_refusal s (length room) (length ram) (length uds)) × (k ≡ 0 → ⊥))
    pub kept : (k : ℕ) → after_act.report ≡ refused k → after_act ≡ refusing k s room ram uds
    -- a reply has at most 129 bytes, and beyond it the room is as it was
    pub fits : after_act.reply ≤ 129
    pub beyond : drop after_act.reply after_act.room ≡ drop after_act.reply room
    -- bit 2 of its header is set exactly when it has a status and that is 1 (change request 5)
    pub told : 1 ≤ after_act.reply → StatusTold (take after_act.reply after_act.room)
    -- and it is set exactly where the frame is a load that is not taken
    pub shows : 1 ≤ after_act.reply → (bit 2 (header_in after_act.room) ≡ 1) ↔ ((request_of s ≡ gives_load) × (takes s ≡ false))
    -- only the block's bytes of RAM are written, and those only by a call that replies; that the gathered body has 128 bytes is its type in
    -- the code
    pub beyond_block : length s.incoming.body ≡ 128 → SameButBlock s after_act.ram ram
    pub without_reply : after_act.reply ≡ 0 → after_act.ram ≡ ram
    -- while the session goes on there is a reply, nothing is left of the frame, what begin fixed and the UDS stay, and neither CDI nor digest is
    -- given
    pub goes_on : after_act.report ≡ continues
        → (1 ≤ after_act.reply) × (after_act.state.incoming ≡ idle) × (after_act.state.config ≡ s.config) × (after_act.uds ≡ uds)
        × (after_act.cdi ≡ zeros 32) × (after_act.digest ≡ zeros 32)
    -- and it has neither started nor stopped
    pub lives : after_act.report ≡ continues → live after_act.state.progress.phase ≡ true
    -- no acting makes a frame whole
    pub no_whole : after_act.report ≡ whole → ⊥
    -- after a stop, 23 to 25, the state is the one of an end and the UDS stays; only 25 has a reply, and only it comes after RAM was written
    pub stops : (k : ℕ) → after_act.report ≡ stopped k
        → (23 ≤ k) × (k ≤ 25) × (after_act.state ≡ ended phase.Stopped s.config.ram_len) × (after_act.uds ≡ uds)
        × (after_act.cdi ≡ zeros 32) × (after_act.digest ≡ zeros 32)
        × (after_act.reply ≡ cond (eqb k 25) 129 0)
        × ((k ≡ 25 → ⊥) → (after_act.room ≡ room) × (after_act.ram ≡ ram))
    -- after a start the state is the one of an end, and each word of the UDS is zero
    pub starts : (address size : ℕ) → after_act.report ≡ started address size
        → (address ≡ 0x40000000) × (size ≡ s.progress.size) × (after_act.state ≡ ended phase.Started s.config.ram_len)
        × (after_act.uds ≡ zeros 8) × (after_act.reply ≡ 129)
    -- only a start depends on the UDS (document 01: it is read only at a start): a call that answers none leaves its words, and does the same
    -- with any others, if they are as many; with others a start may give another CDI, and all else is the same
    pub secret : ((address size : ℕ) → after_act.report ≡ started address size → ⊥)
        → (after_act.uds ≡ uds) × ((other : List ℕ) → length other ≡ length uds → acted s room ram other ≡ changed (with_uds other) after_act)
    pub identity : (address size : ℕ) → after_act.report ≡ started address size
        → (other : List ℕ) → length other ≡ length uds → acted s room ram other ≡ changed (with_cdi (acted s room ram other).cdi) after_act

pub record HeadTheorems : Type 0 where
  -- the reported number and values settle the answer, but for the CDI and the digest of a start; with these two, all of it
  pub answers : (x y : Tried Answer Refusal) → reported x ≡ reported y
      → (bare_of x ≡ bare_of y) × (given_by cdi_in x ≡ given_by cdi_in y → given_by digest_in x ≡ given_by digest_in y → x ≡ y)
  pub begin : (bytes udi : List ℕ) (f : Flash) (ram uds : List ℕ) → BeginProperties bytes udi f ram uds
  pub gather : (s : State) (b : ℕ) → GatherProperties s b
  pub act : (s : State) (room ram uds : List ℕ) → ActProperties s room ram uds
  -- a good frame gathered between frames, from its header to its last byte: one for the firmware is whole, with its body at the front of the
  -- gathered bytes; one for another endpoint leaves nothing
  pub frame : (s : State) (h id ep n : ℕ) (body : List ℕ) → gather_refusal s ≡ 0 → s.incoming.got ≡ 0 → length s.incoming.body ≡ 128
      → header_at h ≡ good id ep n → length body ≡ n
      → gathered_on body (gathered s h) ≡ record {
        report = cond (eqb ep 2) whole continues;
        state = with_incoming s (cond (eqb ep 2) (record { header = h; got = n + 1; body = paste s.incoming.body 0 body n }) idle);
      }
  -- in the body of a frame for another endpoint it makes no difference what the byte is: none enters the state
  pub passed_over : (s : State) (b b' : ℕ) (id ep n : ℕ) → (s.incoming.got ≡ 0 → ⊥)
      → header_at s.incoming.header ≡ good id ep n → (ep ≡ 2 → ⊥) → gathered s b ≡ gathered s b'
