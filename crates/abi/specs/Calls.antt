-- What each call for C answers and leaves in everything that it is lent: begin, gather and act of `head`, through `state_in` and `memory_of`.
use Rattle.std.specs.Prelude.{ℕ, Bool, true, false, cond, List, [], ◌∷◌}
use Rattle.head.specs.Answers.{Report, refused, continues, whole, stopped, started, Gathering, Result, Outcome}
use Rattle.head.specs.Begin.{Flash, beginning}
use Rattle.head.specs.Gather.{gathered}
use Rattle.head.specs.Act.{acted}
use Rattle.abi.specs.Layout.{Memory, holds, state_in, memory_of}

-- one number for each answer: that of the refusal or of the stop, and 64 and 65 for whole and started
abbrev pub answer_number : Report → ℕ
answer_number (refused k) = k
answer_number continues = 0
answer_number whole = 64
answer_number (stopped k) = k
answer_number (started address size) = 65

-- address and size of a start; zeros otherwise
abbrev pub start_of : Report → List ℕ
start_of (refused k) = 0 ∷ 0 ∷ []
start_of continues = 0 ∷ 0 ∷ []
start_of whole = 0 ∷ 0 ∷ []
start_of (stopped k) = 0 ∷ 0 ∷ []
start_of (started address size) = address ∷ size ∷ []

abbrev pub is_refused : Report → Bool
is_refused (refused k) = true
is_refused continues = false
is_refused whole = false
is_refused (stopped k) = false
is_refused (started address size) = false

-- a refused call changes nothing
abbrev pub kept : {A : Type 0} → Report → A → A → A
kept r old new = cond (is_refused r) old new

-- what a start gives, in memory that C lends
pub record Start : Type 0 where
  -- address and size
  pub start : List ℕ
  pub cdi : List ℕ
  pub digest : List ℕ

abbrev pub start_in : List ℕ → List ℕ → List ℕ → Start
start_in start cdi digest = record { start = start; cdi = cdi; digest = digest }

-- ---- gathering a byte

pub record GatherCall : Type 0 where
  pub answer : ℕ
  pub memory : Memory

abbrev pub gather_told : ℕ → Memory → GatherCall
gather_told k m = record { answer = k; memory = m }

abbrev pub after_gather : Gathering → GatherCall
after_gather g = gather_told (answer_number g.report) (memory_of g.state)

-- memory that holds no state is refused with 1. Any other refusal hands back the state, whose memory is this one
unfoldable pub gather_call : Memory → ℕ → GatherCall
gather_call m byte = cond (holds m.bytes) (after_gather (gathered (state_in m) byte)) (gather_told 1 m)

-- ---- begin

pub record BeginCall : Type 0 where
  pub answer : ℕ
  pub memory : Memory
  pub given : Start
  pub ram : List ℕ
  pub uds : List ℕ

abbrev pub begin_told : ℕ → Memory → Start → List ℕ → List ℕ → BeginCall
begin_told k m given ram uds = record { answer = k; memory = m; given = given; ram = ram; uds = uds }

abbrev pub after_begin : Result → Memory → Start → BeginCall
after_begin x m old =
    begin_told (answer_number x.report) (kept x.report m (memory_of x.state))
    (kept x.report old (start_in (start_of x.report) x.cdi x.digest))
    x.ram
    x.uds

unfoldable pub begin_call : Memory → List ℕ → List ℕ → Flash → List ℕ → List ℕ → Start → BeginCall
begin_call m bytes udi f ram uds old = after_begin (beginning bytes udi f ram uds) m old

-- ---- acting on a frame

pub record ActCall : Type 0 where
  pub answer : ℕ
  pub memory : Memory
  -- how many bytes of the room are a reply
  pub reply : ℕ
  pub given : Start
  pub room : List ℕ
  pub ram : List ℕ
  pub uds : List ℕ

abbrev pub act_told : ℕ → Memory → ℕ → Start → List ℕ → List ℕ → List ℕ → ActCall
act_told k m reply given room ram uds =
    record { answer = k; memory = m; reply = reply; given = given; room = room; ram = ram; uds = uds }

abbrev pub after_act : Outcome → ℕ → Start → ActCall
after_act o reply old =
    act_told (answer_number o.report) (memory_of o.state) (kept o.report reply o.reply)
    (kept o.report old (start_in (start_of o.report) o.cdi o.digest))
    o.room
    o.ram
    o.uds

unfoldable pub act_call : Memory → List ℕ → List ℕ → List ℕ → ℕ → Start → ActCall
act_call m room ram uds reply old =
    cond (holds m.bytes) (after_act (acted (state_in m) room ram uds) reply old) (act_told 1 m reply old room ram uds)
