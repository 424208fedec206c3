-- What is proved of the layout and of the calls for C. The proof is `abi_theorems` in proofs/Proved.antt.
use Rattle.std.specs.Prelude.{ℕ, ◌≡◌, Bool, true, ◌&&◌, ◌||◌, List, [], ◌∷◌, ◌++◌, map, eqb, leb, length, get_or, replicate, Result}
use Rattle.endian.specs.Lists.{zeros, padded}
use Rattle.head.specs.Answers.{reported, cdi_in, digest_in}
use Rattle.head.specs.Begin.{Flash, flash_of, beginning}
use Rattle.head.specs.Gather.{gathered}
use Rattle.head.specs.Act.{acted}
use Rattle.head.specs.Theorems.{bare_of, given_by}
use Rattle.head.specs.declared.Answer.{Answer}
use Rattle.head.specs.declared.Refusal.{Refusal}
use Rattle.head.specs.declared.State.{State}
use Rattle.session.specs.Session.{Call, gather, act, Entry, report_in, state_after, log}
use Rattle.abi.specs.Layout.{Memory, lent, holds, state_in, memory_of}
use Rattle.abi.specs.Calls.{answer_number, start_of, Start, start_in, GatherCall, gather_told, after_gather, gather_call, begin_told, begin_call, act_told, after_act, act_call}

-- the arrays have their lengths, as those of every value of the type do
pub record Sized (s : State) : Type 0 where
  pub body : length s.incoming.body ≡ 128
  pub first : length s.config.digests.first ≡ 32
  pub measured : length s.config.measured_id ≡ 32
  pub udi : length s.config.udi ≡ 8
  pub uss : length s.progress.uss ≡ 32
  pub second : length s.config.digests.second ≡ 32

-- memory of the lengths that are lent
pub record Lengths (m : Memory) : Type 0 where
  pub numbers : length m.numbers ≡ 3
  pub bytes : length m.bytes ≡ 268

-- the numbers of refusals
abbrev pub is_refusal : ℕ → Bool
is_refusal k = (leb 1 k && leb k 7) || eqb k 47

-- calls from C one after another, each on the memory that the one before it left: the answer of each, and the memory. Where an acting puts
-- what it gives makes no difference to them
abbrev pub call_on : Memory → Call → GatherCall
call_on m (gather byte) = gather_call m byte
call_on m (act l) = let c = act_call m l.room l.ram l.uds 0 (start_in [] [] []) in gather_told c.answer c.memory

abbrev pub calls_on : Memory → List Call → List GatherCall
calls_on m [] = []
calls_on m (c ∷ cs) = call_on m c ∷ calls_on (call_on m c).memory cs

-- ---- an example, as literal bytes: the record of type 5 with RESET_SEED and both allowed digests, the UDI 1 to 8, two bytes of RAM, and nothing in flash

abbrev pub example_record : List ℕ
example_record = (5 ∷ 0 ∷ 0 ∷ 0 ∷ 3 ∷ 0 ∷ 0 ∷ 0 ∷ []) ++ replicate 32 0xaa ++ replicate 32 0xbb ++ replicate 32 0xcc ++ zeros 152

abbrev pub example_udi : List ℕ
example_udi = 1 ∷ 2 ∷ 3 ∷ 4 ∷ 5 ∷ 6 ∷ 7 ∷ 8 ∷ []

-- its memory with these bytes of a frame, header and count
abbrev pub example_memory : List ℕ → ℕ → ℕ → Memory
example_memory body header got =
    lent (2 ∷ 0 ∷ 0 ∷ [])
    (padded 128 body ++ (header ∷ got ∷ 0 ∷ 11 ∷ []) ++ replicate 32 0xaa ++ replicate 32 0xbb ++ example_udi ++ zeros 32 ++ replicate 32 0xcc)

-- the flags that begin leaves for such a record, of another type and with another mask
abbrev pub example_flags : ℕ → ℕ → ℕ
example_flags type mask =
    get_or (begin_call (lent [] []) (type ∷ 0 ∷ 0 ∷ 0 ∷ mask ∷ zeros 251) example_udi (flash_of [] 0 [] 0 (zeros 32)) (0 ∷ 0 ∷ []) (zeros 8) (start_in [] [] [])).memory.bytes 131 0

-- what begin, the query 10 01 byte by byte, and the acting on it leave
pub record Example : Type 0 where
  pub begins : (m : Memory) (old : Start)
      → begin_call m example_record example_udi (flash_of [] 0 [] 0 (zeros 32)) (0 ∷ 0 ∷ []) (zeros 8) old
      ≡ begin_told 0 (example_memory [] 0 0) (start_in (0 ∷ 0 ∷ []) (zeros 32) (zeros 32)) (0 ∷ 0 ∷ []) (zeros 8)
  pub flags : (example_flags 5 0 ≡ 1) × (example_flags 4 1 ≡ 2) × (example_flags 4 2 ≡ 8) × (example_flags 4 0xfc ≡ 0)
  pub header : gather_call (example_memory [] 0 0) 0x10 ≡ gather_told 0 (example_memory [] 0x10 1)
  pub query : gather_call (example_memory [] 0x10 1) 0x01 ≡ gather_told 64 (example_memory (0x01 ∷ []) 0x10 2)
  pub reply : (old : Start) → act_call (example_memory (0x01 ∷ []) 0x10 2) (replicate 129 0xee) (0 ∷ 0 ∷ []) (zeros 8) 7 old
      ≡ act_told 0 (example_memory [] 0 0) 33 (start_in (0 ∷ 0 ∷ []) (zeros 32) (zeros 32))
      (padded 33 (0x12 ∷ 0x02 ∷ 0x74 ∷ 0x6b ∷ 0x31 ∷ 0x20 ∷ 0x6d ∷ 0x6b ∷ 0x64 ∷ 0x66 ∷ 1 ∷ []) ++ replicate 96 0xee)
      (0 ∷ 0 ∷ [])
      (zeros 8)
  -- a bad header stops: of the memory only the RAM's length and the phase are left
  pub stop : gather_call (example_memory [] 0 0) 0x90 ≡ gather_told 22 (lent (2 ∷ 0 ∷ 0 ∷ []) (zeros 130 ++ (3 ∷ []) ++ zeros 137))

pub record AbiTheorems : Type 0 where
  -- a state's memory has these lengths and holds that state
  pub lengths : (s : State) → Sized s → Lengths (memory_of s)
  pub back : (s : State) → Sized s → (holds (memory_of s).bytes ≡ true) × (state_in (memory_of s) ≡ s)
  -- memory that holds a state is that state's memory
  pub forth : (m : Memory) → Lengths m → holds m.bytes ≡ true → Sized (state_in m) × (memory_of (state_in m) ≡ m)
  -- no two answers have one number, but for starts with another address or size, or with another CDI or digest
  pub answers : (x y : Result Answer Refusal) → answer_number (reported x) ≡ answer_number (reported y) → start_of (reported x) ≡ start_of (reported y)
      → (bare_of x ≡ bare_of y) × (given_by cdi_in x ≡ given_by cdi_in y → given_by digest_in x ≡ given_by digest_in y → x ≡ y)
  -- a call that answers the number of a refusal leaves everything that it was lent
  pub begin_kept : (m : Memory) (bytes udi : List ℕ) (f : Flash) (ram uds : List ℕ) (old : Start)
      → is_refusal (begin_call m bytes udi f ram uds old).answer ≡ true
      → begin_call m bytes udi f ram uds old ≡ begin_told (begin_call m bytes udi f ram uds old).answer m old ram uds
  pub gather_kept : (m : Memory) → Lengths m → (byte : ℕ) → is_refusal (gather_call m byte).answer ≡ true
      → gather_call m byte ≡ gather_told (gather_call m byte).answer m
  pub act_kept : (m : Memory) → Lengths m → (room ram uds : List ℕ) (reply : ℕ) (old : Start)
      → is_refusal (act_call m room ram uds reply old).answer ≡ true
      → act_call m room ram uds reply old ≡ act_told (act_call m room ram uds reply old).answer m reply old room ram uds
  -- on the memory of a state each call answers what it answers on that state, and leaves the memory of the next state; a begin gives such a state
  pub begins : (bytes udi : List ℕ) (f : Flash) (ram uds : List ℕ) → length bytes ≡ 256 → length udi ≡ 8 → length f.built_in ≡ 32
      → Sized (beginning bytes udi f ram uds).state
  pub gathers : (s : State) → Sized s → (byte : ℕ) → (gather_call (memory_of s) byte ≡ after_gather (gathered s byte)) × Sized (gathered s byte).state
  pub acts : (s : State) → Sized s → (room ram uds : List ℕ) (reply : ℕ) (old : Start)
      → (act_call (memory_of s) room ram uds reply old ≡ after_act (acted s room ram uds) reply old) × Sized (acted s room ram uds).state
  -- so calls from C that follow a begin are the calls of a session, answer by answer and state by state
  pub lists : (s : State) → Sized s → (calls : List Call)
      → calls_on (memory_of s) calls ≡ map (λ (e : Entry). gather_told (answer_number (report_in e)) (memory_of (state_after e))) (log s calls)
  pub example : Example
