-- Begin: document 01, "Reset record and lent memory", and change request 3, refusals 5 to 7, stops 20, 25 and 26.
use Rattle.std.specs.Prelude.{ℕ, Bool, not, cond, ◌&&◌, List, [], eqb, leb, length, take}
use Rattle.rfc7693.specs.Rfc7693.{blake2s}
use Rattle.record.specs.Record.{Contents, record_at}
use Rattle.record.specs.Types.{Source, slot0, slot1, client, unknown, source_of, verifies, digests_of}
use Rattle.protocol.specs.Commands.{length_ok}
use Rattle.protocol.specs.Replies.{put_in}
use Rattle.head.specs.State.{idle, of_size}
use Rattle.head.specs.Answers.{refused, continues, stopped, Result}
use Rattle.head.specs.Start.{unstarted, ending, decided}
use Rattle.head.specs.declared.Phase.TheVariants as phase
use Rattle.head.specs.declared.Config.{Config}
use Rattle.head.specs.declared.Progress.{Progress}

-- a slot of flash, and the size that the program in it is said to have
pub record Slot : Type 0 where
  pub bytes : List ℕ
  pub size : ℕ

-- what of flash begin is lent and given: two slots, and the digest that is built into the firmware
pub record Flash : Type 0 where
  pub slot0 : Slot
  pub slot1 : Slot
  pub built_in : List ℕ

abbrev pub flash_of : List ℕ → ℕ → List ℕ → ℕ → List ℕ → Flash
flash_of s0 n0 s1 n1 d = record { slot0 = record { bytes = s0; size = n0 }; slot1 = record { bytes = s1; size = n1 }; built_in = d }

-- the program is the slot's front part
abbrev pub program_in : Slot → List ℕ
program_in s = take s.size s.bytes

-- a size of 0, over the slot or over the RAM's length m is stop 26
abbrev pub fits : ℕ → ℕ → ℕ → Bool
fits n slot m = leb 1 n && (leb n slot && leb n m)

-- what begin fixes, for a session and for a start from flash
abbrev pub config_of : Contents → List ℕ → List ℕ → ℕ → Config
config_of r udi built_in m =
    record {
      ram_len = m;
      measured_id = r.measured_id;
      udi = udi;
      digests = digests_of r.type built_in r.digests;
      verify = verifies r.type;
      chained = r.reset_seed;
    }

-- types 4 and 5: nothing of a load is there, and one is waited for
abbrev pub waiting : Progress
waiting = of_size phase.Waiting 0

abbrev pub waiting_with : Config → List ℕ → List ℕ → Result
waiting_with c ram uds = unstarted continues (record { incoming = idle; config = c; progress = waiting }) ram uds

-- types 0 to 3, without a user secret: the program in the slot is measured, put at the front of RAM, and started if its digest is allowed
unfoldable pub from_flash : Slot → Config → List ℕ → List ℕ → Result
from_flash s c ram uds =
    cond (fits s.size (length s.bytes) (length ram))
    (decided c (of_size phase.Loading s.size) (blake2s [] (program_in s) 32) (put_in ram (program_in s)) uds)
    (ending (stopped 26) c.ram_len ram uds)

-- by where the program comes from; an unknown type is stop 20
abbrev pub by_source : Source → Flash → Config → List ℕ → List ℕ → Result
by_source slot0 f c ram uds = from_flash f.slot0 c ram uds
by_source slot1 f c ram uds = from_flash f.slot1 c ram uds
by_source client f c ram uds = waiting_with c ram uds
by_source unknown f c ram uds = ending (stopped 20) c.ram_len ram uds

abbrev pub by_type : Contents → List ℕ → Flash → List ℕ → List ℕ → Result
by_type r udi f ram uds = by_source (source_of r.type) f (config_of r udi f.built_in (length ram)) ram uds

-- the lowest refusal that applies, 0 for none, by the lengths of the record, of RAM and of the UDS
abbrev pub begin_refusal : ℕ → ℕ → ℕ → ℕ
begin_refusal n m w = cond (not (eqb w 8)) 5 (cond (not (eqb n 256)) 6 (cond (not (length_ok m)) 7 0))

-- a refused begin leaves RAM and the UDS, and hands back one state, which depends on nothing
unfoldable pub beginning : List ℕ → List ℕ → Flash → List ℕ → List ℕ → Result
beginning bytes udi f ram uds =
    let k = begin_refusal (length bytes) (length ram) (length uds) in
    cond (eqb k 0) (by_type (record_at bytes) udi f ram uds) (ending (refused k) 1 ram uds)
