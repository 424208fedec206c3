-- Whether a program that was measured starts, and what a start is and gives: document 01, "Commands and replies", and change request 6. It stands
-- once, for a program that a client sent (Act) and for one from flash (Begin).
use Rattle.std.specs.Prelude.{ℕ, Bool, true, cond, List}
use Rattle.endian.specs.Endian.{bytes}
use Rattle.endian.specs.Lists.{zeros}
use Rattle.record.specs.Types.{one_of}
use Rattle.cdi.specs.Cdi.{cdi_of}
use Rattle.head.specs.State.{ended}
use Rattle.head.specs.Answers.{Report, stopped, started, Result}
use Rattle.head.specs.declared.Phase.TheVariants as phase
use Rattle.head.specs.declared.Config.{Config}
use Rattle.head.specs.declared.Progress.{Progress}
use Rattle.head.specs.declared.State.{State}

-- no start: neither CDI nor digest
abbrev pub unstarted : Report → State → List ℕ → List ℕ → Result
unstarted report s ram uds = record { report = report; state = s; cdi = zeros 32; digest = zeros 32; ram = ram; uds = uds }

-- no start, and the state of an end, for a RAM of m bytes
abbrev pub ending : Report → ℕ → List ℕ → List ℕ → Result
ending report m ram uds = unstarted report (ended phase.Stopped m) ram uds

-- a program with the digest d may start: where it must have an allowed one, d is one of them
abbrev pub allowed : Config → List ℕ → Bool
allowed c d = cond c.verify (one_of c.digests d) true

-- a start gives the CDI, the digest d, the address and the size; each word of the UDS is then zero. Of the progress only size and user secret are
-- read
unfoldable pub starting : Config → Progress → List ℕ → List ℕ → List ℕ → Result
starting c p d ram uds =
    record {
      report = started 0x40000000 p.size;
      state = ended phase.Started c.ram_len;
      cdi = cdi_of (bytes uds) c.chained c.measured_id d p.uss_used p.uss;
      digest = d;
      ram = ram;
      uds = zeros 8;
    }

-- the program in RAM has the digest d: the head starts it, or stops with 25
unfoldable pub decided : Config → Progress → List ℕ → List ℕ → List ℕ → Result
decided c p d ram uds = cond (allowed c d) (starting c p d ram uds) (ending (stopped 25) c.ram_len ram uds)
