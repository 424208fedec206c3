-- The state of a head as memory that C lends: which memory holds which state, and which holds none. include/mastfrap.h has the same table.
--     numbers, of 32 bits   0 the RAM's length, 1 the program's size, 2 the block that is waited for
--     bytes                 0 to 127 the body of the frame, 128 its header, 129 how many of its bytes have come, 130 the phase, 131 the flags,
--                           132 to 163 the first allowed digest, 164 to 195 measured_id, 196 to 203 the UDI, 204 to 235 the user secret, 236 to 267
--                           the second allowed digest
use Rattle.std.specs.Prelude.{ℕ, ◌+◌, ◌*◌, ◌/◌, ◌%◌, Bool, cond, ◌&&◌, List, [], ◌∷◌, ◌++◌, eqb, leb, get_or, take, drop}
use Rattle.head.specs.declared.Phase.{Phase}
use Rattle.head.specs.declared.Phase.TheVariants.{Waiting, Loading, Started, Stopped}
use Rattle.head.specs.declared.State.{State}

pub record Memory : Type 0 where
  pub numbers : List ℕ
  pub bytes : List ℕ

abbrev pub lent : List ℕ → List ℕ → Memory
lent n b = record { numbers = n; bytes = b }

-- the number of each phase
abbrev pub phase_number : Phase → ℕ
phase_number Waiting = 0
phase_number Loading = 1
phase_number Started = 2
phase_number Stopped = 3

-- and back; a number over 3 is no phase
abbrev pub phase_of : ℕ → Phase
phase_of k = cond (eqb k 0) Waiting (cond (eqb k 1) Loading (cond (eqb k 2) Started Stopped))

-- the flags as one number: 1 verify, 2 chained, 4 uss_used, 8 has_second
abbrev pub as_bit : Bool → ℕ
as_bit t = cond t 1 0

abbrev pub flags_of : State → ℕ
flags_of s = as_bit s.config.verify + 2 * as_bit s.config.chained + 4 * as_bit s.progress.uss_used + 8 * as_bit s.config.digests.has_second

-- and back: the flag of weight w; a number over 15 is no flags
abbrev pub flag_in : ℕ → ℕ → Bool
flag_in w k = eqb (k / w % 2) 1

-- memory with these bytes holds a state unless its phase or its flags are none
abbrev pub holds : List ℕ → Bool
holds b = leb (get_or b 130 0) 3 && leb (get_or b 131 0) 15

-- the state that it holds
unfoldable pub state_in : Memory → State
state_in m =
    let n = m.numbers in
    let b = m.bytes in
    record {
      incoming = record { header = get_or b 128 0; got = get_or b 129 0; body = take 128 b };
      config =
          record {
            ram_len = get_or n 0 0;
            measured_id = take 32 (drop 164 b);
            udi = take 8 (drop 196 b);
            digests = record { first = take 32 (drop 132 b); second = take 32 (drop 236 b); has_second = flag_in 8 (get_or b 131 0) };
            verify = flag_in 1 (get_or b 131 0);
            chained = flag_in 2 (get_or b 131 0);
          };
      progress =
          record {
            phase = phase_of (get_or b 130 0);
            size = get_or n 1 0;
            block = get_or n 2 0;
            uss_used = flag_in 4 (get_or b 131 0);
            uss = take 32 (drop 204 b);
          };
    }

-- the four bytes after the body
abbrev pub small_of : State → List ℕ
small_of s = s.incoming.header ∷ s.incoming.got ∷ phase_number s.progress.phase ∷ flags_of s ∷ []

-- the memory of a state
unfoldable pub memory_of : State → Memory
memory_of s =
    record {
      numbers = s.config.ram_len ∷ s.progress.size ∷ s.progress.block ∷ [];
      bytes = s.incoming.body ++ small_of s ++ s.config.digests.first ++ s.config.measured_id ++ s.config.udi ++ s.progress.uss ++ s.config.digests.second;
    }
