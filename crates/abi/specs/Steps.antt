-- What the functions behind the calls promise. A reader of the promises of the calls does not need this file.
use Rattle.std.specs.Prelude.{ℕ}
use Rattle.head.specs.Gather.{byte_step, after_step}
use Rattle.abi.specs.Layout.{Memory, state_in}
use Rattle.abi.specs.Calls.{GatherCall, after_gather}

-- a byte of a call that is not refused
unfoldable pub admitted : Memory → ℕ → GatherCall
admitted m byte = after_gather (after_step (byte_step (state_in m).incoming byte) (state_in m))
