-- Refusal 1 of document 01: no state reached from a begin, accepted or not, is out of the range of docs/STATES.md. The proof is `ranges` in
-- proofs/Ranges.antt.
use Rattle.std.specs.Prelude.{◌≡◌, true, List}
use Rattle.head.specs.State.{in_range}
use Rattle.head.specs.Answers.{refused}
use Rattle.head.specs.declared.State.{State}
use Rattle.session.specs.Session.{Reset, begun, Call, Entry, report_in, state_after, Among, log}

-- any begin and any calls after it
module _ (R : Reset) (calls : List Call) where
  abbrev pub first : State
  first = (begun R).state

  pub record Ranges : Type 0 where
    -- the state that begin hands back is in range, and so is that after each call
    pub begun : in_range first ≡ true
    pub reached : (e : Entry) → Among e (log first calls) → in_range (state_after e) ≡ true
    -- no call answers refusal 1
    pub never_one : (e : Entry) → Among e (log first calls) → report_in e ≡ refused 1 → ⊥
