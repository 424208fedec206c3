-- begin and act by value, as calls on lent memory.
use Prim.Native.Nat.{ℕ, ◌<◌, ◌≤◌, ◌^◌}
use mathlib.Core.Path.{◌≡◌, refl, sym, ap, ◌∙◌}
use mathlib.Core.Bool.{Bool, true, false}
use mathlib.Core.List.{List}
use native.Mathlib.Omega.{arith}
use lib.Dec.{eqb}
use lib.ListN.{length}
use borrow.Author.Tests.{eqb-true, eqb-false}
use Rattle.endian.proofs.Cases.{impossible}
use Rattle.head.specs.State.{in_range}
use Rattle.std.specs.Prelude.{Result as Tried, Ok, Err}
use Rattle.head.specs.Answers.{refusal_number, refused, report_of, cdi_in, digest_in, Result, result_of, Outcome, outcome_in, outcome}
use Rattle.head.specs.Begin.{Flash, beginning}
use Rattle.head.specs.Act.{act_refusal, acted}
use Rattle.head.specs.declared.State.{State}
use Rattle.head.specs.declared.Refusal.{Refusal}
use Rattle.head.specs.declared.Answer.{Answer}
use Rattle.head.specs.declared.Answer.TheVariants.{Continue, Whole, Stopped, Started}
use Rattle.head.specs.declared.Step.{Step}
use Rattle.head.specs.declared.Acted.{Acted}
use Rattle.head.proofs.Admitted.{act_admitted}
use Rattle.head.proofs.Ranges.{range_facts}
use Rattle.head.proofs.Proved.{head_theorems}
use Rattle.abi.specs.Layout.{Memory, holds, state_in, memory_of}
use Rattle.abi.specs.Theorems.{Lengths}
use Rattle.abi.specs.Calls.{answer_number, start_of, is_refused, Start, start_in, after_begin, begin_told, begin_call, after_act, act_told, act_call}
use Rattle.abi.proofs.RoundTrip.{forth}

-- what is no refusal
answered : (a : Answer) → is_refused (report_of a) ≡ false
answered Continue = refl
answered Whole = refl
answered (Stopped s) = refl
answered (Started x) = refl

-- ---- begin

module _ (m : Memory) (bytes udi : List ℕ) (f : Flash) (ram uds : List ℕ) (old : Start)
    (r : Tried Step Refusal) (ram' uds' : List ℕ) (called : result_of r ram' uds' ≡ beginning bytes udi f ram uds) where
  told : begin_call m bytes udi f ram uds old ≡ after_begin (result_of r ram' uds') m old
  unfolding begin_call
  told = ap (λ (y : Result). after_begin y m old) (sym called)

  pub begin_refused : (why : Refusal) → r ≡ Err why → begin_told (refusal_number why) m old ram' uds' ≡ begin_call m bytes udi f ram uds old
  begin_refused why e = sym (told ∙ rw e refl)

  module _ (x : Step) (e : r ≡ Ok x) where
    pub begin_taken : (k : ℕ) (m' : Memory) (given : Start) → k ≡ answer_number (report_of x.answer) → m' ≡ memory_of x.state
        → given ≡ start_in (start_of (report_of x.answer)) (cdi_in x.answer) (digest_in x.answer)
        → begin_told k m' given ram' uds' ≡ begin_call m bytes udi f ram uds old
    begin_taken k m' given n q g = sym (told ∙ rw (e, answered x.answer, n, q, g) refl)

    pub begin_small : x.state.config.ram_len < 2 ^ 32
    begin_small =
        let s : (result_of r ram' uds').state ≡ x.state = rw e refl in
        let i : in_range x.state ≡ true = ap in_range (sym s) ∙ ap (λ (y : Result). in_range y.state) called ∙ (head_theorems.begin bytes udi f ram uds).range in
        omega (arith, (range_facts x.state i).ram_small)

-- ---- act

module _ (m : Memory) (room ram uds : List ℕ) (reply : ℕ) (old : Start) where
  pub no_state : holds m.bytes ≡ false → act_told 1 m reply old room ram uds ≡ act_call m room ram uds reply old
  unfolding act_call
  no_state h = rw h

  module _ (r : Tried Acted Refusal) (s : State) (room' ram' uds' : List ℕ) (l : Lengths m) (h : holds m.bytes ≡ true) (read : s ≡ state_in m)
      (called : outcome r s room' ram' uds' ≡ acted s room ram uds) where
    same : outcome r s room' ram' uds' ≡ acted (state_in m) room ram uds
    same = called ∙ ap (λ (t : State). acted t room ram uds) read

    act_told_as : act_call m room ram uds reply old ≡ after_act (outcome r s room' ram' uds') reply old
    unfolding act_call
    act_told_as = rw h (ap (λ (o : Outcome). after_act o reply old) (sym same))

    -- a refused call hands back the state that the memory holds
    pub act_refused : (why : Refusal) → r ≡ Err why → act_told (refusal_number why) m reply old room' ram' uds' ≡ act_call m room ram uds reply old
    act_refused why e = sym (act_told_as ∙ rw (e, read, forth m l h) refl)

    module _ (x : Acted) (e : r ≡ Ok x) where
      pub act_taken : (k : ℕ) (m' : Memory) (given : Start) → k ≡ answer_number (report_of x.answer) → m' ≡ memory_of x.state
          → given ≡ start_in (start_of (report_of x.answer)) (cdi_in x.answer) (digest_in x.answer)
          → act_told k m' x.reply given room' ram' uds' ≡ act_call m room ram uds reply old
      act_taken k m' given n q g = sym (act_told_as ∙ rw (e, answered x.answer, n, q, g) refl)

      out : outcome_in x room' ram' uds' ≡ acted (state_in m) room ram uds
      out = let q : outcome r s room' ram' uds' ≡ outcome_in x room' ram' uds' = rw e refl in sym q ∙ same

      not_refused : act_refusal (state_in m) (length room) (length ram) (length uds) ≡ 0
      not_refused = go (eqb (act_refusal (state_in m) (length room) (length ram) (length uds)) 0) refl
        where
          go : (t : Bool) → eqb (act_refusal (state_in m) (length room) (length ram) (length uds)) 0 ≡ t
              → act_refusal (state_in m) (length room) (length ram) (length uds) ≡ 0
          go true p = eqb-true (act_refusal (state_in m) (length room) (length ram) (length uds)) 0 p
          go false p =
              let j = act_refusal (state_in m) (length room) (length ram) (length uds) in
              let q : report_of x.answer ≡ refused j =
              ap (λ (o : Outcome). o.report) out ∙ ((head_theorems.act (state_in m) room ram uds).refuses j).1 (refl, eqb-false j 0 p) in
              let t : is_refused (report_of x.answer) ≡ true = ap is_refused q in
              let n = answered x.answer in
              impossible cc

      is_in_range : in_range x.state ≡ true
      is_in_range =
          let a = act_admitted (state_in m) (length room) (length ram) (length uds) not_refused in
          ap (λ (o : Outcome). in_range o.state) out ∙ (head_theorems.act (state_in m) room ram uds).stays a.range

      pub act_small : x.state.config.ram_len < 2 ^ 32
      act_small = omega (arith, (range_facts x.state is_in_range).ram_small)

      pub reply_small : x.reply ≤ 129
      reply_small = rw (ap (λ (o : Outcome). o.reply) out) (head_theorems.act (state_in m) room ram uds).fits
