-- The tests are those of the state.
use mathlib.Core.Path.{sym, ◌∙◌}
use Rattle.abi.proofs.Ranges.{no_state, bad_numbers, bad_frame, has_ended, has_whole, admits}
use Rattle.abi.proofs.gathering.admit.Goals.{then-not-holds-via-then-not-holds, then-not-holds-via-else-not-holds+then-not-numbers_ok, then-not-holds-via-else-not-holds+else-not-numbers_ok+then-not-frame_ok}
use Rattle.abi.proofs.gathering.admit.Goals as goal

pub returns-then-not-holds : goal.returns-then-not-holds
returns-then-not-holds c =
    let n = c.args.numbers.now in
    let b = c.args.bytes.now in
    let h = sym c.holds.ensures in
    elim c.then-not-holds.branch [
      | then-not-holds-via-then-not-holds w ↦ no_state n b (h ∙ w.if-not-holds.true)
      | then-not-holds-via-else-not-holds+then-not-numbers_ok w ↦ bad_numbers n b (h ∙ w.if-not-holds.false) (sym w.numbers_ok.ensures ∙ w.if-not-numbers_ok.true)
      | then-not-holds-via-else-not-holds+else-not-numbers_ok+then-not-frame_ok w ↦ bad_frame n b (h ∙ w.if-not-holds.false) (sym w.frame_ok.ensures ∙ w.if-not-frame_ok.true)
    ]

pub returns-then-phase-ge2 : goal.returns-then-phase-ge2
returns-then-phase-ge2 c =
    let held = sym c.holds.ensures ∙ c.if-not-holds.false in
    let numbers = sym c.numbers_ok.ensures ∙ c.if-not-numbers_ok.false in
    let frame = sym c.frame_ok.ensures ∙ c.if-not-frame_ok.false in
    has_ended c.args.numbers.now c.args.bytes.now held numbers frame c.if-phase-ge2.true

pub returns-then-len-got : goal.returns-then-len-got
returns-then-len-got c =
    let held = sym c.holds.ensures ∙ c.if-not-holds.false in
    let numbers = sym c.numbers_ok.ensures ∙ c.if-not-numbers_ok.false in
    let frame = sym c.frame_ok.ensures ∙ c.if-not-frame_ok.false in
    has_whole c.args.numbers.now c.args.bytes.now held numbers frame c.if-phase-ge2.false (rw (← c.requires) c.if-len-got.true)

pub returns : goal.returns
returns c =
    let held = sym c.holds.ensures ∙ c.if-not-holds.false in
    let numbers = sym c.numbers_ok.ensures ∙ c.if-not-numbers_ok.false in
    let frame = sym c.frame_ok.ensures ∙ c.if-not-frame_ok.false in
    admits c.args.numbers.now c.args.bytes.now held numbers frame c.if-phase-ge2.false (rw (← c.requires) c.if-len-got.false)
