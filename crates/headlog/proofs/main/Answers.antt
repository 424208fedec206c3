-- A session has received under 2^64 bytes (`within`), and a turn that is not the last receives one more (`fewer`).
use Rattle.std.proofs.Common.{◌≡◌, refl, subst, ℕ, ◌+◌, ◌-◌, ◌^◌, ◌<◌, Bool, true, false, cond, List, Option, None, Some, ControlFlow, Break, Continue, ltb, arith}
use Rattle.text.specs.Text.{text_of}
use Rattle.printer.specs.Lines.{error_line}
use borrow.Author.Tests.{eqb-false}
use Rattle.printer.specs.Output.{is_over, after_begin, after_byte}
use Rattle.printer.specs.Turns.{opening, begin_turn, left as left_by, turned, waited, is_full, turn_of}
use Rattle.printer.specs.declared.turns.Session.{Session}
use Rattle.printer.specs.declared.turns.Turn.{Turn}
use Rattle.headlog.proofs.main.Invariants.{left, within}
use Rattle.headlog.proofs.main.Goals as goal

-- what holds of a session that has ended, and of one that goes on, holds of a turn
going : (P : ControlFlow Session Session → Type 0) (b : Bool) (s : Session) → P (Break s) → P (Continue s) → P (cond b (Break s) (Continue s))
going P true s f g = f
going P false s f g = g

either : (P : ControlFlow Session Session → Type 0) (b : Bool) (t u : Turn) → P t.session → (b ≡ false → P u.session) → P (cond b t u).session
either P true t u f g = f
either P false t u f g = g refl

begun : (front ram : List ℕ) → within (begin_turn front ram).session
begun front ram =
    let o = after_begin front ram in
    going within (is_over o.report) (record { state = o.state; words = o.uds; received = 0 }) tt (omega arith)

opened : (front : List ℕ) (got : ℕ) (ram : List ℕ) → within (opening front got ram).session
unfolding opening
opened front got ram =
    either within (ltb got 296) (record { text = text_of (error_line 1); session = Break (left_by (begin_turn front ram).session) }) (begin_turn front ram) tt (λ e. begun front ram)

more : (s : Session) (n : Option ℕ) (ram : List ℕ) → s.received < 2 ^ 64 → within (turned s n ram).session
more s None ram h = tt
more s (Some b) ram h =
    let o = after_byte s.state s.words ram b in
    either within (is_full s) (waited s) (turn_of (s.received + 1) o) tt
    (λ e. going within (is_over o.report) (record { state = o.state; words = o.uds; received = s.received + 1 }) tt
    (omega (arith, eqb-false s.received (2 ^ 64 - 1) e)))

fewer : (s : Session) (n : Option ℕ) (ram : List ℕ) → s.received < 2 ^ 64 → left (turned s n ram).session < 2 ^ 64 - s.received
fewer s None ram h = omega arith
fewer s (Some b) ram h =
    let f : 0 < 2 ^ 64 - s.received = omega arith in
    let g : 2 ^ 64 - (s.received + 1) < 2 ^ 64 - s.received = omega arith in
    let o = after_byte s.state s.words ram b in
    either (λ x. left x < 2 ^ 64 - s.received) (is_full s) (waited s) (turn_of (s.received + 1) o) f
    (λ e. going (λ x. left x < 2 ^ 64 - s.received) (is_over o.report) (record { state = o.state; words = o.uds; received = s.received + 1 }) f g)

-- the bound, where the session is known to be there
bound : (x : ControlFlow Session Session) (s : Session) → x ≡ Continue s → within x → s.received < 2 ^ 64
bound x s e h = subst within e h

pub loop-t-init : goal.loop-t-init
loop-t-init c = rw c.open-t.ensures.turn (opened _ _ _)

pub loop-t-preserved : goal.loop-t-preserved
loop-t-preserved c =
    let s = c.in-Continue.session in
    rw c.advance-t.ensures.turn (more s c.read_byte.result c.loop-t.ram (bound c.loop-t.t.session s c.in-Continue.is c.loop-t.invariant))

pub loop-t-smaller : goal.loop-t-smaller
loop-t-smaller c =
    let s = c.in-Continue.session in
    let h = bound c.loop-t.t.session s c.in-Continue.is c.loop-t.invariant in
    rw (c.advance-t.ensures.turn, c.in-Continue.is) (fewer s c.read_byte.result c.loop-t.ram h)
