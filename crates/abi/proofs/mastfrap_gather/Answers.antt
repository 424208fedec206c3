-- Refused, between frames, or in one.
use mathlib.Core.Path.{◌≡◌, refl, ap, ◌∙◌}
use Prim.Native.Nat.{ℕ}
use lib.ListN.{length}
use borrow.Author.Rules.{rules}
use Rattle.head.specs.Answers.{refusal_number}
use Rattle.abi.specs.Layout.{lent}
use Rattle.abi.specs.Calls.{gather_told}
use Rattle.abi.proofs.Ranges.{some_number, refuses, admitted_as, in_frame}
use Rattle.abi.proofs.mastfrap_gather.Goals as goal

pub returns-in-Err : goal.returns-in-Err
returns-in-Err c =
    let full : length c.args.bytes.now ≡ 268 = search rules in
    let three : length c.args.numbers.now ≡ 3 = search rules in
    let a = c.args in
    rw c.refusal_number.ensures
    (refuses a.numbers.now a.bytes.now (refusal_number c.in-Err.why) c.in-Err.ensures three full (some_number c.in-Err.why) a.byte)

pub take-requires-clause-bound : goal.take-requires-clause-bound
take-requires-clause-bound c =
    let f = in_frame c.args.numbers.now c.args.bytes.now 0 c.in_default.ensures refl c.if-bytes-eq0.false in
    (f.0, rw c.body_len-len.ensures f.1)

pub returns-then-bytes-eq0 : goal.returns-then-bytes-eq0
returns-then-bytes-eq0 c =
    ap (λ (k : ℕ). gather_told k (lent c.«open».new.numbers c.«open».new.bytes)) c.answer_number.ensures ∙ c.«open».ensures
    ∙ admitted_as c.args.numbers.now c.args.bytes.now 0 c.in_default.ensures refl c.args.byte

pub returns : goal.returns
returns c =
    let three : length c.args.numbers.now ≡ 3 = search rules in
    let a = c.args in
    ap (λ (k : ℕ). gather_told k (lent a.numbers.now c.take.new.bytes)) c.answer_number-2.ensures ∙ c.take.ensures a.numbers.now three
    ∙ admitted_as a.numbers.now a.bytes.now 0 c.in_default.ensures refl a.byte
