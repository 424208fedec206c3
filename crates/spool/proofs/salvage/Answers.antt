-- Each way's number is that of its tests (`Numbers`), and what it leaves follows from the number.
use Rattle.std.proofs.Common.{rules, ◌≡◌, ℕ, List, Err, length, ◌%◌, ◌<◌, ◌≤◌, sym, ap, ap₂, ◌∙◌, arith}
use mathlib.Core.List.{flatten}
use borrow.Author.Tests.{eqb-true, eqb-false}
use Rattle.endian.specs.Lists.{each}
use Rattle.protocol.specs.Replies.{put_in}
use Rattle.spool.specs.Answers.{refusal_number, number_of}
use Rattle.spool.specs.Reading.{blocks_in, block_at}
use Rattle.spool.specs.Salvage.{blocks_of, mended, salvaging_as}
use Rattle.spool.proofs.Chunks.{blocks_many, chunks_are}
use Rattle.spool.proofs.Numbers.{good_length, salvage_length, salvage_spares, salvage_room, salvage_fits, salvage_refused, salvage_all}
use Rattle.spool.proofs.salvage.Goals as goal

pub returns-in_err-blocks : goal.returns-in_err-blocks
returns-in_err-blocks c =
    let s = c.args.spool.now in
    let x = c.args.spares.now in
    let r = c.args.report.now in
    let e : c.from_residual.result ≡ Err c.in_err-blocks.field-0.0 = search rules in
    ap (λ z. salvaging_as (number_of z) s r) e ∙ ap (λ z. salvaging_as (refusal_number z) s r) c.in_err-blocks.ensures.1
    ∙ sym (salvage_refused s x r 50 (salvage_length (length s) (length x) (length r) c.in_err-blocks.ensures.0) (λ z. omega (arith, z)))

pub returns-then-not-is_empty : goal.returns-then-not-is_empty
returns-then-not-is_empty c =
    let s = c.args.spool.now in
    let x = c.args.spares.now in
    let r = c.args.report.now in
    let some = eqb-false _ 0 (sym c.is_empty.ensures ∙ c.if-not-is_empty.true) in
    sym (salvage_refused s x r 50 (salvage_spares (length s) (length x) (length r) c.in_ok-blocks.ensures.0 (λ z. omega (arith, some, z))) (λ z. omega (arith, z)))

pub returns-then-report-blocks : goal.returns-then-report-blocks
returns-then-report-blocks c =
    let s = c.args.spool.now in
    let x = c.args.spares.now in
    let r = c.args.report.now in
    let ok = c.in_ok-blocks.ensures in
    let n = ap length ok.1 ∙ blocks_many s in
    let none = eqb-true _ 0 (sym c.is_empty.ensures ∙ c.if-not-is_empty.false) in
    let whole : length x % 512 ≡ 0 = omega (arith, none) in
    let small : length r < blocks_in s = omega (arith, n) in
    sym (salvage_refused s x r 54 (salvage_room (length s) (length x) (length r) ok.0 whole small) (λ z. omega (arith, z)))

pub mend_all-requires : goal.mend_all-requires
mend_all-requires c =
    let s = c.args.spool.now in
    let ok = c.in_ok-blocks.ensures in
    let n = ap length ok.1 ∙ blocks_many s in
    ((good_length (length s) ok.0).whole, omega (arith, n))

pub returns : goal.returns
returns c =
    let s = c.args.spool.now in
    let x = c.args.spares.now in
    let r = c.args.report.now in
    let ok = c.in_ok-blocks.ensures in
    let many = ap length ok.1 ∙ blocks_many s in
    let none = eqb-true _ 0 (sym c.is_empty.ensures ∙ c.if-not-is_empty.false) in
    let whole : length x % 512 ≡ 0 = omega (arith, none) in
    let fits : blocks_in s ≤ length r = omega (arith, many) in
    let e = salvage_fits (length s) (length x) (length r) ok.0 whole fits in
    let n = blocks_in s in
    let sp : c.as_chunks.result.0.now ≡ blocks_of x = c.as_chunks.ensures.front ∙ chunks_are x in
    ap₂ (salvaging_as 0)
    (c.mend_all.ensures.0 ∙ ap (λ (bs : List (List ℕ)). flatten (each n (λ i. (mended n i bs (block_at s i)).block))) sp)
    (c.mend_all.ensures.1 ∙ ap (λ (bs : List (List ℕ)). put_in r (each n (λ i. (mended n i bs (block_at s i)).entry))) sp)
    ∙ sym (salvage_all s x r e)
