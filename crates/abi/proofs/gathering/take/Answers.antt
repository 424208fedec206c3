-- The header says whose frame it is, and the tests are those of the definition.
use mathlib.Core.Path.{◌≡◌, ap}
use mathlib.Core.List.{List, ◌++◌}
use Prim.Native.Nat.{ℕ, ◌≤◌}
use native.Mathlib.Omega.{arith}
use lib.ListN.{length, get_or, take, drop}
use lib.Seq.{length-take-le}
use borrow.Author.Rules.{rules}
use Rattle.endian.specs.Lists.{zeros}
use Rattle.framing.proofs.Headers.{body_small}
use Rattle.abi.proofs.Ways.{wholes, keeps, ends, passes}
use Rattle.abi.proofs.gathering.take.Goals as goal

pub overflow_add-bytes : goal.overflow_add-bytes
overflow_add-bytes c =
    let got_small : get_or c.args.bytes.now 129 0 ≤ 128 =
    omega (arith, body_small (get_or c.args.bytes.now 128 0), c.requires.len_value, c.requires.bound.1) in
    let s = got_small in omega arith

pub returns-then-len-got : goal.returns-then-len-got
returns-then-len-got c =
    let full : length c.args.bytes.now ≡ 268 = search rules in
    λ n l. wholes n c.args.bytes.now c.args.byte l full c.requires.held c.requires.bound.0 (rw (← c.requires.len_value) c.requires.bound.1)
    c.endpoint.result
    c.args.len
    c.endpoint.ensures
    c.requires.len_value
    c.if-endpoint-eq2.true
    c.if-len-got.true

pub returns-then-endpoint-eq2 : goal.returns-then-endpoint-eq2
returns-then-endpoint-eq2 c =
    let full : length c.args.bytes.now ≡ 268 = search rules in
    λ n l. keeps n c.args.bytes.now c.args.byte l full c.requires.held c.requires.bound.0 (rw (← c.requires.len_value) c.requires.bound.1)
    c.endpoint.result
    c.args.len
    c.endpoint.ensures
    c.requires.len_value
    c.if-endpoint-eq2.true
    c.if-len-got.false

pub returns-then-len-got-2 : goal.returns-then-len-got-2
returns-then-len-got-2 c =
    let b = c.args.bytes.now in
    let full : length c.args.bytes.now ≡ 268 = search rules in
    let l : length (take 130 b) ≡ 130 = length-take-le 130 b (omega (arith, full)) in
    let cleared : c.fill.new.self ≡ zeros 130 = search (rules, l) in
    λ n t. ends n b c.args.byte t full c.requires.held c.requires.bound.0 (rw (← c.requires.len_value) c.requires.bound.1)
    c.endpoint.result
    c.args.len
    c.endpoint.ensures
    c.requires.len_value
    (c.fill.new.self ++ drop 130 b)
    (ap (λ (x : List ℕ). x ++ drop 130 b) cleared)
    c.if-endpoint-eq2.false
    c.if-len-got-2.true

pub returns : goal.returns
returns c =
    let full : length c.args.bytes.now ≡ 268 = search rules in
    λ n l. passes n c.args.bytes.now c.args.byte l full c.requires.held c.requires.bound.0 (rw (← c.requires.len_value) c.requires.bound.1)
    c.endpoint.result
    c.args.len
    c.endpoint.ensures
    c.requires.len_value
    c.if-endpoint-eq2.false
    c.if-len-got-2.false
