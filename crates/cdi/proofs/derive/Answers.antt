-- With the user secret the whole string is hashed, and without it the first 65 bytes, which are the other three parts.
use mathlib.Core.Path.{◌≡◌, sym, ◌∙◌}
use mathlib.Core.Bool.{true, false}
use native.Mathlib.Omega.{arith}
use lib.ListN.{length, take}
use lib.Seq.{length-take-le}
use borrow.Author.Rules.{rules}
use Rattle.std.specs.Prelude.{is_some}
use Rattle.blake2s.proofs.Numbers.{digest_zeros}
use Rattle.cdi.specs.Cdi.{cdi_string, cdi_of}
use Rattle.cdi.proofs.Parts.{short}
use Rattle.cdi.proofs.derive.Goals as goal

pub returns-then-is_some : goal.returns-then-is_some
unfolding cdi_of cdi_string
returns-then-is_some c =
    let a = c.args in
    let b = c.string-b.result in
    let n : length b ≡ 97 = search rules in
    let u : is_some a.uss ≡ true = sym c.if-is_some.ensures in
    c.digest.ensures ∙ digest_zeros b (omega arith)
    ∙ rw (
      c.string-b.ensures,
      c.domain-domain.ensures,
      c.is_some.ensures,
      c.is_some-2.ensures,
      c.unwrap_or.ensures,
      c.measurement-m.ensures,
      u,
    )

pub slice_bounds-digest-end-else-is_some : goal.slice_bounds-digest-end-else-is_some
slice_bounds-digest-end-else-is_some c =
    let b = c.string-b.result in
    let n : length b ≡ 97 = search rules in
    sym (length-take-le 65 b (omega arith))

pub returns-else-is_some : goal.returns-else-is_some
unfolding cdi_of cdi_string
returns-else-is_some c =
    let a = c.args in
    let b = c.string-b.result in
    let m = c.measurement-m.result in
    let s = c.unwrap_or.result in
    let n : length b ≡ 97 = search rules in
    let l : length (take 65 b) ≡ 65 = length-take-le 65 b (omega arith) in
    let hu : length a.uds ≡ 32 = search rules in
    let hm : length m ≡ 32 = search rules in
    let u : is_some a.uss ≡ false = sym c.if-is_some.ensures in
    c.digest-else-is_some.ensures ∙ digest_zeros (take 65 b) (omega arith)
    ∙ rw (
      c.string-b.ensures,
      short a.uds c.domain-domain.result m hu hm s,
      c.domain-domain.ensures,
      c.is_some.ensures,
      c.is_some-2.ensures,
      c.measurement-m.ensures,
      u,
    )
