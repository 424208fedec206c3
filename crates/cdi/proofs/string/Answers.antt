-- Each copy leaves what it copied (`copied`), and the four parts after one another are the string (`whole`).
use mathlib.Core.Path.{◌≡◌}
use mathlib.Core.List.{◌++◌}
use native.Mathlib.Omega.{arith}
use lib.ListN.{length, set, replicate, length-set, length-append}
use borrow.Rule.Slice.PartMut.{put_mid, same_len_mid}
use Rattle.cdi.proofs.Parts.{whole}
use borrow.Author.Rules.{rules}
use Rattle.cdi.proofs.string.Goals as goal

pub slice_bounds-b-end-3 : goal.slice_bounds-b-end-3
slice_bounds-b-end-3 c =
    let b = set (c.copy_from_slice.new.self ++ replicate 65 0) 32 c.args.domain in
    let l : length c.copy_from_slice.new.self ≡ 32 = search rules in
    let e : length (put_mid 33 32 b c.copy_from_slice-2.new.self) ≡ length b = same_len_mid 33 32 b c.copy_from_slice-2.new.self (search rules) in
    rw (e, length-set, length-append) (omega arith)

pub returns : goal.returns
returns c =
    let a = c.args in
    let b2 = set (c.copy_from_slice.new.self ++ replicate 65 0) 32 a.domain in
    let b3 = put_mid 33 32 b2 c.copy_from_slice-2.new.self in
    let hu : length a.uds ≡ 32 = search rules in
    let hm : length a.measurement ≡ 32 = search rules in
    let hs : length a.uss ≡ 32 = search rules in
    let e1 : c.copy_from_slice.new.self ≡ a.uds = c.copy_from_slice.ensures.after in
    let e2 : c.copy_from_slice-2.new.self ≡ a.measurement = c.copy_from_slice-2.ensures.after in
    let e3 : c.copy_from_slice-3.new.self ≡ a.uss = c.copy_from_slice-3.ensures.after in
    rw (e1, e2, e3) (whole a.uds a.domain a.measurement hu hm a.uss)
