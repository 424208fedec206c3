-- Six stores (`stored`).
use mathlib.Core.Path.{◌≡◌, sym, ap, ◌∙◌}
use mathlib.Core.Bool.{true, false, cond}
use mathlib.Core.List.{List}
use Prim.Native.Nat.{ℕ}
use lib.ListN.{length}
use lib.Seq.{paste}
use borrow.Author.Rules.{rules}
use Rattle.record.specs.Record.{has_second}
use Rattle.handover.specs.Reset.{asked_in}
use Rattle.handover.proofs.Records.{low_bytes, stored}
use Rattle.handover.proofs.write.Goals.{then-has_second, else-has_second}
use Rattle.handover.proofs.write.Goals as goal

pub returns : goal.returns
returns c =
    let a = c.args in
    let sizes : (length a.next.first ≡ 32) × (length a.measured_id ≡ 32) × (length a.next.second ≡ 32) = (search rules, search rules, search rules) in
    let s = c.has_second.ensures in
    let second : c.if-has_second.out ≡ cond (has_second a.next.mask) (paste c.put-4.new.out 72 a.next.second (length a.next.second)) c.put-4.new.out =
    elim c.if-has_second.branch [
      | then-has_second w ↦ let t : has_second a.next.mask ≡ true = sym s ∙ w.if-has_second.true in rw t (w.out-is ∙ (w.put-then-has_second.ensures.fits (search rules)))
      | else-has_second w ↦ let t : has_second a.next.mask ≡ false = sym s ∙ w.if-has_second.false in rw t w.out-is
    ] in
    stored (asked_in a.next) a.measured_id sizes.0 sizes.1 sizes.2 c.requires.1 _ _ _ _ _ _ _ _ c.requires.0 c.data_from.ensures
    ((c.put.ensures.fits (search rules)) ∙ ap (λ (l : List ℕ). paste a.out.now 0 l (length l)) (c.to_le_bytes.ensures ∙ low_bytes a.next.next_type))
    ((c.put-2.ensures.fits (search rules)) ∙ ap (λ (l : List ℕ). paste c.put.new.out 4 l (length l)) (c.to_le_bytes-2.ensures ∙ low_bytes a.next.mask))
    (c.put-3.ensures.fits (search rules)) (c.put-4.ensures.fits (search rules)) second (c.put-5.ensures.fits (search rules))
