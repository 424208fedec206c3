-- By whether the first look that is not good gives 50.
use Prim.Native.Nat.{ℕ}
use mathlib.Core.Bool.{true, false}
use mathlib.Core.List.{List}
use mathlib.Core.Path.{◌≡◌, sym, ap, ◌∙◌}
use lib.Dec.{eqb}
use Rattle.text.specs.Text.{text_of}
use Rattle.spool.specs.Reading.{look_refusal}
use Rattle.spool_words.specs.Words.{fault_words, block_words, good_before, refusal_words}
use Rattle.spool_words.proofs.refusal.Goals as goal

-- the words of the length and of a block, with place and number as the calls give them
of_length : (s : List ℕ) (i k : ℕ) → i ≡ good_before s → k ≡ look_refusal s i → eqb k 50 ≡ true → fault_words k ≡ refusal_words s
unfolding refusal_words
of_length s i k p e h = rw (sym p, sym e, h)

of_block : (s : List ℕ) (i k : ℕ) → i ≡ good_before s → k ≡ look_refusal s i → eqb k 50 ≡ false → block_words i k ≡ refusal_words s
unfolding refusal_words
of_block s i k p e h = rw (sym p, sym e, h)

pub returns-then-is_length : goal.returns-then-is_length
returns-then-is_length c =
    c.of.ensures
    ∙ ap text_of (of_length c.args.bytes.now c.good_before-place.result _ c.good_before-place.ensures c.look-answer.ensures
    (sym c.is_length.ensures ∙ c.if-is_length.true))

pub returns : goal.returns
returns c =
    c.of-2.ensures
    ∙ ap text_of (of_block c.args.bytes.now c.good_before-place.result _ c.good_before-place.ensures c.look-answer.ensures
    (sym c.is_length.ensures ∙ c.if-is_length.false))
