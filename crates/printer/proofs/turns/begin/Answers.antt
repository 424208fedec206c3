-- What begin settles is the first turn (`begun`).
use Prim.Native.Nat.{ℕ}
use mathlib.Core.Path.{◌≡◌, ap, ◌∙◌}
use mathlib.Core.List.{List, []}
use lib.ListN.{take, drop}
use Rattle.head.specs.Answers.{Result, replied}
use Rattle.head.specs.Begin.{beginning}
use Rattle.printer.specs.Output.{words_in, no_flash, after_begin}
use Rattle.printer.specs.Turns.{turn_of, refused_turn, begin_turn}
use Rattle.printer.proofs.NoFlash.{ram_stays}
use Rattle.printer.proofs.turns.begin.Goals as goal

begun : (front ram words : List ℕ) (x : Result) → words ≡ words_in front → x ≡ beginning (take 256 front) (drop 288 front) no_flash ram words
    → (turn_of 0 (replied 0 [] x) ≡ begin_turn front ram) × (x.ram ≡ ram)
unfolding after_begin
begun front ram words x e f =
    let g = f ∙ ap (λ (w : List ℕ). beginning (take 256 front) (drop 288 front) no_flash ram w) e in
    (ap (λ (y : Result). turn_of 0 (replied 0 [] y)) g, ap (λ (y : Result). y.ram) g ∙ ram_stays (take 256 front) (drop 288 front) ram (words_in front))

pub returns-in-Ok-clause-turn : goal.returns-in-Ok-clause-turn
returns-in-Ok-clause-turn c =
    let e = rw c.in-Ok.is at c.begin.ensures in
    c.after.ensures ∙ (begun c.args.front c.args.ram.now _ _ c.words_of-words.ensures e).0

pub returns-in-Ok-clause-ram : goal.returns-in-Ok-clause-ram
returns-in-Ok-clause-ram c =
    let e = rw c.in-Ok.is at c.begin.ensures in
    (begun c.args.front c.args.ram.now _ _ c.words_of-words.ensures e).1

pub returns-in-Err-clause-turn : goal.returns-in-Err-clause-turn
returns-in-Err-clause-turn c =
    let e = rw c.in-Err.is at c.begin.ensures in
    c.refused.ensures ∙ ap (λ s. refused_turn (record { state = s; words = c.begin.new.words; received = 0 }) c.in-Err.why) c.ended.ensures
    ∙ (begun c.args.front c.args.ram.now _ _ c.words_of-words.ensures e).0

pub returns-in-Err-clause-ram : goal.returns-in-Err-clause-ram
returns-in-Err-clause-ram c =
    let e = rw c.in-Err.is at c.begin.ensures in
    (begun c.args.front c.args.ram.now _ _ c.words_of-words.ensures e).1
