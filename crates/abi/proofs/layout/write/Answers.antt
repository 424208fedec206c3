-- The three numbers, and the bytes from the front to the end.
use Prim.Native.Nat.{ℕ}
use lib.ListN.{length}
use mathlib.Core.Path.{◌≡◌}
use mathlib.Core.List.{List, [], ◌∷◌}
use borrow.Author.Rules.{rules}
use Rattle.head.specs.declared.State.{State}
use Rattle.abi.specs.Layout.{lent, memory_of}
use Rattle.abi.specs.Theorems.{Sized}
use Rattle.abi.proofs.Packed.{packed}
use Rattle.abi.proofs.layout.write.Goals as goal

both : (s : State) (b : List ℕ) → b ≡ (memory_of s).bytes → lent (s.config.ram_len ∷ s.progress.size ∷ s.progress.block ∷ []) b ≡ memory_of s
unfolding memory_of
both s b e = rw e

pub returns : goal.returns
returns c =
    let w = c.well_formed in
    let full : length c.args.bytes.now ≡ 268 = search rules in
    let sized : Sized c.args.s =
    record {
      body = search (rules, w);
      first = search (rules, w);
      measured = search (rules, w);
      udi = search (rules, w);
      uss = search (rules, w);
      second = search (rules, w);
    } in
    both c.args.s _
    (packed c.args.s c.args.bytes.now c.small_of.result c.put.new.out c.put-2.new.out c.put-3.new.out c.put-4.new.out c.put-5.new.out
    c.put-6.new.out c.put-7.new.out full sized c.small_of.ensures (c.put.ensures.fits (search rules)) (c.put-2.ensures.fits (search rules)) (c.put-3.ensures.fits (search rules)) (c.put-4.ensures.fits (search rules)) (c.put-5.ensures.fits (search rules))
    (c.put-6.ensures.fits (search rules)) (c.put-7.ensures.fits (search rules)))
