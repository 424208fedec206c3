-- A place is mended as in the spool as it was (`turn`), and its entry stands behind those before it (`report_more`).
use Prim.Native.Nat.{ℕ, ◌+◌, ◌-◌, ◌*◌, ◌≤◌, ◌<◌}
use mathlib.Core.List.{List, [], ◌∷◌, ◌++◌}
use mathlib.Core.Path.{◌≡◌, refl, sym, ap, subst, ◌∙◌}
use native.Mathlib.Omega.{arith}
use native.Mathlib.Numerals.{add-one}
use lib.ListN.{length, take, drop, set, length-append}
use lib.Seq.{paste}
use borrow.Rule.Slice.PartMut.{put_mid}
use Rattle.std.proofs.lemmas.Slice.{put_mid-paste}
use Rattle.endian.specs.Lists.{each}
use Rattle.endian.proofs.Lists.{each_snoc, length_each}
use Rattle.protocol.specs.Replies.{put_in}
use Rattle.spool.specs.Reading.{blocks_in, block_at}
use Rattle.spool.specs.Salvage.{Mended, mended}
use Rattle.spool.proofs.Mending.{block_whole}
use Rattle.spool.proofs.Parts.{front, front_none, front_more}
use Rattle.spool.proofs.Rooms.{paste_put, put_none, put_all, put_length, put_rest, put_next, put_entry}
use Rattle.spool.proofs.salvaging.mend_all.Goals as goal

-- a spool of which i places are mended, and what a turn finds at its place and leaves
module _ (s : List ℕ) (sp : List (List ℕ)) (i : ℕ) where
  abbrev at : ℕ → Mended
  at j = mended (blocks_in s) j sp (block_at s j)

  abbrev done : List ℕ
  done = front i (λ j. (at j).block)

  abbrev part_at : List ℕ → List ℕ
  part_at t = take (512 * i + 512 - 512 * i) (drop (512 * i) t)

  pub turn : i < blocks_in s → length done ≡ 512 * i → (t y : List ℕ) (v : ℕ) → t ≡ put_in s done
      → (v ≡ (mended (blocks_in s) i sp (part_at t)).entry) × (y ≡ (mended (blocks_in s) i sp (part_at t)).block) → length y ≡ length (part_at t)
      → (v ≡ (at i).entry) × (length (front (i + 1) (λ j. (at j).block)) ≡ 512 * (i + 1))
      × (put_mid (512 * i) (512 * i + 512 - 512 * i) t y ≡ put_in s (front (i + 1) (λ j. (at j).block)))
  turn h l t y v e p ly =
      let k : 512 * i + 512 - 512 * i ≡ 512 = omega arith in
      let b : part_at t ≡ block_at s i =
      ap (λ j. take j (drop (512 * i) t)) k ∙ ap (λ u. take 512 (drop (512 * i) u)) e
      ∙ ap (take 512) (subst (λ (j : ℕ). drop j (put_in s done) ≡ drop j s) l (put_rest s done)) in
      let m : mended (blocks_in s) i sp (part_at t) ≡ at i = ap (mended (blocks_in s) i sp) b in
      let z = (at i).block in
      let yz : y ≡ z = p.1 ∙ ap (λ (x : Mended). x.block) m in
      let w : length z ≡ 512 = sym (ap length yz) ∙ ly ∙ ap length b ∙ block_whole s i h in
      let more = front_more i (λ j. (at j).block) in
      let fits : length done + length z ≤ length s = omega arith in
      let there : length done + length z ≤ length (put_in s done) = rw (put_length s done (omega arith)) fits in (
        p.0 ∙ ap (λ (x : Mended). x.entry) m,
        ap length more ∙ length-append done z ∙ omega arith,
        put_mid-paste (512 * i) (512 * i + 512 - 512 * i) t y z (length z) yz (w ∙ sym k) refl
            ∙ ap (λ u. paste u (512 * i) z (length z)) e
            ∙ ap (λ j. paste (put_in s done) j z (length z)) (sym l)
            ∙ paste_put (length done) z (put_in s done) there
            ∙ put_next s done z fits
            ∙ ap (put_in s) (sym more),
      )

report_more : (old : List ℕ) (f : ℕ → ℕ) (i : ℕ) → i < length old → set (put_in old (each i f)) i (f i) ≡ put_in old (each (i + 1) f)
report_more old f i h =
    let l = length_each i f in
    let e : each (i + 1) f ≡ each i f ++ f i ∷ [] = ap (λ (k : ℕ). each k f) (add-one i) ∙ each_snoc i f in
    ap (λ (k : ℕ). set (put_in old (each i f)) k (f i)) (sym l) ∙ put_entry old (each i f) (f i) (omega arith) ∙ ap (put_in old) (sym e)

pub loop-place-init : goal.loop-place-init
loop-place-init c =
    let s = c.args.spool.now in
    let e = front_none (λ j. (at s c.args.spares.now 0 j).block) in
    (ap length e, sym (ap (put_in s) e ∙ put_none s), sym (put_none c.args.report.now))

pub loop-place-preserved : goal.loop-place-preserved
loop-place-preserved c =
    let s = c.args.spool.now in
    let sp = c.args.spares.now in
    let i = c.loop-place.place in
    let h : i < blocks_in s = c.loop-place-test.true in
    let before = c.loop-place.invariant in
    let t = turn s sp i h before.0 c.loop-place.spool c.mend-fate.new.block c.from.result before.1 (c.from.ensures ∙ c.mend-fate.ensures.0, c.mend-fate.ensures.1) c.mend-fate.auto.block in
    (t.1, t.2, rw (t.0, before.2) (report_more c.args.report.now (λ j. (at s sp i j).entry) i (omega (arith, c.requires.1))))

pub returns : goal.returns
returns c =
    let s = c.args.spool.now in
    let n = blocks_in s in
    let f : ℕ → List ℕ = λ j. (at s c.args.spares.now n j).block in
    let e : c.loop-place.place ≡ n = omega arith in
    let after = c.loop-place.invariant in
    let l : length (front n f) ≡ 512 * n = rw e at after.0 in
    let g : length s ≡ 512 * n = omega (arith, c.requires.0) in
    ((rw e at after.1) ∙ put_all s (front n f) (l ∙ sym g), rw e at after.2)
