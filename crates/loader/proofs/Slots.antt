-- A program from a slot put together from what the callees ensure, over variables.
use Prim.Native.Nat.{ℕ, ◌≤◌}
use mathlib.Core.Bool.{Bool, true, false, ◌&&◌}
use mathlib.Core.Path.{◌≡◌, refl, sym, ap, ◌∙◌}
use mathlib.Core.List.{List, []}
use native.Mathlib.Omega.{arith}
use native.Mathlib.Nat.{zero-add}
use lib.Dec.{leb}
use lib.ListN.{length, take}
use lib.Seq.{paste, take_all, take-length, length-take-le}
use borrow.Author.Tests.{leb-true, leb-false, le-leb}
use Rattle.rfc7693.specs.Rfc7693.{blake2s}
use Rattle.protocol.specs.Replies.{put_in}
use Rattle.record.specs.Record.{Contents}
use Rattle.record.specs.Types.{Source, source_of}
use Rattle.head.specs.State.{of_size}
use Rattle.head.specs.Answers.{stopped, result_in}
use Rattle.head.specs.Start.{ending, decided}
use Rattle.head.specs.Begin.{Flash, config_of, fits, from_flash, by_source, by_type}
use Rattle.head.proofs.Ranges.{fit_facts}
use Rattle.head.specs.declared.Phase.TheVariants as phase
use Rattle.head.specs.declared.Config.{Config}
use Rattle.head.specs.declared.Progress.{Progress}
use Rattle.head.specs.declared.Step.{Step}

-- all of a program at the front of RAM
put_at_front : (ram s : List ℕ) → paste ram 0 s (length s) ≡ put_in ram s
unfolding put_in
put_at_front ram s = rw (take-length s, zero-add)

-- a slot that has n bytes also has them in its front part
front_has : (slot : List ℕ) (n : ℕ) → leb n (length (take n slot)) ≡ leb n (length slot)
front_has slot n = go (leb n (length slot)) refl
  where
    go : (t : Bool) → leb n (length slot) ≡ t → leb n (length (take n slot)) ≡ t
    go true e = let l = length-take-le n slot (leb-true n (length slot) e) in le-leb n (length (take n slot)) (omega arith)
    go false e =
        let h = leb-false n (length slot) e in
        let l : take n slot ≡ slot = take_all n slot (omega arith) in
        rw (l, e)

-- the program is the slot's front part, and t says whether it fits
module _ (slot : List ℕ) (n : ℕ) (c : Config) (ram uds program : List ℕ) (t : Bool) (ep : program ≡ take n slot)
    (et : t ≡ fits n (length program) (length ram)) where
  tested : t ≡ fits n (length slot) (length ram)
  tested = et ∙ ap (λ (p : List ℕ). fits n (length p) (length ram)) ep ∙ ap (λ (b : Bool). leb 1 n && (b && leb n (length ram))) (front_has slot n)

  pub program_fits : t ≡ true → (length program ≡ n) × (n ≤ length ram)
  program_fits e =
      let f = fit_facts n (length slot) (length ram) (sym tested ∙ e) in
      (ap (λ (p : List ℕ). length p) ep ∙ length-take-le n slot f.1, f.2)

  pub does_not_fit : t ≡ false → (x : Step) → ((m u : List ℕ) → result_in x m u ≡ ending (stopped 26) c.ram_len m u)
      → result_in x ram uds ≡ from_flash (record { bytes = slot; size = n }) c ram uds
  unfolding from_flash
  does_not_fit e x ex = rw (← tested, e) (ex ram uds)

  pub booted : t ≡ true → (d : List ℕ) (p : Progress) (x : Step) (ram' uds' : List ℕ) → d ≡ blake2s [] program 32
      → ram' ≡ paste ram 0 program (length program) → p ≡ of_size phase.Loading n
      → ((m : List ℕ) → result_in x m uds' ≡ decided c p d m uds) → result_in x ram' uds' ≡ from_flash (record { bytes = slot; size = n }) c ram uds
  unfolding from_flash
  booted e d p x ram' uds' ed er es ex =
      rw (← tested, e, ← ep) (ex ram' ∙ rw (er, put_at_front ram program, es, ed))

-- where the program comes from, as the record says it
pub by_source_is : (r : Contents) (udi : List ℕ) (f : Flash) (ram uds : List ℕ) (k : Source) (c : Config) → k ≡ source_of r.type
    → c ≡ config_of r udi f.built_in (length ram) → by_source k f c ram uds ≡ by_type r udi f ram uds
by_source_is r udi f ram uds k c e ec =
    ap (λ (x : Source). by_source x f c ram uds) e ∙ ap (λ (x : Config). by_source (source_of r.type) f x ram uds) ec
