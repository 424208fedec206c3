-- Outcomes put together from what the callees ensure, over variables, so that what is rewritten stays small.
use Prim.Native.Nat.{ℕ}
use mathlib.Core.Bool.{Bool, true, false}
use mathlib.Core.Path.{◌≡◌, refl, sym, ap, ◌∙◌}
use mathlib.Core.List.{List, []}
use lib.ListN.{length, take}
use Rattle.std.specs.Prelude.{Err}
use Rattle.std.specs.Bool.{then_some}
use Rattle.cdi.specs.Cdi.{cdi_string, cdi_of, cdi_from}
use Rattle.rfc7693.specs.Rfc7693.{blake2s}
use Rattle.protocol.specs.Commands.{bytes_of, load_in, good_load, is_last}
use Rattle.protocol.specs.Replies.{sent, load_reply, block_reply, digest_reply, put_in}
use Rattle.protocol.specs.declared.Frame.{Frame}
use Rattle.protocol.specs.declared.Load.{Load}
use Rattle.protocol.specs.declared.Reply.{Reply}
use Rattle.head.specs.Answers.{refusal_number, Result, result_in, replied, outcome_in, outcome}
use Rattle.head.specs.Start.{decided}
use Rattle.head.specs.Act.{frame_in, load_of, takes, loaded, load_answer, after_load, stored_in, next_block, between, finished_with, finished, acted_block, act_refusal, acted}
use Rattle.head.specs.Steps.{frame_of}
use Rattle.loader.specs.Steps.{Replies}
use Rattle.head.proofs.Admitted.{numbered}
use Rattle.head.specs.declared.Refusal.{Refusal}
use Rattle.head.specs.declared.Progress.{Progress}
use Rattle.head.specs.declared.State.{State}
use Rattle.head.specs.declared.Step.{Step}
use Rattle.head.specs.declared.Acted.{Acted}

-- a load, as it is read, tested and answered
module _ (s : State) (f : Frame) (l : Load) (g : Bool) (r : Reply)
    (ef : f ≡ frame_of s.incoming) (el : l ≡ load_in (bytes_of f)) (eg : g ≡ good_load s.config.ram_len l)
    (er : r ≡ load_reply s.incoming.header g) where
  load_is : l ≡ load_of s
  load_is = el ∙ ap (λ (x : Frame). load_in (bytes_of x)) ef

  taken_is : g ≡ takes s
  taken_is = eg ∙ ap (λ (x : Load). good_load s.config.ram_len x) load_is

  answer : r ≡ load_answer s
  unfolding load_answer
  answer = er ∙ ap (λ (x : Bool). load_reply s.incoming.header x) taken_is

  taken : g ≡ true → loaded l ≡ after_load s
  unfolding after_load
  taken t = let e : takes s ≡ true = sym taken_is ∙ t in rw e (ap loaded load_is)

  left : g ≡ false → s.progress ≡ after_load s
  unfolding after_load
  left t = let e : takes s ≡ false = sym taken_is ∙ t in rw e

  pub load_made : (r ≡ load_answer s) × (g ≡ true → loaded l ≡ after_load s) × (g ≡ false → s.progress ≡ after_load s)
  load_made = (answer, taken, left)

-- a block that is stored
module _ (s : State) (f : Frame) (last : Bool) (room ram ram' uds : List ℕ) (ef : f ≡ frame_of s.incoming)
    (em : ram' ≡ stored_in ram (bytes_of f) s.progress.size s.progress.block) (el : last ≡ is_last s.progress.size s.progress.block) where
  stored : ram' ≡ stored_in ram (frame_in s) s.progress.size s.progress.block
  stored = em ∙ ap (λ (x : Frame). stored_in ram (bytes_of x) s.progress.size s.progress.block) ef

  pub last_block : last ≡ true → finished s room ram' uds ≡ acted_block s room ram uds
  unfolding acted_block
  last_block t = rw (← el, t) (ap (λ (x : List ℕ). finished s room x uds) stored)

  pub other_block : last ≡ false → (r : Reply) (p : Progress) (x : Acted) (room' : List ℕ) → r ≡ block_reply s.incoming.header
      → p ≡ next_block s.progress → Replies x r (between s p) room room' → outcome_in x room' ram' uds ≡ acted_block s room ram uds
  unfolding acted_block
  other_block t r p x room' er ep ex = rw (← el, t, ex.0, ex.1, er, ep, stored)

-- after the last block, with the digest that is measured and how the program then ended
pub finished_as : (s : State) (d room ram uds : List ℕ) (x : Acted) (b : Step) (room' uds' : List ℕ)
    → d ≡ blake2s [] (take s.progress.size ram) 32 → room' ≡ put_in room (sent (digest_reply s.incoming.header d))
    → ((r m u : List ℕ) → outcome_in x r m u ≡ replied 129 r (result_in b m u))
    → ((m : List ℕ) → result_in b m uds' ≡ decided s.config s.progress d m uds) → outcome_in x room' ram uds' ≡ finished s room ram uds
unfolding finished_with
finished_as s d room ram uds x b room' uds' ed er ex eb =
    ex room' ram uds' ∙ ap (λ (y : Result). replied 129 room' y) (eb ram)
    ∙ ap (λ (r : List ℕ). replied 129 r (decided s.config s.progress d ram uds)) er ∙ ap (λ (y : List ℕ). finished_with y s room ram uds) ed

-- a refused call
pub refused_as : (s : State) (room ram uds : List ℕ) (w : Refusal) → refusal_number w ≡ act_refusal s (length room) (length ram) (length uds)
    → outcome (Err w) s room ram uds ≡ acted s room ram uds
unfolding acted
refused_as s room ram uds w e = rw (← e, numbered w)

-- a measured_id that is there where the CDI is chained, and a user secret that is there where one is used
pub derived : (uds measured_id d uss : List ℕ) (chained used : Bool)
    → cdi_from uds (then_some chained measured_id) d (then_some used uss) ≡ cdi_of uds chained measured_id d used uss
unfolding cdi_of cdi_string
derived uds measured_id d uss true true = refl
derived uds measured_id d uss true false = refl
derived uds measured_id d uss false true = refl
derived uds measured_id d uss false false = refl
