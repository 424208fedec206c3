-- What a frame asks for, by the table of commands: taken, not allowed, or of another length.
use Prim.Native.Nat.{ℕ}
use mathlib.Core.Path.{◌≡◌, refl, sym, ◌∙◌}
use mathlib.Core.Logic.{◌⊎◌, inl, inr, ⊎_elim}
use mathlib.Core.Bool.{Bool, true, false, cond}
use mathlib.Core.List.{List, [], ◌∷◌}
use native.Mathlib.Omega.{arith}
use lib.Dec.{eqb}
use lib.ListN.{length}
use borrow.Author.Tests.{eqb-true, eqb-false}
use Rattle.endian.specs.Lists.{zeros}
use Rattle.protocol.specs.Commands.{command_in}
use Rattle.head.specs.Act.{Request, asks_name, asks_udi, gives_load, gives_block, halts, request_waiting, request_loading}
use Rattle.session.specs.Reading.{body_of, QueryFrame, LoadFrame, BlockFrame}
use Rattle.reasons.specs.Meaning.{TakenWaiting, NotAllowed, OtherLength}

-- while a load is waited for
pub data AsksWaiting (f : List ℕ) : Request → Type 0 where
  a_name : QueryFrame f → AsksWaiting f asks_name
  a_udi : QueryFrame f → AsksWaiting f asks_udi
  a_load : LoadFrame f → AsksWaiting f gives_load
  w_command : NotAllowed TakenWaiting f → AsksWaiting f (halts 23)
  w_length : OtherLength TakenWaiting f → AsksWaiting f (halts 24)

-- while blocks are
pub data AsksLoading (f : List ℕ) : Request → Type 0 where
  a_block : BlockFrame f → AsksLoading f gives_block
  l_command : NotAllowed BlockFrame f → AsksLoading f (halts 23)
  l_length : OtherLength BlockFrame f → AsksLoading f (halts 24)

module _ (f : List ℕ) where
  abbrev c : ℕ
  c = command_in f

  abbrev n : ℕ
  n = length (body_of f)

  -- three commands that are not the frame's
  none : eqb c 0x01 ≡ false → eqb c 0x08 ≡ false → eqb c 0x03 ≡ false → NotAllowed TakenWaiting f
  none x y z g e t =
      ⊎_elim (λ q. ⊎_elim (λ a. eqb-false c 0x01 x (sym e ∙ a)) (λ a. eqb-false c 0x08 y (sym e ∙ a)) q.1) (λ l. eqb-false c 0x03 z (sym e ∙ l.1)) t

  -- a command that is, and the length that it does not have
  query_length : (c ≡ 0x01) ⊎ (c ≡ 0x08) → eqb n 1 ≡ false → OtherLength TakenWaiting f
  query_length e t = (
    (0 ∷ c ∷ [], refl, inl (refl, e)),
    λ u. ⊎_elim (λ q. eqb-false n 1 t q.0) (λ l. let d : c ≡ 3 = l.1 in ⊎_elim (λ (a : c ≡ 0x01). omega arith) (λ (a : c ≡ 0x08). omega arith) e) u,
  )

  load_length : c ≡ 0x03 → eqb n 128 ≡ false → OtherLength TakenWaiting f
  load_length e t = (
    (0 ∷ c ∷ zeros 127, refl, inr (refl, e)),
    λ u. ⊎_elim (λ q. ⊎_elim (λ (a : c ≡ 0x01). omega arith) (λ (a : c ≡ 0x08). omega arith) q.1) (λ l. eqb-false n 128 t l.0) u,
  )

  pub asks_waiting : AsksWaiting f (request_waiting c n)
  asks_waiting = go (eqb c 0x01) (eqb c 0x08) (eqb c 0x03) (eqb n 1) (eqb n 128) refl refl refl refl refl
    where
      go : (x y z t u : Bool) → eqb c 0x01 ≡ x → eqb c 0x08 ≡ y → eqb c 0x03 ≡ z → eqb n 1 ≡ t → eqb n 128 ≡ u
          → AsksWaiting f (cond x (cond t asks_name (halts 24)) (cond y (cond t asks_udi (halts 24)) (cond z (cond u gives_load (halts 24)) (halts 23))))
      go true y z true u ex ey ez et eu = a_name (eqb-true n 1 et, inl (eqb-true c 0x01 ex))
      go true y z false u ex ey ez et eu =
          w_length (query_length (inl (eqb-true c 0x01 ex)) et)
      go false true z true u ex ey ez et eu = a_udi (eqb-true n 1 et, inr (eqb-true c 0x08 ey))
      go false true z false u ex ey ez et eu =
          w_length (query_length (inr (eqb-true c 0x08 ey)) et)
      go false false true t true ex ey ez et eu = a_load (eqb-true n 128 eu, eqb-true c 0x03 ez)
      go false false true t false ex ey ez et eu =
          w_length (load_length (eqb-true c 0x03 ez) eu)
      go false false false t u ex ey ez et eu = w_command (none ex ey ez)

  pub asks_loading : AsksLoading f (request_loading c n)
  asks_loading = go (eqb c 0x05) (eqb n 128) refl refl
    where
      go : (x u : Bool) → eqb c 0x05 ≡ x → eqb n 128 ≡ u → AsksLoading f (cond x (cond u gives_block (halts 24)) (halts 23))
      go true true ex eu = a_block (eqb-true n 128 eu, eqb-true c 0x05 ex)
      go true false ex eu = l_length ((0 ∷ c ∷ zeros 127, refl, (refl, eqb-true c 0x05 ex)), λ t. eqb-false n 128 eu t.0)
      go false u ex eu = l_command (λ g e t. eqb-false c 0x05 ex (sym e ∙ t.1))
