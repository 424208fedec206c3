-- The shed bench (specs/Checklist.antt). A frame for another endpoint is passed over byte by byte.
use Prim.Native.Nat.{ℕ, suc, ◌+◌, ◌<◌}
use mathlib.Core.Path.{◌≡◌, refl, sym, ap, ◌∙◌, subst}
use mathlib.Core.Bool.{true}
use mathlib.Core.List.{List, [], ◌∷◌, ◌++◌}
use native.Mathlib.Omega.{arith}
use lib.ListN.{length}
use Rattle.endian.proofs.Cases.{impossible}
use Rattle.framing.specs.Header.{good, stop, header_at, fields_at}
use Rattle.rfc7693.proofs.Proved.{hashing}
use Rattle.cdi.proofs.Proved.{cdi}
use Rattle.head.specs.State.{in_range}
use Rattle.head.specs.Answers.{continues, stopped, Gathering}
use Rattle.head.specs.Begin.{waiting}
use Rattle.head.specs.Gather.{Step, taken, byte_step, gather_refusal, gathered}
use Rattle.head.proofs.Admitted.{gather_admitted_as}
use Rattle.head.proofs.Ranges.{never}
use Rattle.head.proofs.Proved.{head_theorems}
use Rattle.session.specs.Session.{Reset}
use Rattle.session.specs.Checklist.{Begun, PassedOver, Checklist}
use Rattle.session.proofs.Gathering.{holding, Partial, is_part, Gathers, at_bad, at_part, at_passed, at_whole, gathers, length_snoc}
use Rattle.session.proofs.Frames.{same_size}
use Rattle.session.proofs.Acting.{empty_rest, at}
use Rattle.session.proofs.Ranges.{ranges}
use Rattle.session.proofs.Begins.{Fresh, fresh}
use Rattle.head.specs.declared.State.{State}

header_1b : header_at 0x1b ≡ good 0 3 128
unfolding header_at fields_at
header_1b = refl

module _ (R : Reset) where
  -- a head that waits for a load, of which the part p of a frame has come
  abbrev holds : List ℕ → State
  holds p = at R (holding p) waiting

  not_refused : (p : List ℕ) → Partial p → in_range (holds p) ≡ true → gather_refusal (holds p) ≡ 0
  unfolding gather_refusal
  not_refused p v r = rw (r, is_part p v)

  -- the byte b, after which the part q has come
  passes : (p q : List ℕ) (b : ℕ) (bs : List ℕ) (s : State) → Partial p → Partial q → in_range (holds p) ≡ true → byte_step (holding p) b ≡ taken (holding q)
      → (in_range (holds q) ≡ true → PassedOver bs (holds q) s) → PassedOver (b ∷ bs) (holds p) s
  passes p q b bs s v w r e f =
      let g : gathered (holds p) b ≡ record { report = continues; state = holds q } =
      sym (gather_admitted_as (holds p) b (sym (not_refused p v r))) ∙ rw (e, is_part q w) in
      let k : in_range (holds q) ≡ true = subst (λ (x : Gathering). in_range x.state ≡ true) g ((head_theorems.gather (holds p) b).stays r) in
      subst (λ (x : Gathering). (x.report ≡ continues) × PassedOver bs x.state s) (sym g) (refl, f k)

  body : (bs p : List ℕ) → length p + length bs ≡ 128 → length p < 128 → in_range (holds (0x1b ∷ p)) ≡ true → PassedOver bs (holds (0x1b ∷ p)) (holds [])
  body [] p l n r = absurd (omega arith)
  body (b ∷ bs) p l n r =
      go (byte_step (holding (0x1b ∷ p)) b) refl (gathers (0x1b ∷ p) b v) (λ k x. body bs (p ++ b ∷ []) (let s = length_snoc p b in omega arith) k x)
    where
      v : Partial (0x1b ∷ p)
      v = record { id = 0; ep = 3; n = 128; header = header_1b; short = n }

      n_is : (id ep n : ℕ) → header_at 0x1b ≡ good id ep n → n ≡ 128
      n_is id ep n e = same_size id 0 ep 3 n 128 (sym e ∙ header_1b)

      go : (x : Step) → byte_step (holding (0x1b ∷ p)) b ≡ x → Gathers (0x1b ∷ p) b x
          → (length (p ++ b ∷ []) < 128 → in_range (holds (0x1b ∷ (p ++ b ∷ []))) ≡ true → PassedOver bs (holds (0x1b ∷ (p ++ b ∷ []))) (holds []))
          → PassedOver (b ∷ bs) (holds (0x1b ∷ p)) (holds [])
      go x e (at_bad q y z) f = impossible cc
      go x e (at_part w y) f =
          let k = n_is w.id w.ep w.n w.header in
          let s = w.short in
          passes (0x1b ∷ p) (0x1b ∷ (p ++ b ∷ [])) b bs (holds []) v w r (e ∙ y) (f (omega arith))
      go x e (at_passed w o y) f =
          let k = n_is w.id w.ep w.n w.header in
          let d : suc (length (p ++ b ∷ [])) ≡ 1 + w.n = w.whole in
          let s = length_snoc p b in
          let z : bs ≡ [] = empty_rest bs (omega arith) in
          passes (0x1b ∷ p) [] b bs (holds []) v tt r (e ∙ y) (λ u. rw z refl)
      go x e (at_whole w o y) f = never (sym o)

  frame : (bs : List ℕ) → length bs ≡ 128 → in_range (holds []) ≡ true → PassedOver (0x1b ∷ bs) (holds []) (holds [])
  unfolding byte_step
  frame bs l r =
      passes [] (0x1b ∷ []) 0x1b bs (holds []) tt (record { id = 0; ep = 3; n = 128; header = header_1b; short = omega arith }) r (rw header_1b refl)
      (body bs [] (omega arith) (omega arith))

  -- a bad header
  halts : (b k : ℕ) → in_range (holds []) ≡ true → header_at b ≡ stop k → (gathered (holds []) b).report ≡ stopped 22
  unfolding byte_step
  halts b k r e = ap (λ (x : Gathering). x.report) (sym (gather_admitted_as (holds []) b (sym (not_refused [] tt r)))) ∙ rw e

module _ (s : State) (b : Begun s) where
  begins : Fresh b.reset
  begins = fresh b.reset b.begins b.client

  state_is : s ≡ holds b.reset []
  state_is = b.state ∙ begins.state

  is_in_range : in_range (holds b.reset []) ≡ true
  is_in_range = subst (λ (s : State). in_range s ≡ true) begins.state (ranges b.reset []).begun

  passed_over : (bs : List ℕ) → length bs ≡ 128 → PassedOver (0x1b ∷ bs) s s
  passed_over bs l = subst (λ (x : State). PassedOver (0x1b ∷ bs) x x) (sym state_is) (frame b.reset bs l is_in_range)

  bad_header : (x k : ℕ) → header_at x ≡ stop k → (gathered s x).report ≡ stopped 22
  bad_header x k e = rw state_is (halts b.reset x k is_in_range e)

pub checklist : Checklist
unfolding header_at fields_at
checklist =
    record {
      p1 = refl;
      p2 = refl;
      p3 = (header_1b, passed_over);
      p4 = λ s b. bad_header s b 0x90 22 refl;
      p5 = λ s b. bad_header s b 0x14 22 refl;
      p6 = refl;
      p7 = refl;
      p8 = refl;
      p9 = refl;
      p10 = (refl, refl);
      p11 = λ x d u. (cdi.domain x ∙ rw (d, u), cdi.size x ∙ rw u);
      p12 = λ x d u. (cdi.domain x ∙ rw (d, u), cdi.size x ∙ rw u);
      p13 = (
        λ msg l. hashing.unkeyed msg (omega arith) ∙ rw l refl,
        λ msg l. hashing.unkeyed msg (omega arith) ∙ rw l refl,
      );
    }
