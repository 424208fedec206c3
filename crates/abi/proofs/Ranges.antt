-- The refusals, by the tests that the code makes.
use Prim.Native.Nat.{ℕ, ◌+◌, ◌<◌, ◌≤◌}
use mathlib.Core.Path.{◌≡◌, refl, sym, ap, ◌∙◌}
use mathlib.Core.Bool.{Bool, true, false, not, cond, ◌&&◌}
use mathlib.Core.List.{List}
use native.Mathlib.Omega.{arith}
use lib.Dec.{eqb, ltb}
use lib.ListN.{length, get_or}
use borrow.Author.Tests.{eqb-true, eqb-false, ne_eqb, lt-ltb, le-ltb, lt-leb}
use Rattle.framing.specs.Header.{Reading, good, stop, header_at, body_len}
use Rattle.protocol.specs.Commands.{length_ok}
use Rattle.head.specs.State.{whole_by, frame_ok, load_ok, progress_in, in_range, live}
use Rattle.head.specs.Gather.{gather_refusal, gathered}
use Rattle.head.specs.declared.Phase.TheVariants.{Waiting, Loading, Started, Stopped}
use Rattle.head.specs.Answers.{refusal_number}
use Rattle.head.specs.declared.Progress.{Progress}
use Rattle.head.specs.declared.Refusal.{Refusal}
use Rattle.head.specs.declared.Refusal.TheVariants.{StateRange, Ended, ReplyRoom, RamLength, SecretLength, RecordLength, RamSize, OutOfTurn}
use Rattle.head.proofs.Admitted.{gather_admitted, gather_admitted_as}
use Rattle.head.proofs.Ranges.{incoming_got, range_facts}
use Rattle.abi.specs.Layout.{lent, phase_of, holds, state_in}
use Rattle.abi.specs.Calls.{gather_told, after_gather, gather_call}
use Rattle.abi.specs.Steps.{admitted}
use Rattle.abi.proofs.RoundTrip.{forth}

-- no refusal has the number 0
pub some_number : (why : Refusal) → refusal_number why ≡ 0 → ⊥
some_number StateRange e = omega arith
some_number Ended e = omega arith
some_number ReplyRoom e = omega arith
some_number RamLength e = omega arith
some_number SecretLength e = omega arith
some_number RecordLength e = omega arith
some_number RamSize e = omega arith
some_number OutOfTurn e = omega arith

-- only while loading is anything of a load tested
progress_same : (k : ℕ) (p : Progress) (m : ℕ) → progress_in (phase_of k) p m ≡ cond (eqb k 1) (load_ok p.size p.block m) true
progress_same k p m = go (eqb k 0) (eqb k 1) (eqb k 2) refl refl
  where
    go : (x y z : Bool) → eqb k 0 ≡ x → eqb k 1 ≡ y
        → progress_in (cond x Waiting (cond y Loading (cond z Started Stopped))) p m ≡ cond y (load_ok p.size p.block m) true
    go true true z e f = absurd (let a = eqb-true k 0 e in let b = eqb-true k 1 f in omega arith)
    go true false z e f = refl
    go false true z e f = refl
    go false false true e f = refl
    go false false false e f = refl

live_same : (k : ℕ) → live (phase_of k) ≡ ltb k 2
live_same k = go (eqb k 0) (eqb k 1) (eqb k 2) refl refl
  where
    go : (x y z : Bool) → eqb k 0 ≡ x → eqb k 1 ≡ y → live (cond x Waiting (cond y Loading (cond z Started Stopped))) ≡ ltb k 2
    go true y z e f = let a = eqb-true k 0 e in sym (lt-ltb k 2 (omega arith))
    go false true z e f = let a = eqb-true k 1 f in sym (lt-ltb k 2 (omega arith))
    go false false true e f = sym (le-ltb k 2 (omega (arith, eqb-false k 0 e, eqb-false k 1 f)))
    go false false false e f = sym (le-ltb k 2 (omega (arith, eqb-false k 0 e, eqb-false k 1 f)))

-- a frame in range is whole exactly when more has come than its body's length
whole_past : (h g : ℕ) → frame_ok h g ≡ true → body_len (header_at h) < g → whole_by (header_at h) g ≡ true
whole_past h g f l = rw (ne_eqb g 0 (λ e. omega arith), lt-leb g (body_len (header_at h)) l) at f

whole_not : (h g : ℕ) → g ≤ body_len (header_at h) → whole_by (header_at h) g ≡ false
whole_not h g l = go (header_at h) l
  where
    go : (r : Reading) → g ≤ body_len r → whole_by r g ≡ false
    go (good id ep n) q = rw (ne_eqb g (n + 1) (λ e. omega arith)) (second (eqb ep 2))
      where
        second : (x : Bool) → x && false ≡ false
        second true = refl
        second false = refl
    go (stop k) q = refl

module _ (n b : List ℕ) where
  abbrev tests : Bool
  tests =
      length_ok (get_or n 0 0)
      && (frame_ok (get_or b 128 0) (get_or b 129 0) && cond (eqb (get_or b 130 0) 1) (load_ok (get_or n 1 0) (get_or n 2 0) (get_or n 0 0)) true)

  range_same : in_range (state_in (lent n b)) ≡ tests
  unfolding state_in in_range
  range_same =
      ap (λ (t : Bool). length_ok (get_or n 0 0) && (frame_ok (get_or b 128 0) (get_or b 129 0) && t))
      (progress_same (get_or b 130 0) (state_in (lent n b)).progress (get_or n 0 0))

  number : gather_refusal (state_in (lent n b))
      ≡ cond (not tests) 1 (cond (not (ltb (get_or b 130 0) 2)) 2 (cond (whole_by (header_at (get_or b 128 0)) (get_or b 129 0)) 47 0))
  unfolding state_in gather_refusal
  number =
      let r = range_same in
      let l = live_same (get_or b 130 0) in
      rw (r, l)

  pub no_state : holds b ≡ false → 1 ≡ cond (holds b) (gather_refusal (state_in (lent n b))) 1
  no_state h = rw h

  -- the tests in the code's order
  abbrev pub numbers_ok : Bool
  numbers_ok = length_ok (get_or n 0 0) && cond (eqb (get_or b 130 0) 1) (load_ok (get_or n 1 0) (get_or n 2 0) (get_or n 0 0)) true

  module _ (h : holds b ≡ true) where
    pub bad_numbers : numbers_ok ≡ false → 1 ≡ cond (holds b) (gather_refusal (state_in (lent n b))) 1
    bad_numbers t = rw h (sym (number ∙ rw (first (length_ok (get_or n 0 0)) (frame_ok (get_or b 128 0) (get_or b 129 0)) _ t)))
      where
        first : (x y z : Bool) → x && z ≡ false → x && (y && z) ≡ false
        first true true z e = e
        first true false z e = refl
        first false y z e = refl

    pub bad_frame : frame_ok (get_or b 128 0) (get_or b 129 0) ≡ false → 1 ≡ cond (holds b) (gather_refusal (state_in (lent n b))) 1
    bad_frame t = rw h (sym (number ∙ rw (t, second (length_ok (get_or n 0 0)))))
      where
        second : (x : Bool) → x && false ≡ false
        second true = refl
        second false = refl

    module _ (t : numbers_ok ≡ true) (f : frame_ok (get_or b 128 0) (get_or b 129 0) ≡ true) where
      both : tests ≡ true
      both = go (length_ok (get_or n 0 0)) (frame_ok (get_or b 128 0) (get_or b 129 0)) _ t f
        where
          go : (x y z : Bool) → x && z ≡ true → y ≡ true → x && (y && z) ≡ true
          go true true z e p = e
          go true false z e p = p
          go false y z e p = e

      pub has_ended : 2 ≤ get_or b 130 0 → 2 ≡ cond (holds b) (gather_refusal (state_in (lent n b))) 1
      has_ended l = rw h (sym (number ∙ rw (both, le-ltb (get_or b 130 0) 2 l)))

      pub has_whole : get_or b 130 0 < 2 → body_len (header_at (get_or b 128 0)) < get_or b 129 0 → 47 ≡ cond (holds b) (gather_refusal (state_in (lent n b))) 1
      has_whole l p = rw h (sym (number ∙ rw (both, lt-ltb (get_or b 130 0) 2 l, whole_past (get_or b 128 0) (get_or b 129 0) f p)))

      pub admits : get_or b 130 0 < 2 → get_or b 129 0 ≤ body_len (header_at (get_or b 128 0)) → 0 ≡ cond (holds b) (gather_refusal (state_in (lent n b))) 1
      admits l p = rw h (sym (number ∙ rw (both, lt-ltb (get_or b 130 0) 2 l, whole_not (get_or b 128 0) (get_or b 129 0) p)))

  -- ---- a call, by the number of its refusal

  module _ (r : ℕ) (e : r ≡ cond (holds b) (gather_refusal (state_in (lent n b))) 1) where
    -- not refused
    module _ (z : r ≡ 0) where
      passed : (holds b ≡ true) × (gather_refusal (state_in (lent n b)) ≡ 0)
      passed = go (holds b) refl (sym z ∙ e)
        where
          go : (t : Bool) → holds b ≡ t → ◌≡◌ {A = ℕ} 0 (cond t (gather_refusal (state_in (lent n b))) 1) → (holds b ≡ true) × (gather_refusal (state_in (lent n b)) ≡ 0)
          go true p q = (p, sym q)
          go false p q = absurd (omega arith)

      pub held : holds b ≡ true
      held = passed.0

      pub admitted_as : (x : ℕ) → admitted (lent n b) x ≡ gather_call (lent n b) x
      unfolding admitted gather_call
      admitted_as x = rw held (ap after_gather (gather_admitted_as (state_in (lent n b)) x (sym passed.1)))

      -- in a frame that is not whole
      pub in_frame : (get_or b 129 0 ≡ 0 → ⊥) → (1 ≤ get_or b 129 0) × (get_or b 129 0 ≤ body_len (header_at (get_or b 128 0)))
      unfolding state_in
      in_frame f =
          let s = state_in (lent n b) in
          let a = gather_admitted s passed.1 in
          let g = incoming_got s.incoming (range_facts s a.range).incoming a.unfinished f in
          (g.0, g.1)

    -- refused: the memory that holds a state is that state's
    pub refuses : length n ≡ 3 → length b ≡ 268 → (r ≡ 0 → ⊥) → (x : ℕ) → gather_told r (lent n b) ≡ gather_call (lent n b) x
    unfolding gather_call gathered
    refuses ln lb z x = go (holds b) refl e
      where
        go : (t : Bool) → holds b ≡ t → r ≡ cond t (gather_refusal (state_in (lent n b))) 1
            → gather_told r (lent n b) ≡ cond t (after_gather (gathered (state_in (lent n b)) x)) (gather_told 1 (lent n b))
        go false p q = ap (λ (k : ℕ). gather_told k (lent n b)) q
        go true p q =
            rw (ne_eqb (gather_refusal (state_in (lent n b))) 0 (λ k. z (q ∙ k)), ← q, forth (lent n b) (record { numbers = ln; bytes = lb }) p)
