-- A good frame gathered byte by byte: after its header and k bytes of its body, those k bytes are in, if it is for the firmware.
use Prim.Native.Nat.{ℕ, zero, suc, ◌+◌, ◌-◌, ◌≤◌, ◌<◌}
use mathlib.Core.Bool.{Bool, true, false, not, cond, and-true, and-false}
use mathlib.Core.List.{List, []}
use mathlib.Core.Path.{◌≡◌, refl, sym, ap, ◌∙◌}
use native.Mathlib.Omega.{arith}
use native.Mathlib.Numerals.{add-one}
use lib.Dec.{eqb}
use lib.ListN.{length, get_or, set, drop, drop_of_length-le}
use lib.Seq.{drop-cons, paste, paste-zero, paste-suc}
use borrow.Author.Tests.{eq-eqb, ne_eqb, le-leb}
use Rattle.framing.specs.Header.{good, header_at, fields_at, body_len}
use Rattle.head.specs.State.{is_whole, incoming_ok, idle}
use Rattle.head.specs.Answers.{continues, whole, Gathering}
use Rattle.head.specs.Gather.{Step, taken, with_byte, byte_step, gather_refusal, with_incoming, after_step, gathered}
use Rattle.head.specs.Theorems.{gathered_on}
use Rattle.framing.proofs.Headers.{body_small}
use Rattle.head.proofs.Ranges.{length_some, range_facts, is_in_range, ram_ok}
use Rattle.head.proofs.Admitted.{gather_admitted_as, gather_admitted}
use Rattle.head.specs.declared.Incoming.{Incoming}
use Rattle.head.specs.declared.State.{State}

module _ (s : State) (h id ep n : ℕ) (body : List ℕ) (free : gather_refusal s ≡ 0) (idles : s.incoming.got ≡ 0)
    (room : length s.incoming.body ≡ 128) (header : header_at h ≡ good id ep n) (full : length body ≡ n) where
  small : n ≤ 128
  small = let e : body_len (header_at h) ≡ n = ap body_len header in let b = body_small h in omega arith

  abbrev old : List ℕ
  old = s.incoming.body

  -- the header and k bytes of the body are in
  abbrev partly : ℕ → Incoming
  partly k = record { header = h; got = k + 1; body = cond (eqb ep 2) (paste old 0 body k) old }

  abbrev after : ℕ → State
  after k = with_incoming s (partly k)

  byte_in : (k : ℕ) → k < n → with_byte (partly k) ep (get_or body k 0) ≡ partly (k + 1)
  byte_in k l = go (eqb ep 2)
    where
      go : (t : Bool)
          → ◌≡◌ {A = Incoming} (record { header = h; got = k + 1 + 1; body = cond t (set (cond t (paste old 0 body k) old) (k + 1 - 1) (get_or body k 0)) (cond t (paste old 0 body k) old) })
          (record { header = h; got = k + 1 + 1; body = cond t (paste old 0 body (k + 1)) old })
      go true =
          let u = small in
          let e : set (paste old 0 body k) (0 + k) (get_or body k 0) ≡ paste old 0 body (suc k) = paste-suc old 0 body k 0 (omega arith) (omega arith) in
          let f : k + 1 - 1 ≡ 0 + k = omega arith in
          rw (f, e, add-one k)
      go false = refl

  -- until the last byte a byte is taken, and the frame is not whole
  not_whole : (k : ℕ) → k < n → is_whole (partly k) ≡ false
  not_whole k l = rw (header, ne_eqb (k + 1) (n + 1) (λ z. omega arith), and-false (eqb ep 2))

  free_on : (k : ℕ) → k < n → gather_refusal (after k) ≡ 0
  unfolding gather_refusal
  free_on k l =
      let a = gather_admitted s free in
      let o : incoming_ok (partly k) ≡ true = rw (ne_eqb (k + 1) 0 (λ z. omega arith), header, le-leb (k + 1) n (omega arith)) in
      rw (is_in_range (after k) (ram_ok s a.range) o (range_facts s a.range).progress, a.goes, not_whole k l)

  step_is : (t : State) (b : ℕ) (x : Step) → gather_refusal t ≡ 0 → byte_step t.incoming b ≡ x → gathered t b ≡ after_step x t
  step_is t b x z e = sym (gather_admitted_as t b (sym z)) ∙ ap (λ (y : Step). after_step y t) e

  -- a byte that is not the last, and the last
  middle : (k : ℕ) → k + 1 < n → byte_step (partly k) (get_or body k 0) ≡ taken (partly (k + 1))
  unfolding byte_step
  middle k l =
      rw (ne_eqb (k + 1) 0 (λ z. omega arith), header, ne_eqb (k + 1) n (λ z. omega arith), and-false (not (eqb ep 2)), byte_in k (omega arith))

  last : (k : ℕ) → k + 1 ≡ n → byte_step (partly k) (get_or body k 0) ≡ taken (cond (not (eqb ep 2)) idle (partly n))
  unfolding byte_step
  last k e =
      rw (ne_eqb (k + 1) 0 (λ z. omega arith), header, eq-eqb (k + 1) n e, and-true (not (eqb ep 2)), byte_in k (omega arith), e)

  abbrev closing : Gathering
  closing = record {
    report = cond (eqb ep 2) whole continues;
    state = with_incoming s (cond (eqb ep 2) (record { header = h; got = n + 1; body = paste old 0 body n }) idle);
  }

  closes : (k : ℕ) → after_step (taken (cond (not (eqb ep 2)) idle (partly n))) (after k) ≡ closing
  unfolding header_at fields_at
  closes k = go (eqb ep 2) refl
    where
      go : (t : Bool) → eqb ep 2 ≡ t
          → after_step (taken (cond (not t) idle (record { header = h; got = n + 1; body = cond t (paste old 0 body n) old }))) (after k)
          ≡ record { report = cond t whole continues; state = with_incoming s (cond t (record { header = h; got = n + 1; body = paste old 0 body n }) idle) }
      go true e = rw (header, e, eq-eqb (n + 1) (n + 1) refl)
      go false e = refl

  -- the body from byte k on
  rest : (j k : ℕ) → k + suc j ≡ n → gathered_on (drop k body) (record { report = continues; state = after k }) ≡ closing
  rest zero k e =
      let d : drop (suc k) body ≡ [] = drop_of_length-le body {i = suc k} (omega arith) in
      ap (λ (l : List ℕ). gathered_on l (record { report = continues; state = after k })) (drop-cons body k 0 (omega arith))
      ∙ ap (gathered_on (drop (suc k) body)) (step_is (after k) (get_or body k 0) _ (free_on k (omega arith)) (last k (omega arith)) ∙ closes k)
      ∙ ap (λ (l : List ℕ). gathered_on l closing) d
  rest (suc j) k e =
      ap (λ (l : List ℕ). gathered_on l (record { report = continues; state = after k })) (drop-cons body k 0 (omega arith))
      ∙ ap (gathered_on (drop (suc k) body)) (step_is (after k) (get_or body k 0) _ (free_on k (omega arith)) (middle k (omega arith)) ∙ goes_on (k + 1) (omega arith))
      ∙ ap (λ (l : ℕ). gathered_on (drop l body) (record { report = continues; state = after (k + 1) })) (sym (add-one k))
      ∙ rest j (k + 1) (omega arith)
    where
      goes_on : (i : ℕ) → i < n → after_step (taken (partly i)) (after k) ≡ record { report = continues; state = after i }
      goes_on i l = rw (not_whole i l)

  opens : byte_step s.incoming h ≡ taken (partly 0)
  unfolding byte_step
  opens = rw (idles, header) (go (eqb ep 2))
    where
      go : (t : Bool) → taken (record { header = h; got = 1; body = old }) ≡ taken (record { header = h; got = 0 + 1; body = cond t (paste old 0 body 0) old })
      go true = rw (← paste-zero old 0 body)
      go false = refl

  pub frame_whole : gathered_on body (gathered s h) ≡ closing
  frame_whole =
      let l = length_some h id ep n header in
      let w : is_whole (partly 0) ≡ false = not_whole 0 (omega arith) in
      ap (gathered_on body) (step_is s h (taken (partly 0)) free opens ∙ rw w refl) ∙ rest (n - 1) 0 (omega arith)

-- a byte of a frame for another endpoint
passed : (i : Incoming) (b b' id ep n : ℕ) → (i.got ≡ 0 → ⊥) → header_at i.header ≡ good id ep n → (ep ≡ 2 → ⊥) → byte_step i b ≡ byte_step i b'
unfolding byte_step
passed i b b' id ep n g h e = rw (ne_eqb i.got 0 g, h, ne_eqb ep 2 e)

pub passed_over : (s : State) (b b' id ep n : ℕ) → (s.incoming.got ≡ 0 → ⊥) → header_at s.incoming.header ≡ good id ep n → (ep ≡ 2 → ⊥)
    → gathered s b ≡ gathered s b'
unfolding gathered
passed_over s b b' id ep n g h e = rw (passed s.incoming b b' id ep n g h e)
