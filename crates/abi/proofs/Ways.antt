-- Each way that a byte can go: what is told is what `gathered` says of the state that the memory holds.
use Prim.Native.Nat.{ℕ, ◌+◌, ◌-◌, ◌<◌, ◌≤◌}
use mathlib.Core.Path.{◌≡◌, refl, sym, ap, ◌∙◌}
use mathlib.Core.List.{List, ◌++◌}
use mathlib.Core.Bool.{Bool, true, false, cond, ◌&&◌}
use native.Mathlib.Omega.{arith}
use lib.Dec.{eqb}
use lib.ListN.{length, get_or, drop, set}
use borrow.Author.Tests.{eq-eqb, ne_eqb}
use Rattle.endian.specs.Lists.{zeros}
use Rattle.framing.specs.Header.{good, is_good, header_at, fields_at, in_field, frame_id, endpoint, body_len}
use Rattle.framing.proofs.Headers.{good_at, bad_at, body_small}
use Rattle.head.specs.State.{idle, ended}
use Rattle.head.specs.Answers.{continues, whole}
use Rattle.head.specs.Gather.{byte_step, after_step, with_incoming}
use Rattle.head.specs.declared.Phase.TheVariants.{Stopped}
use Rattle.head.specs.declared.State.{State}
use Rattle.head.proofs.Ranges.{length_some}
use Rattle.abi.specs.Layout.{lent, holds, state_in, memory_of}
use Rattle.abi.specs.Calls.{answer_number, gather_told, after_gather}
use Rattle.abi.specs.Steps.{admitted}
use Rattle.abi.proofs.Stores.{opened_in, kept_in, passed_in, idle_in, ended_in}

neither : (t : Bool) → answer_number (cond (t && false) whole continues) ≡ 0
neither true = refl
neither false = refl

-- ---- of a state

module _ (s : State) (x : ℕ) where
  opened_by : (id ep len : ℕ) → header_at x ≡ good id ep len → s.incoming.got ≡ 0
      → after_gather (after_step (byte_step s.incoming x) s) ≡ gather_told 0 (memory_of (with_incoming s (record { header = x; got = 1; body = s.incoming.body })))
  unfolding byte_step
  opened_by id ep len h e =
      let l = length_some x id ep len h in
      rw (eq-eqb s.incoming.got 0 e, h, h, ne_eqb 1 (len + 1) (λ k. omega arith), neither (eqb ep 2))

  stopped_by : is_good (header_at x) ≡ false → s.incoming.got ≡ 0
      → after_gather (after_step (byte_step s.incoming x) s) ≡ gather_told 22 (memory_of (ended Stopped s.config.ram_len))
  unfolding byte_step
  stopped_by c e = rw (eq-eqb s.incoming.got 0 e, bad_at x c)

  module _ (id ep len : ℕ) (some : s.incoming.got ≡ 0 → ⊥) (h : header_at s.incoming.header ≡ good id ep len) where
    kept_by : ep ≡ 2 → (t : Bool) → eqb (s.incoming.got + 1) (len + 1) ≡ t
        → after_gather (after_step (byte_step s.incoming x) s)
        ≡ gather_told (cond t 64 0) (memory_of (with_incoming s (record {
          header = s.incoming.header;
          got = s.incoming.got + 1;
          body = set s.incoming.body (s.incoming.got - 1) x;
        })))
    unfolding byte_step
    kept_by e true q = rw (ne_eqb s.incoming.got 0 some, h, eq-eqb ep 2 e, h, eq-eqb ep 2 e, q)
    kept_by e false q = rw (ne_eqb s.incoming.got 0 some, h, eq-eqb ep 2 e, h, eq-eqb ep 2 e, q)

    ended_by : (ep ≡ 2 → ⊥) → s.incoming.got ≡ len → after_gather (after_step (byte_step s.incoming x) s) ≡ gather_told 0 (memory_of (with_incoming s idle))
    unfolding byte_step header_at fields_at
    ended_by e q = rw (ne_eqb s.incoming.got 0 some, h, ne_eqb ep 2 e, eq-eqb s.incoming.got len q)

    passed_by : (ep ≡ 2 → ⊥) → (s.incoming.got ≡ len → ⊥)
        → after_gather (after_step (byte_step s.incoming x) s)
        ≡ gather_told 0 (memory_of (with_incoming s (record { header = s.incoming.header; got = s.incoming.got + 1; body = s.incoming.body })))
    unfolding byte_step
    passed_by e q = rw (ne_eqb s.incoming.got 0 some, h, ne_eqb ep 2 e, ne_eqb s.incoming.got len q, h, ne_eqb ep 2 e)

-- ---- of the memory

module _ (n b : List ℕ) (x : ℕ) (numbers : length n ≡ 3) (full : length b ≡ 268) (held : holds b ≡ true) where
  pub opens : is_good (header_at x) ≡ true → get_or b 129 0 ≡ 0 → gather_told 0 (lent n (set (set b 128 x) 129 1)) ≡ admitted (lent n b) x
  unfolding admitted state_in
  opens c e = ap (gather_told 0) (opened_in n b numbers full held x) ∙ sym (opened_by (state_in (lent n b)) x _ _ _ (good_at x c) e)

  pub stops : is_good (header_at x) ≡ false → get_or b 129 0 ≡ 0 → gather_told 22 (lent (set (set n 1 0) 2 0) (set (zeros 268) 130 3)) ≡ admitted (lent n b) x
  unfolding admitted state_in
  stops c e = ap (gather_told 22) (ended_in n numbers) ∙ sym (stopped_by (state_in (lent n b)) x c e)

  -- in a frame
  module _ (some : 1 ≤ get_or b 129 0) (within : get_or b 129 0 ≤ body_len (header_at (get_or b 128 0))) where
    abbrev got : ℕ
    got = get_or b 129 0

    pub small : got ≤ 128
    small = let s = body_small (get_or b 128 0) in omega arith

    good_in : header_at (get_or b 128 0) ≡ good (in_field frame_id (get_or b 128 0)) (in_field endpoint (get_or b 128 0)) (body_len (header_at (get_or b 128 0)))
    good_in = go (is_good (header_at (get_or b 128 0))) refl
      where
        go : (t : Bool) → is_good (header_at (get_or b 128 0)) ≡ t
            → header_at (get_or b 128 0) ≡ good (in_field frame_id (get_or b 128 0)) (in_field endpoint (get_or b 128 0)) (body_len (header_at (get_or b 128 0)))
        go true p = good_at (get_or b 128 0) p
        go false p = absurd (let w : body_len (header_at (get_or b 128 0)) ≡ 0 = ap body_len (bad_at (get_or b 128 0) p) in omega arith)

    module _ (ep len : ℕ) (h : ep ≡ in_field endpoint (get_or b 128 0)) (l : len ≡ body_len (header_at (get_or b 128 0))) where
      header : header_at (get_or b 128 0) ≡ good (in_field frame_id (get_or b 128 0)) ep len
      header = rw (h, l) good_in

      pub wholes : ep ≡ 2 → len ≤ got → gather_told 64 (lent n (set (set b (got - 1) x) 129 (got + 1))) ≡ admitted (lent n b) x
      unfolding admitted state_in
      wholes e q =
          let s = small in
          ap (gather_told 64) (kept_in n b numbers full held (got - 1) x (got + 1) (omega arith))
          ∙ sym (kept_by (state_in (lent n b)) x _ ep len (λ z. omega arith) header e true (eq-eqb (got + 1) (len + 1) (omega arith)))

      pub keeps : ep ≡ 2 → got < len → gather_told 0 (lent n (set (set b (got - 1) x) 129 (got + 1))) ≡ admitted (lent n b) x
      unfolding admitted state_in
      keeps e q =
          let s = small in
          ap (gather_told 0) (kept_in n b numbers full held (got - 1) x (got + 1) (omega arith))
          ∙ sym (kept_by (state_in (lent n b)) x _ ep len (λ z. omega arith) header e false (ne_eqb (got + 1) (len + 1) (λ z. omega arith)))

      pub ends : (b' : List ℕ) → b' ≡ zeros 130 ++ drop 130 b → (ep ≡ 2 → ⊥) → len ≤ got → gather_told 0 (lent n b') ≡ admitted (lent n b) x
      unfolding admitted state_in
      ends b' eb e q =
          ap (gather_told 0) (idle_in n b numbers full held b' eb) ∙ sym (ended_by (state_in (lent n b)) x _ ep len (λ z. omega arith) header e (omega arith))

      pub passes : (ep ≡ 2 → ⊥) → got < len → gather_told 0 (lent n (set b 129 (got + 1))) ≡ admitted (lent n b) x
      unfolding admitted state_in
      passes e q =
          ap (gather_told 0) (passed_in n b numbers full held (got + 1))
          ∙ sym (passed_by (state_in (lent n b)) x _ ep len (λ z. omega arith) header e (λ z. omega arith))
