-- Memory after a byte is that of the next state.
use Prim.Native.Nat.{ℕ, ◌+◌, ◌-◌, ◌<◌}
use mathlib.Core.Path.{◌≡◌, refl, sym, ap, ◌∙◌}
use mathlib.Core.Bool.{true}
use mathlib.Core.List.{List, [], ◌∷◌, ◌++◌}
use native.Mathlib.Omega.{arith}
use lib.ListN.{length, get_or, take, drop, set, length-set, length-append, length-drop}
use lib.Seq.{get_or-set_same, get_or-set_other, take-set-le, take-set-lt, drop-set-lt, get_or-drop, drop-drop}
use Rattle.endian.specs.Lists.{zeros}
use Rattle.head.specs.State.{idle, ended}
use Rattle.head.specs.Gather.{with_incoming}
use Rattle.head.specs.declared.Phase.TheVariants.{Stopped}
use Rattle.abi.specs.Layout.{lent, holds, state_in, memory_of}
use Rattle.abi.proofs.RoundTrip.{forth}

module _ (n b : List ℕ) (numbers : length n ≡ 3) (full : length b ≡ 268) (held : holds b ≡ true) where
  module _ (b' : List ℕ) (full' : length b' ≡ 268) (rest : drop 130 b' ≡ drop 130 b) where
    one : (i : ℕ) → get_or b' (130 + i) 0 ≡ get_or b (130 + i) 0
    one i = sym (get_or-drop 130 b' i 0) ∙ ap (λ (l : List ℕ). get_or l i 0) rest ∙ get_or-drop 130 b i 0

    part : (i : ℕ) → drop (130 + i) b' ≡ drop (130 + i) b
    part i = sym (drop-drop i 130 b') ∙ ap (drop i) rest ∙ drop-drop i 130 b

    -- only the frame differs
    same : (h g : ℕ) (body : List ℕ) → get_or b' 128 0 ≡ h → get_or b' 129 0 ≡ g → take 128 b' ≡ body
        → state_in (lent n b') ≡ with_incoming (state_in (lent n b)) (record { header = h; got = g; body = body })
    unfolding state_in
    same h g body eh eg eb =
        let p : get_or b' 130 0 ≡ get_or b 130 0 = one 0 in
        let f : get_or b' 131 0 ≡ get_or b 131 0 = one 1 in
        let r : drop 132 b' ≡ drop 132 b = part 2 in
        let m : drop 164 b' ≡ drop 164 b = part 34 in
        let u : drop 196 b' ≡ drop 196 b = part 66 in
        let w : drop 204 b' ≡ drop 204 b = part 74 in
        let d : drop 236 b' ≡ drop 236 b = part 106 in
        rw (eh, eg, eb, p, f, r, m, u, w, d)

    framed : (h g : ℕ) (body : List ℕ) → get_or b' 128 0 ≡ h → get_or b' 129 0 ≡ g → take 128 b' ≡ body
        → lent n b' ≡ memory_of (with_incoming (state_in (lent n b)) (record { header = h; got = g; body = body }))
    framed h g body eh eg eb =
        let p : get_or b' 130 0 ≡ get_or b 130 0 = one 0 in
        let f : get_or b' 131 0 ≡ get_or b 131 0 = one 1 in
        sym (forth (lent n b') (record { numbers = numbers; bytes = full' }) (rw (p, f) held)) ∙ ap memory_of (same h g body eh eg eb)

  -- a header
  pub opened_in : (x : ℕ) → lent n (set (set b 128 x) 129 1) ≡ memory_of (with_incoming (state_in (lent n b)) (record { header = x; got = 1; body = take 128 b }))
  opened_in x =
      framed (set (set b 128 x) 129 1) (rw (length-set, length-set) full)
      (drop-set-lt 130 (set b 128 x) 129 1 (omega arith) ∙ drop-set-lt 130 b 128 x (omega arith))
      x
      1
      (take 128 b)
      (get_or-set_other (set b 128 x) 129 128 1 0 (λ e. omega arith) ∙ get_or-set_same b 128 x 0 (omega arith))
      (get_or-set_same (set b 128 x) 129 1 0 (rw length-set (omega arith)))
      (take-set-le 128 (set b 128 x) 129 1 (omega arith) ∙ take-set-le 128 b 128 x (omega arith))

  -- a byte of the body that is kept
  pub kept_in : (i x g : ℕ) → i < 128
      → lent n (set (set b i x) 129 g) ≡ memory_of (with_incoming (state_in (lent n b)) (record { header = get_or b 128 0; got = g; body = set (take 128 b) i x }))
  kept_in i x g l =
      framed (set (set b i x) 129 g) (rw (length-set, length-set) full)
      (drop-set-lt 130 (set b i x) 129 g (omega arith) ∙ drop-set-lt 130 b i x (omega arith))
      (get_or b 128 0)
      g
      (set (take 128 b) i x)
      (get_or-set_other (set b i x) 129 128 g 0 (λ e. omega arith) ∙ get_or-set_other b i 128 x 0 (λ e. omega arith))
      (get_or-set_same (set b i x) 129 g 0 (rw length-set (omega arith)))
      (take-set-le 128 (set b i x) 129 g (omega arith) ∙ take-set-lt 128 b i x l)

  -- and one that is not
  pub passed_in : (g : ℕ) → lent n (set b 129 g) ≡ memory_of (with_incoming (state_in (lent n b)) (record { header = get_or b 128 0; got = g; body = take 128 b }))
  passed_in g =
      framed (set b 129 g) (rw length-set full)
      (drop-set-lt 130 b 129 g (omega arith))
      (get_or b 128 0)
      g
      (take 128 b)
      (get_or-set_other b 129 128 g 0 (λ e. omega arith))
      (get_or-set_same b 129 g 0 (omega arith))
      (take-set-le 128 b 129 g (omega arith))

  -- the end of a frame that is passed over
  pub idle_in : (z : List ℕ) → z ≡ zeros 130 ++ drop 130 b → lent n z ≡ memory_of (with_incoming (state_in (lent n b)) idle)
  idle_in z e =
      let l : length z ≡ 268 = ap length e ∙ length-append (zeros 130) (drop 130 b) ∙ ap (λ (k : ℕ). 130 + k) (length-drop 130 b ∙ ap (λ (k : ℕ). k - 130) full) in
      framed z l (ap (drop 130) e) 0 0 (zeros 128) (ap (λ (x : List ℕ). get_or x 128 0) e) (ap (λ (x : List ℕ). get_or x 129 0) e) (ap (take 128) e)

-- a stop
pub ended_in : (n : List ℕ) → length n ≡ 3 → lent (set (set n 1 0) 2 0) (set (zeros 268) 130 3) ≡ memory_of (ended Stopped (get_or n 0 0))
unfolding memory_of ended
ended_in [] e = absurd (omega arith)
ended_in (x ∷ []) e = absurd (omega arith)
ended_in (x ∷ y ∷ []) e = absurd (omega arith)
ended_in (x ∷ y ∷ z ∷ []) e = refl
ended_in (x ∷ y ∷ z ∷ w ∷ n) e = absurd (omega arith)
