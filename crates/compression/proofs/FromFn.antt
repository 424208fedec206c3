-- What `array::from_fn` gives, where each call leaves what the closure reads as it was: the list of its values.
use Rattle.std.proofs.Common.{◌≡◌, ℕ, zero, suc, ◌+◌, ◌<◌, List, get_or, ◌∙◌, sym}
use native.Mathlib.Omega.{arith}
use denote.Param.Members.{Mut, Called}
use Rattle.std.proofs.lemmas.List.{ext_get_or}
use Rattle.std.specs.Array.{IsFromFnResult, IsFromFnResultFrom}
use Rattle.endian.specs.Lists.{each}
use Rattle.endian.proofs.Lists.{get_or_each, length_each}

module _ {F : Type 0} {g : Mut F (ℕ × Unit {0}) ℕ} (I : F → Type 0) (s : ℕ → ℕ)
    (step : (i : ℕ) (p q : F) (y : ℕ) → I p → Called g p (i, tt) y q → I q × (y ≡ s i)) where
  each_at : (p : F) (ys : List ℕ) (i n : ℕ) → I p → IsFromFnResultFrom g p ys i n → (j k : ℕ) → k ≡ i + j → j < n → get_or ys k 0 ≡ s k
  each_at p ys i zero h r j k e b = absurd (omega arith)
  each_at p ys i (suc n) h r zero k e b =
      let t = step i p r.0 r.1 h r.3 in
      let f : k ≡ i = omega arith in
      rw f (r.2.1 0 ∙ t.1)
  each_at p ys i (suc n) h r (suc j) k e b = each_at r.0 ys (i + 1) n (step i p r.0 r.1 h r.3).0 r.4 j k (omega arith) (omega arith)

  pub made : {f : F} {ys : List ℕ} {n : ℕ} → I f → IsFromFnResult g f ys n → ys ≡ each n s
  made {f} {ys} {n} h r =
      ext_get_or 0 ys (each n s) (r.long ∙ sym (length_each n s))
      (λ k b. let c : k < n = omega (arith, r.long) in each_at f ys 0 n h r.each k k (omega arith) c ∙ sym (get_or_each n s 0 k c))
