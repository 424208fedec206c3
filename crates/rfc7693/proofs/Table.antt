-- A rule of a list, proved at all of its elements by one test that the checker computes.
use mathlib.Core.Bool.{Bool, true, false, ◌&&◌}
use mathlib.Core.List.{List, [], ◌∷◌}
use Prim.Native.Nat.{ℕ, zero, suc, ◌<◌}
use native.Mathlib.Nat.{le_of_suc-le-suc, not-suc-le-zero, eq-or-lt_of_le}
use mathlib.Core.Logic.{⊎_elim}
use mathlib.Core.Path.{subst, sym}
use lib.Dec.{T}
use lib.ListN.{length, get_or}

and_left : (a b : Bool) → T (a && b) → T a
and_left true b t = tt
and_left false b t = t

and_right : (a b : Bool) → T (a && b) → T b
and_right true b t = t
and_right false b t = absurd t

-- the test f passes at each number below n
abbrev pub below : ℕ → (ℕ → Bool) → Bool
below zero f = true
below (suc n) f = f n && below n f

pub below_at : (n : ℕ) (f : ℕ → Bool) → T (below n f) → (k : ℕ) → k < n → T (f k)
below_at zero f t k h = absurd (not-suc-le-zero h)
below_at (suc n) f t k h =
    ⊎_elim (λ e. subst (λ (j : ℕ). T (f j)) (sym e) (and_left (f n) (below n f) t))
    (λ l. below_at n f (and_right (f n) (below n f) t) k l) (eq-or-lt_of_le (le_of_suc-le-suc h))

module _ {A : Type 0} (f : A → Bool) where
  -- the test f passes at each element
  abbrev pub all : List A → Bool
  all [] = true
  all (x ∷ xs) = f x && all xs

  pub all_at : (xs : List A) (d : A) → T (all xs) → (k : ℕ) → k < length xs → T (f (get_or xs k d))
  all_at [] d t k h = absurd (not-suc-le-zero h)
  all_at (x ∷ xs) d t zero h = and_left (f x) (all xs) t
  all_at (x ∷ xs) d t (suc k) h = all_at xs d (and_right (f x) (all xs) t) k (le_of_suc-le-suc h)
