-- Lists of bytes and words, as every other definition uses them.
use Rattle.std.specs.Prelude.{ℕ, zero, suc, ◌+◌, ◌-◌, ◌^◌, ◌<◌, Bool, true, false, cond, ◌&&◌, List, [], ◌∷◌, ◌++◌, eqb, leb, length, take, drop, replicate}

-- the array f(0), f(1), .., f(n - 1)
abbrev pub each : {A : Type 0} → ℕ → (ℕ → A) → List A
each zero f = []
each (suc n) f = f 0 ∷ each n (λ i. f (suc i))

abbrev pub zeros : ℕ → List ℕ
zeros n = replicate n 0

-- x filled up with zeros to n
abbrev pub padded : ℕ → List ℕ → List ℕ
padded n x = x ++ zeros (n - length x)

-- l with the bytes x from a place on; as it was, where they do not fit
abbrev pub put_at : ℕ → List ℕ → List ℕ → List ℕ
put_at from x l = cond (leb (from + length x) (length l)) (take from l ++ x ++ drop (length x) (drop from l)) l

-- whether two lists hold the same bytes
abbrev pub same : List ℕ → List ℕ → Bool
same [] [] = true
same [] (y ∷ ys) = false
same (x ∷ xs) [] = false
same (x ∷ xs) (y ∷ ys) = eqb x y && same xs ys

-- each element is such
abbrev pub All : {A : Type 0} → (A → Type 0) → List A → Type 0
All P [] = Unit {0}
All P (x ∷ xs) = P x × All P xs

-- numbers that a byte holds, and those that a word of 32 bits does
abbrev pub Bytes : List ℕ → Type 0
Bytes = All (λ b. b < 2 ^ 8)

abbrev pub Words : List ℕ → Type 0
Words = All (λ w. w < 2 ^ 32)
