-- The digits of a number are those of its tenth, and one more.
use Rattle.std.proofs.Common.{◌≡◌, ℕ, zero, suc, ◌+◌, ◌*◌, ◌/◌, ◌%◌, ◌^◌, ◌<◌, ◌≤◌, [], ◌∷◌, arith}
use Rattle.std.proofs.Math.Nat.{pow-suc}
use Rattle.std.proofs.lemmas.Bool.{lt-ltb, le-ltb}
use Rattle.text.specs.Text.{decimal_in, added}
use Rattle.text.specs.declared.Text.{Text}
use Rattle.text.proofs.Texts.{parts}

-- one digit
pub one_digit : (t : Text) (n k : ℕ) → n < 10 → 0 < k → added t ((48 + n % 10) ∷ []) ≡ added t (decimal_in k n)
one_digit t n zero h p = absurd (omega arith)
one_digit t n (suc k) h p = let e : n % 10 ≡ n = omega arith in rw (lt-ltb n 10 h, e)

-- the digits of a tenth stand in s
pub one_more : (t s : Text) (n k : ℕ) → 10 ≤ n → n < 10 ^ k
    → ((j : ℕ) → 0 < j → n / 10 < 10 ^ j → s ≡ added t (decimal_in j (n / 10)))
    → added s ((48 + n % 10) ∷ []) ≡ added t (decimal_in k n)
one_more t s n zero h l d = absurd (omega arith)
one_more t s n (suc zero) h l d = absurd (omega arith)
one_more t s n (suc (suc j)) h l d =
    let u : n < 10 ^ suc j * 10 = rw (pow-suc 10 (suc j)) at l in
    let e : s ≡ added t (decimal_in (suc j) (n / 10)) = d (suc j) (omega arith) (omega arith) in
    rw (le-ltb n 10 h, e, parts t (decimal_in (suc j) (n / 10)) ((48 + n % 10) ∷ []))
