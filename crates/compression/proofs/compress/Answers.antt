-- The two halves of the vector after the rounds go into the state, as F says.
use Rattle.std.proofs.Common.{◌≡◌, ◌+◌, get_or, ap, refl, ◌∙◌}
use lib.Bits.{bit_xor}
use Rattle.compression.proofs.Steps.{next_state}
use Rattle.compression.proofs.FromFn.{made}
use Rattle.compression.proofs.compress.Goals as goal

pub returns : goal.returns
returns c =
    let a = c.args in
    let v = c.rounds-v.result in
    made (λ p. (p.0.now ≡ a.h) × (p.1.now ≡ v)) (λ i. bit_xor (bit_xor (get_or a.h i 0) (get_or v i 0)) (get_or v (i + 8) 0))
    (λ i p q y h k. let m = k.met in ((ap (λ b. b.now) m.0.0 ∙ h.0, ap (λ b. b.now) m.0.1 ∙ h.1), m.1 ∙ rw (h.0, h.1))) (refl, refl) c.from_fn.ensures.items
    ∙ next_state a.h a.m.now a.t a.last c.work_vector.ensures c.rounds-v.ensures
