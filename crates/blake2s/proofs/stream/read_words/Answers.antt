-- The words are those of the definition.
use Rattle.std.proofs.Common.{◌≡◌, ◌*◌, ap, refl, ◌∙◌}
use Rattle.endian.specs.Endian.{word}
use Rattle.rfc7693.specs.Rfc7693.{words}
use Rattle.compression.proofs.FromFn.{made}
use Rattle.blake2s.proofs.stream.read_words.Goals as goal

pub returns : goal.returns
unfolding words
returns c = made (λ p. p.0.now ≡ c.args.b.now) (λ i. word c.args.b.now (4 * i)) (λ i p q y h k. let m = k.met in (ap (λ b. b.now) m.0 ∙ h, m.1 ∙ rw h)) refl c.from_fn.ensures.items
