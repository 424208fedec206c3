-- The string of a start fixes what it is made of: eight words by their bytes, and the rest by the places in the string.
use Prim.Native.Nat.{ℕ, zero, suc, ◌+◌, ◌*◌, ◌/◌, ◌%◌, ◌^◌, ◌<◌}
use mathlib.Core.Path.{◌≡◌, refl, sym, ap, ◌∙◌}
use mathlib.Core.Bool.{Bool, true, false, cond}
use mathlib.Core.Option.{none, some}
use mathlib.Core.List.{List, [], ◌∷◌}
use native.Mathlib.Omega.{arith}
use lib.ListN.{length, get_or, drop, length-take, length-drop}
use lib.Seq.{ext_get_or}
use Rattle.rfc7693.proofs.Lengths.{digest_length}
use Rattle.endian.specs.Endian.{bytes, first_bytes}
use Rattle.endian.proofs.Lists.{get_or_each}
use Rattle.endian.proofs.Words.{bytes_length, rebuilt}
use Rattle.head.proofs.Ranges.{never, by_test}
use Rattle.protocol.specs.Commands.{load_in}
use Rattle.cdi.specs.Cdi.{domain_of, cdi_string}
use Rattle.cdi.specs.Theorems.{Inputs, string_of}
use Rattle.cdi.proofs.Proved.{cdi}
use Rattle.endian.specs.Lists.{zeros, Words}
use Rattle.session.specs.Reading.{LoadFrame, chained, measured_id}
use Rattle.session.specs.Boot.{Basis, digest, start_string, Same}

-- byte j of word k
byte_of : (h : List ℕ) (k j : ℕ) → k < 8 → j < 4 → get_or (bytes h) (4 * k + j) 0 ≡ get_or h k 0 / 2 ^ (8 * j) % 2 ^ 8
unfolding first_bytes
byte_of h k j l n =
    let a : (4 * k + j) / 4 ≡ k = omega arith in
    let b : (4 * k + j) % 4 ≡ j = omega arith in
    get_or_each 32 (λ i. get_or h (i / 4) 0 / 2 ^ (8 * (i % 4)) % 2 ^ 8) 0 (4 * k + j) (omega arith)
    ∙ ap (λ (x : ℕ). get_or h x 0 / 2 ^ (8 * ((4 * k + j) % 4)) % 2 ^ 8) a
    ∙ ap (λ (x : ℕ). get_or h k 0 / 2 ^ (8 * x) % 2 ^ 8) b

four_bytes : (x y : ℕ) → x < 4294967296 → y < 4294967296 → x / 1 % 256 ≡ y / 1 % 256 → x / 256 % 256 ≡ y / 256 % 256 → x / 65536 % 256 ≡ y / 65536 % 256
    → x / 16777216 % 256 ≡ y / 16777216 % 256 → x ≡ y
four_bytes x y hx hy a b c d = rebuilt x hx ∙ rw (a, b, c, d) (sym (rebuilt y hy))

word_below : (h : List ℕ) → Words h → (k : ℕ) → k < length h → get_or h k 0 < 4294967296
word_below [] w k l = absurd (omega arith)
word_below (x ∷ h) w zero l = w.0
word_below (x ∷ h) w (suc k) l = word_below h w.1 k (omega arith)

same_words : (h h' : List ℕ) → length h ≡ 8 → length h' ≡ 8 → Words h → Words h' → bytes h ≡ bytes h' → h ≡ h'
same_words h h' l l' w w' e =
    ext_get_or 0 h h' (l ∙ sym l')
    (λ k n.
    let at : (j : ℕ) → j < 4 → get_or h k 0 / 2 ^ (8 * j) % 2 ^ 8 ≡ get_or h' k 0 / 2 ^ (8 * j) % 2 ^ 8 =
    λ j m. sym (byte_of h k j (omega arith) m) ∙ ap (λ (x : List ℕ). get_or x (4 * k + j) 0) e ∙ byte_of h' k j (omega arith) m in
    four_bytes (get_or h k 0) (get_or h' k 0) (word_below h w k n) (word_below h' w' k (omega arith)) (at 0 (omega arith)) (at 1 (omega arith)) (at 2 (omega arith)) (at 3 (omega arith)))

-- ---- lengths

id_length : (rec : List ℕ) → length rec ≡ 256 → length (measured_id rec) ≡ 32
id_length rec l = length-take 32 (drop 40 rec) ∙ omega (arith, length-drop 40 rec)

pub uss_length : (f : List ℕ) → LoadFrame f → length (load_in f).uss ≡ 32
unfolding load_in
uss_length f l = let b : length (drop 1 f) ≡ 128 = l.0 in length-take 32 (drop 7 f) ∙ omega (arith, length-drop 7 f, length-drop 1 f)

-- ---- what a start is made from

-- a user secret or none, where z stands for one that is not used
same_secret : (u v : Bool) (x y z : List ℕ) → u ≡ v → cond u (cond u x z) [] ≡ cond v (cond v y z) [] → cond u (some x) none ≡ cond v (some y) none
same_secret true true x y z e q = ap some q
same_secret true false x y z e q = never e
same_secret false true x y z e q = never (sym e)
same_secret false false x y z e q = refl

-- each list has its length
pub record Sound (b : Basis) : Type 0 where
  pub eight : length b.uds ≡ 8
  pub typed : Words b.uds
  pub size : length b.rec ≡ 256
  pub secret : b.used ≡ true → length b.uss ≡ 32

module _ (b : Basis) (s : Sound b) where
  -- what its CDI is derived from
  inputs : Inputs
  inputs =
      record {
        uds = bytes b.uds;
        chained = chained b.rec;
        measured_id = measured_id b.rec;
        digest = digest b;
        used = b.used;
        uss = cond b.used b.uss (zeros 32);
        uds_length = bytes_length 32 b.uds;
        measured_id_length = id_length b.rec s.size;
        digest_length = digest_length b.program;
        uss_length = by_test (λ (x : List ℕ). length x ≡ 32) b.used b.uss (zeros 32) s.secret (λ e. refl);
      }

  string_is : string_of inputs ≡ start_string b
  unfolding inputs cdi_string
  string_is = go b.used
    where
      go : (u : Bool) → cdi_string (bytes b.uds) (chained b.rec) (measured_id b.rec) (digest b) u (cond u b.uss (zeros 32))
          ≡ cdi_string (bytes b.uds) (chained b.rec) (measured_id b.rec) (digest b) u b.uss
      go true = refl
      go false = refl

  pub string_size : length (start_string b) ≡ cond b.used 97 65
  unfolding inputs
  string_size = ap length (sym string_is) ∙ cdi.size inputs

  pub string_domain : get_or (start_string b) 32 0 ≡ domain_of b.used (chained b.rec)
  unfolding inputs
  string_domain = ap (λ (x : List ℕ). get_or x 32 0) (sym string_is) ∙ cdi.domain inputs

pub same_basis : (b b' : Basis) → Sound b → Sound b' → start_string b ≡ start_string b' → Same b b'
unfolding inputs
same_basis b b' s s' e =
    let i = cdi.injective (inputs b s) (inputs b' s') (string_is b s ∙ e ∙ sym (string_is b' s')) in
    record {
      uds = same_words b.uds b'.uds s.eight s'.eight s.typed s'.typed i.0;
      chaining = i.1;
      measured = i.2;
      secret = same_secret b.used b'.used _ _ (zeros 32) i.3 i.4;
    }
