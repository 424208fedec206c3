-- What gathering a byte makes of the part of a frame that has come: what is gathered is a function of that part.
use Prim.Native.Nat.{ℕ, suc, ◌+◌, ◌-◌, ◌<◌}
use mathlib.Core.Path.{◌≡◌, refl, sym, ap, ◌∙◌}
use mathlib.Core.Bool.{Bool, true, false, not, cond, ◌&&◌}
use mathlib.Core.List.{List, [], ◌∷◌, ◌++◌}
use native.Mathlib.Omega.{arith}
use lib.Dec.{eqb}
use lib.ListN.{length, set, drop, length-append}
use borrow.Author.Tests.{eqb-true, eqb-false, eq-eqb, ne_eqb}
use Rattle.endian.proofs.Cases.{impossible}
use Rattle.framing.specs.Header.{Reading, good, stop, header_at, fields_at, in_field, endpoint, body_len}
use Rattle.framing.proofs.Headers.{by_bits, body_small, fields_of_is}
use Rattle.endian.specs.Lists.{zeros}
use Rattle.head.specs.State.{whole_by, is_whole, idle}
use Rattle.head.specs.Gather.{Step, taken, bad, with_byte, byte_step}
use Rattle.head.proofs.Ranges.{length_some}
use Rattle.session.specs.Reading.{Good, for_firmware}
use Rattle.head.specs.declared.Incoming.{Incoming}

-- the bytes p of a frame with header h, kept if it is for the firmware
abbrev body_held : ℕ → List ℕ → List ℕ
body_held h p = cond (for_firmware (h ∷ [])) (p ++ drop (length p) (zeros 128)) (zeros 128)

abbrev pub holding : List ℕ → Incoming
holding [] = idle
holding (h ∷ p) = record { header = h; got = length p + 1; body = body_held h p }

-- the first bytes of a good frame, which is not yet whole
pub record Begins (h : ℕ) (p : List ℕ) : Type 0 where
  pub id : ℕ
  pub ep : ℕ
  pub n : ℕ
  pub header : header_at h ≡ good id ep n
  pub short : length p < n

abbrev pub Partial : List ℕ → Type 0
Partial [] = Unit {0}
Partial (h ∷ p) = Begins h p

-- ---- whether a frame is whole

whole_is : (h got id ep n : ℕ) → header_at h ≡ good id ep n → whole_by (header_at h) got ≡ for_firmware (h ∷ []) && eqb got (n + 1)
whole_is h got id ep n e =
    ap (λ (r : Reading). whole_by r got) e ∙ ap (λ (x : ℕ). eqb x 2 && eqb got (n + 1)) (sym (fields_of_is h id ep n e).1)

pub is_part : (p : List ℕ) → Partial p → is_whole (holding p) ≡ false
unfolding header_at fields_at
is_part [] v = refl
is_part (h ∷ p) v = whole_is h (length p + 1) v.id v.ep v.n v.header ∙ go (for_firmware (h ∷ []))
  where
    go : (t : Bool) → t && eqb (length p + 1) (v.n + 1) ≡ false
    go true = ne_eqb (length p + 1) (v.n + 1) (λ e. let s = v.short in omega arith)
    go false = refl

pub has_whole : (f : List ℕ) → Good f → for_firmware f ≡ true → is_whole (holding f) ≡ true
has_whole [] g o = absurd (let e : 0 ≡ 1 + g.n = g.whole in omega arith)
has_whole (h ∷ p) g o =
    let l : suc (length p) ≡ 1 + g.n = g.whole in
    whole_is h (length p + 1) g.id g.ep g.n g.header ∙ rw (o, eq-eqb (length p + 1) (g.n + 1) (omega arith))

-- ---- one more byte

-- what the byte b makes of the part p
pub data Gathers (p : List ℕ) (b : ℕ) (x : Step) : Type 0 where
  at_bad : p ≡ [] → header_at b ≡ stop 22 → x ≡ bad → Gathers p b x
  at_part : Partial (p ++ b ∷ []) → x ≡ taken (holding (p ++ b ∷ [])) → Gathers p b x
  at_passed : Good (p ++ b ∷ []) → for_firmware (p ++ b ∷ []) ≡ false → x ≡ taken idle → Gathers p b x
  at_whole : Good (p ++ b ∷ []) → for_firmware (p ++ b ∷ []) ≡ true → x ≡ taken (holding (p ++ b ∷ [])) → Gathers p b x

pub length_snoc : {A : Type 0} (p : List A) (b : A) → length (p ++ b ∷ []) ≡ length p + 1
length_snoc p b = length-append p (b ∷ [])

set_next : (p z : List ℕ) (b : ℕ) → length p < length z → set (p ++ drop (length p) z) (length p) b ≡ (p ++ b ∷ []) ++ drop (length (p ++ b ∷ [])) z
set_next [] [] b l = absurd (omega arith)
set_next [] (y ∷ z) b l = refl
set_next (x ∷ p) [] b l = absurd (omega arith)
set_next (x ∷ p) (y ∷ z) b l = ap (λ (r : List ℕ). x ∷ r) (set_next p z b (omega arith))

bad_is : (h : ℕ) (k : ℕ) → header_at h ≡ stop k → header_at h ≡ stop 22
bad_is h k =
    by_bits h (λ (r : Reading). r ≡ stop k → r ≡ stop 22) (λ p q e. impossible cc) (λ g e. refl)

opening : (b : ℕ) (r : Reading) → header_at b ≡ r → Gathers [] b (byte_step idle b)
unfolding byte_step
opening b (good id ep n) e =
    at_part (record { id = id; ep = ep; n = n; header = e; short = length_some b id ep n e }) (rw e (go (for_firmware (b ∷ []))))
  where
    go : (t : Bool) → taken (record { header = b; got = 1; body = zeros 128 })
        ≡ taken (record { header = b; got = 0 + 1; body = cond t (zeros 128) (zeros 128) })
    go true = refl
    go false = refl
opening b (stop k) e = at_bad refl (bad_is b k e) (rw e refl)

-- with one more byte of the body
with_byte_is : (h : ℕ) (p : List ℕ) (b : ℕ) → length p < 128 → with_byte (holding (h ∷ p)) (in_field endpoint h) b ≡ holding (h ∷ (p ++ b ∷ []))
with_byte_is h p b l = go (for_firmware (h ∷ []))
  where
    go : (t : Bool)
        → ◌≡◌ {A = Incoming}
        (record {
          header = h;
          got = length p + 1 + 1;
          body = cond t (set (cond t (p ++ drop (length p) (zeros 128)) (zeros 128)) (length p + 1 - 1) b) (cond t (p ++ drop (length p) (zeros 128)) (zeros 128));
        })
        (record { header = h; got = length (p ++ b ∷ []) + 1; body = cond t ((p ++ b ∷ []) ++ drop (length (p ++ b ∷ [])) (zeros 128)) (zeros 128) })
    go true =
        let e : length p + 1 - 1 ≡ length p = omega arith in
        let s = set_next p (zeros 128) b (omega (arith, l)) in
        rw (e, s, length_snoc p b)
    go false = rw (length_snoc p b)

more : (h : ℕ) (p : List ℕ) (b : ℕ) (v : Begins h p) → Gathers (h ∷ p) b (byte_step (holding (h ∷ p)) b)
unfolding byte_step
more h p b v =
    rw (ne_eqb (length p + 1) 0 (λ z. omega arith), v.header, ← (fields_of_is h v.id v.ep v.n v.header).1, with_byte_is h p b fits)
    (go (eqb (in_field endpoint h) 2) refl (eqb (length p + 1) v.n) refl)
  where
    fits : length p < 128
    fits = let e : body_len (header_at h) ≡ v.n = ap body_len v.header in omega (arith, body_small h, v.short)

    whole : eqb (length p + 1) v.n ≡ true → Good (h ∷ (p ++ b ∷ []))
    whole e =
        let l = eqb-true (length p + 1) v.n e in
        let s = length_snoc p b in
        record { id = v.id; ep = v.ep; n = v.n; header = v.header; whole = omega arith }

    part : eqb (length p + 1) v.n ≡ false → Begins h (p ++ b ∷ [])
    part e =
        let l = eqb-false (length p + 1) v.n e in
        let s = length_snoc p b in
        record { id = v.id; ep = v.ep; n = v.n; header = v.header; short = omega (arith, v.short, l) }

    go : (o : Bool) → eqb (in_field endpoint h) 2 ≡ o → (t : Bool) → eqb (length p + 1) v.n ≡ t
        → Gathers (h ∷ p) b (taken (cond (not o && t) idle (holding (h ∷ (p ++ b ∷ [])))))
    go true f true e = at_whole (whole e) f refl
    go true f false e = at_part (part e) refl
    go false f true e = at_passed (whole e) f refl
    go false f false e = at_part (part e) refl

pub gathers : (p : List ℕ) (b : ℕ) → Partial p → Gathers p b (byte_step (holding p) b)
gathers [] b v = opening b (header_at b) refl
gathers (h ∷ p) b v = more h p b v
