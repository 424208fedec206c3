-- The number of a call by the lengths that it is given.
use mathlib.Core.Path.{◌≡◌, ap, refl}
use mathlib.Core.Bool.{Bool, true, false, cond, not, ◌||◌}
use Prim.Native.Nat.{ℕ, ◌+◌, ◌<◌, ◌≤◌}
use native.Mathlib.Omega.{arith}
use lib.Dec.{ltb, eqb}
use borrow.Author.Tests.{eq-eqb, ne_eqb, lt-ltb, le-ltb, ltb-false, eqb-false}
use mathlib.Core.List.{List, []}
use lib.ListN.{length}
use Rattle.endian.proofs.Cases.{impossible}
use Rattle.rfc7693.specs.Rfc7693.{blake2s}
use Rattle.endian.specs.Lists.{zeros}
use Rattle.std.specs.Prelude.{Result, Ok, Err, IsErr, IsErrAnd}
use Rattle.blake2s.specs.Hash.{refusal_number, number_of, bad_size, hash_number, hash_output}
use Rattle.blake2s.specs.declared.Refusal.{Refusal}
use Rattle.blake2s.specs.declared.Refusal.TheVariants.{ContextRange, OutputLength, KeyLength, MessageLength}
use Rattle.blake2s.specs.Stream.{in_range, refused_context, context_of, update_number, finish_number}
use Rattle.blake2s.specs.declared.Context.{Context}

pub good_size : (nn : ℕ) → bad_size nn ≡ false → (0 < nn) × (nn ≤ 32)
good_size nn e = go (eqb nn 0) (ltb 32 nn) refl refl e
  where
    go : (x y : Bool) → eqb nn 0 ≡ x → ltb 32 nn ≡ y → (x || y) ≡ false → (0 < nn) × (nn ≤ 32)
    go false false p q r = (omega (arith, eqb-false nn 0 p), ltb-false 32 nn q)
    go false true p q r = impossible cc
    go true y p q r = impossible cc

module _ (kk ll nn : ℕ) where
  pub hash_size : bad_size nn ≡ true → hash_number kk ll nn ≡ 8
  unfolding hash_number
  hash_size e = rw e

  module _ (p : 0 < nn) where
    module _ (h : nn ≤ 32) where
      pub hash_key : 32 < kk → hash_number kk ll nn ≡ 9
      unfolding hash_number
      hash_key k = simp (ne_eqb nn 0 (λ e. omega arith), le-ltb 32 nn h, lt-ltb 32 kk k)

      module _ (k : kk ≤ 32) where
        pub hash_message : 4294967295 < ll → hash_number kk ll nn ≡ 10
        unfolding hash_number
        hash_message m = simp (ne_eqb nn 0 (λ e. omega arith), le-ltb 32 nn h, le-ltb 32 kk k, lt-ltb 4294967295 ll m)

        pub hash_accepted : ll ≤ 4294967295 → hash_number kk ll nn ≡ 0
        unfolding hash_number
        hash_accepted m = simp (ne_eqb nn 0 (λ e. omega arith), le-ltb 32 nn h, le-ltb 32 kk k, le-ltb 4294967295 ll m)

-- a hash of 32 bytes without a key
pub digest_32 : (msg out : List ℕ) → length msg ≤ 4294967295 → length out ≡ 32 → hash_output [] msg out ≡ blake2s [] msg 32
unfolding hash_output
digest_32 msg out h e = rw (e, hash_accepted 0 (length msg) 32 (omega arith) (omega arith) (omega arith) h)

-- as the function `digest` gives it
pub digest_zeros : (msg : List ℕ) → length msg ≤ 4294967295 → hash_output [] msg (zeros 32) ≡ blake2s [] msg 32
digest_zeros msg h = digest_32 msg (zeros 32) h refl

-- a refusal has another number than 0, which the call that it is handed on by answers too
pub refused : (r : Refusal) → refusal_number r ≡ 0 → ⊥
refused ContextRange e = omega arith
refused OutputLength e = omega arith
refused KeyLength e = omega arith
refused MessageLength e = omega arith

pub handed_on : {A : Type 0} (x : Result A Refusal) (r : Refusal) → IsErrAnd x (λ e. e ≡ r) → number_of x ≡ refusal_number r
handed_on (Err e) r h = ap refusal_number h
handed_on (Ok a) r h = absurd h

pub no_context : (x : Result Context Refusal) → IsErr x → context_of x ≡ refused_context
no_context (Err e) h = refl
no_context (Ok c) h = impossible cc

-- the lengths of a call that is accepted
pub record Lengths (kk ll nn : ℕ) : Type 0 where
  pub some : 0 < nn
  pub small : nn ≤ 32
  pub fits : kk ≤ 32
  pub short : ll ≤ 4294967295

pub accepted_lengths : (kk ll nn : ℕ) → hash_number kk ll nn ≡ 0 → Lengths kk ll nn
unfolding hash_number
accepted_lengths kk ll nn = go (eqb nn 0) (ltb 32 nn) (ltb 32 kk) (ltb 4294967295 ll) refl refl refl refl
  where
    go : (w x y z : Bool) → eqb nn 0 ≡ w → ltb 32 nn ≡ x → ltb 32 kk ≡ y → ltb 4294967295 ll ≡ z
        → ◌≡◌ {A = ℕ} (cond (w || x) 8 (cond y 9 (cond z 10 0))) 0 → Lengths kk ll nn
    go false false false false o p q r e =
        record {
          some = omega (arith, eqb-false nn 0 o);
          small = ltb-false 32 nn p;
          fits = ltb-false 32 kk q;
          short = ltb-false 4294967295 ll r;
        }
    go false false false true o p q r e = absurd (omega arith)
    go false false true z o p q r e = absurd (omega arith)
    go false true y z o p q r e = absurd (omega arith)
    go true x y z o p q r e = absurd (omega arith)

module _ (c : Context) where
  pub range_size : in_range c ≡ true → (0 < c.size) × (c.size ≤ 32)
  unfolding in_range
  range_size e = good_size c.size (go (bad_size c.size) e)
    where
      go : (x : Bool) → not x ≡ true → x ≡ false
      go false r = refl
      go true r = impossible cc

  pub size_range : 0 < c.size → c.size ≤ 32 → in_range c ≡ true
  unfolding in_range
  size_range p h = simp (ne_eqb c.size 0 (λ e. omega arith), le-ltb 32 c.size h)

  module _ (n : ℕ) where
    pub update_range : in_range c ≡ false → update_number c n ≡ 1
    unfolding update_number
    update_range e = rw e

    pub finish_range : in_range c ≡ false → finish_number c n ≡ 1
    unfolding finish_number
    finish_range e = rw e

    module _ (e : in_range c ≡ true) where
      pub update_message : 4294967295 < c.message + n → update_number c n ≡ 10
      unfolding update_number
      update_message h = rw (e, lt-ltb 4294967295 (c.message + n) h)

      pub update_accepted : c.message + n ≤ 4294967295 → update_number c n ≡ 0
      unfolding update_number
      update_accepted h = rw (e, le-ltb 4294967295 (c.message + n) h)

      pub finish_size : (n ≡ c.size → ⊥) → finish_number c n ≡ 8
      unfolding finish_number
      finish_size h = rw (e, ne_eqb n c.size h)

      pub finish_accepted : n ≡ c.size → finish_number c n ≡ 0
      unfolding finish_number
      finish_accepted h = rw (e, eq-eqb n c.size h)

    -- an update is accepted only as the definition says, and no finish of a context in range answers 1
    pub update_zero : update_number c n ≡ 0 → (in_range c ≡ true) × (c.message + n ≤ 4294967295)
    unfolding update_number
    update_zero e = go (in_range c) (ltb 4294967295 (c.message + n)) refl refl e
      where
        go : (x y : Bool) → in_range c ≡ x → ltb 4294967295 (c.message + n) ≡ y → ◌≡◌ {A = ℕ} (cond x (cond y 10 0) 1) 0
            → (in_range c ≡ true) × (c.message + n ≤ 4294967295)
        go true false p q r = (p, ltb-false 4294967295 (c.message + n) q)
        go true true p q r = absurd (omega arith)
        go false y p q r = absurd (omega arith)

    pub finish_not_one : in_range c ≡ true → finish_number c n ≡ 1 → ⊥
    unfolding finish_number
    finish_not_one e = rw e (go (eqb n c.size))
      where
        go : (b : Bool) → ◌≡◌ {A = ℕ} (cond b 0 8) 1 → ⊥
        go true r = omega arith
        go false r = omega arith
