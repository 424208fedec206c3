-- The end of a chain: its CDI, and what two chains share whose strings, or whose last CDIs, are equal.
use Prim.Native.Nat.{ℕ, suc, ◌<◌, ◌≤◌}
use mathlib.Core.Path.{◌≡◌, refl, sym, ap, ◌∙◌}
use mathlib.Core.Logic.{◌↔◌, ◌⊎◌, inl, inr, ⊎_elim}
use mathlib.Core.Bool.{Bool, true, false}
use mathlib.Core.Option.{Option}
use mathlib.Core.List.{List, [], ◌∷◌, ◌++◌, map, head-eq_of_cons-eq, tail-eq_of_cons-eq}
use native.Mathlib.Omega.{arith}
use lib.Dec.{ltb}
use lib.ListN.{length, take, drop}
use lib.Seq.{take_at, drop_at}
use borrow.Author.Tests.{ltb-true, ltb-false}
use Rattle.endian.specs.Endian.{bytes}
use Rattle.endian.specs.Lists.{same}
use Rattle.endian.proofs.Cases.{impossible}
use Rattle.endian.proofs.Same.{same_exactly}
use Rattle.session.specs.Reading.{chained}
use Rattle.session.specs.Boot.{AnyStart, basis, start_string, Same}
use Rattle.session.proofs.Proved.{verified_boot}
use Rattle.chain.specs.Chain.{given_cdi, Link, Follows, Linked, last_after, LinkInput, input_of, link_string, next_cdi, folded_cdi, folded_strings, hashed_strings}
use Rattle.chain.specs.Theorems.{Paired, SameStarts, SameLine, Collision}
use Rattle.chain.proofs.Links.{cdi_is, cdi_length, chained_is, measurement_is, string_is, next_is}

pub folded : (uds : List ℕ) (t : AnyStart) (ls : List Link) → Linked uds t ls
    → given_cdi (last_after t ls) ≡ folded_cdi (bytes uds) (given_cdi t) (map input_of ls)
folded uds t [] h = refl
folded uds t (l ∷ ls) h = folded uds l.start ls h.1 ∙ ap (λ (c : List ℕ). folded_cdi (bytes uds) c (map input_of ls)) (next_is uds t l h.0)

-- ---- equal strings

abbrev strings : List Link → List (List ℕ)
strings ls = map (λ l. start_string (basis l.start)) ls

pub strings_are : (uds : List ℕ) (t : AnyStart) (ls : List Link) → Linked uds t ls → strings ls ≡ folded_strings (bytes uds) (given_cdi t) (map input_of ls)
strings_are uds t [] h = refl
strings_are uds t (l ∷ ls) h =
    ap (λ (x : List ℕ). x ∷ strings ls) (string_is uds t l h.0)
    ∙ ap (λ (x : List (List ℕ)). link_string (bytes uds) (given_cdi t) (input_of l) ∷ x)
    (strings_are uds l.start ls h.1 ∙ ap (λ (c : List ℕ). folded_strings (bytes uds) c (map input_of ls)) (next_is uds t l h.0))

pub same_starts : (ls ls' : List Link) → strings ls ≡ strings ls' → Paired SameStarts ls ls'
same_starts [] [] e = tt
same_starts [] (l' ∷ ls') e = impossible cc
same_starts (l ∷ ls) [] e = impossible cc
same_starts (l ∷ ls) (l' ∷ ls') e = (verified_boot.injective l.start l'.start (head-eq_of_cons-eq e), same_starts ls ls' (tail-eq_of_cons-eq e))

-- ---- equal ends

-- two lists are the same, or they are not
either : {P : Type 0} (x y : List ℕ) → (x ≡ y → P) → ((x ≡ y → ⊥) → P) → P
either {P = P} x y p q = go (same x y) (same_exactly x y)
  where
    go : (b : Bool) → (b ≡ true) ↔ (x ≡ y) → P
    go true s = p (s.0 refl)
    go false s = q (λ e. let w : ◌≡◌ {A = Bool} false true = s.1 e in impossible cc)

-- all that was hashed
abbrev hashed : List ℕ → AnyStart → List Link → List (List ℕ)
hashed uds t ls = start_string (basis t) ∷ hashed_strings (bytes uds) (given_cdi t) (map input_of ls)

-- that of the first start and of a reset, and that of the links after it
hashed_is : (uds : List ℕ) (t : AnyStart) (l : Link) (ls : List Link) → Follows uds t l
    → hashed uds t (l ∷ ls) ≡ start_string (basis t) ∷ (given_cdi t ++ l.seed) ∷ hashed uds l.start ls
hashed_is uds t l ls h =
    let a = start_string (basis t) in
    let b = given_cdi t ++ l.seed in
    ap (λ (x : List ℕ). a ∷ b ∷ x ∷ hashed_strings (bytes uds) (next_cdi (bytes uds) (given_cdi t) (input_of l)) (map input_of ls)) (sym (string_is uds t l h))
    ∙ ap (λ (c : List ℕ). a ∷ b ∷ start_string (basis l.start) ∷ hashed_strings (bytes uds) c (map input_of ls)) (sym (next_is uds t l h))

-- one further on in the first list, and in the second
later : (x y : List ℕ) (xs ys : List (List ℕ)) → Collision xs ys → Collision (x ∷ y ∷ xs) ys
later x y xs ys k =
    record {
      place = suc (suc k.place);
      place' = k.place';
      within = omega (arith, k.within);
      within' = k.within';
      differ = k.differ;
      same_hash = k.same_hash;
    }

swap : (xs ys : List (List ℕ)) → Collision xs ys → Collision ys xs
swap xs ys k =
    record {
      place = k.place';
      place' = k.place;
      within = k.within';
      within' = k.within;
      differ = λ e. k.differ (sym e);
      same_hash = sym k.same_hash;
    }

-- equal CDIs of two starts
by_start : {P : Type 0} (t t' : AnyStart) (xs ys : List (List ℕ)) → given_cdi t ≡ given_cdi t' → (Same (basis t) (basis t') → P)
    → (Collision (start_string (basis t) ∷ xs) (start_string (basis t') ∷ ys) → P) → P
by_start t t' xs ys e p q =
    either (start_string (basis t)) (start_string (basis t')) (λ s. p (verified_boot.injective t t' s))
    (λ n. q (record { place = 0; place' = 0; within = omega arith; within' = omega arith; differ = n; same_hash = sym (cdi_is t) ∙ e ∙ cdi_is t' }))

module _ (uds uds' : List ℕ) where
  abbrev Ends : AnyStart → AnyStart → List Link → List Link → Type 0
  Ends t t' ls ls' = SameLine t t' ls ls' ⊎ Collision (hashed uds t ls) (hashed uds' t' ls')

  module _ (t t' : AnyStart) (l l' : Link) (ls ls' : List Link) (h : Follows uds t l) (h' : Follows uds' t' l') where
    abbrev string : List ℕ
    string = given_cdi t ++ l.seed

    abbrev string' : List ℕ
    string' = given_cdi t' ++ l'.seed

    collide : Collision (start_string (basis t) ∷ string ∷ hashed uds l.start ls) (start_string (basis t') ∷ string' ∷ hashed uds' l'.start ls')
        → Ends t t' (l ∷ ls) (l' ∷ ls')
    collide k = inr (rw (hashed_is uds t l ls h, hashed_is uds' t' l' ls' h') k)

    after : Collision (hashed uds l.start ls) (hashed uds' l'.start ls') → Ends t t' (l ∷ ls) (l' ∷ ls')
    after k = collide (swap _ _ (later _ _ _ _ (swap _ _ (later _ _ _ _ k))))

    -- the resets before two starts of which all is the same
    before : SameLine l.start l'.start ls ls' → Ends t t' (l ∷ ls) (l' ∷ ls')
    before s =
        let m = sym (measurement_is uds t l h) ∙ s.starts.measured ∙ measurement_is uds' t' l' h' in
        either string string' go
        (λ n. collide (record { place = 1; place' = 1; within = omega arith; within' = omega arith; differ = n; same_hash = m }))
      where
        joined : (a b : List ℕ) → a ≡ b → {x y : Option (List ℕ)} → x ≡ y → {is is' : List LinkInput} → is ≡ is'
            → record { seed = a; secret = x } ∷ is ≡ record { seed = b; secret = y } ∷ is'
        joined a b p q r = cc

        go : string ≡ string' → Ends t t' (l ∷ ls) (l' ∷ ls')
        go e =
            let n = cdi_length t in
            let n' = cdi_length t' in
            let c : given_cdi t ≡ given_cdi t' = sym (take_at (given_cdi t) l.seed 32 n) ∙ ap (take 32) e ∙ take_at (given_cdi t') l'.seed 32 n' in
            let d : l.seed ≡ l'.seed = sym (drop_at (given_cdi t) l.seed 32 n) ∙ ap (drop 32) e ∙ drop_at (given_cdi t') l'.seed 32 n' in
            by_start t t' _ _ c (λ f. inl (record { starts = f; inputs = joined l.seed l'.seed d s.starts.secret s.inputs })) collide

  -- from the end back to the first start
  pub same_end : (t t' : AnyStart) (ls ls' : List Link) → Linked uds t ls → Linked uds' t' ls' → length ls ≡ length ls'
      → given_cdi (last_after t ls) ≡ given_cdi (last_after t' ls') → Ends t t' ls ls'
  same_end t t' [] [] h h' n e = by_start t t' [] [] e (λ s. inl (record { starts = s; inputs = refl })) inr
  same_end t t' [] (l' ∷ ls') h h' n e = absurd (omega arith)
  same_end t t' (l ∷ ls) [] h h' n e = absurd (omega arith)
  same_end t t' (l ∷ ls) (l' ∷ ls') h h' n e =
      ⊎_elim (before t t' l l' ls ls' h.0 h'.0) (after t t' l l' ls ls' h.0 h'.0)
      (same_end l.start l'.start ls ls' h.1 h'.1 (omega arith) e)

-- ---- chains that begin with a direct start

by_order : {P : Type 0} (a b : ℕ) → (a ≡ b → P) → (a < b → P) → (b < a → P) → P
by_order {P = P} a b p q r = go (ltb a b) (ltb b a) refl refl
  where
    go : (x y : Bool) → ltb a b ≡ x → ltb b a ≡ y → P
    go true y e f = q (ltb-true a b e)
    go false true e f = r (ltb-true b a f)
    go false false e f = let m = ltb-false a b e in let n = ltb-false b a f in p (omega arith)

module _ (uds uds' : List ℕ) (t' : AnyStart) (ls' : List Link) (h' : Linked uds' t' ls') (direct : chained (basis t').rec ≡ false) where
  -- a link's start is chained, and so not all is the same
  level : (t : AnyStart) (l : Link) (ls : List Link) → Linked uds t (l ∷ ls) → length ls ≡ length ls'
      → given_cdi (last_after l.start ls) ≡ given_cdi (last_after t' ls') → Collision (hashed uds l.start ls) (hashed uds' t' ls')
  level t l ls h n e =
      ⊎_elim
      (λ s. let q : ◌≡◌ {A = Bool} true false = sym (chained_is uds t l h.0) ∙ s.starts.chaining ∙ direct in impossible cc)
      (λ k. k)
      (same_end uds uds' l.start t' ls ls' h.1 h' n e)

  -- the longer chain has a link's start where the other has its first
  longer : (t : AnyStart) (l : Link) (ls : List Link) → Linked uds t (l ∷ ls) → length ls' ≤ length ls
      → given_cdi (last_after l.start ls) ≡ given_cdi (last_after t' ls') → Collision (hashed uds t (l ∷ ls)) (hashed uds' t' ls')
  longer t l [] h n e = rw (hashed_is uds t l [] h.0) (later _ _ _ _ (level t l [] h (omega arith) e))
  longer t l (m ∷ ms) h n e =
      rw (hashed_is uds t l (m ∷ ms) h.0)
      (later _ _ _ _
      (by_order (length (m ∷ ms)) (length ls') (λ q. level t l (m ∷ ms) h q e) (λ q. absurd (omega arith)) (λ q. longer l.start m ms h.1 (omega arith) e)))

pub same_length : (uds uds' : List ℕ) (t t' : AnyStart) (ls ls' : List Link) → Linked uds t ls → Linked uds' t' ls'
    → chained (basis t).rec ≡ false → chained (basis t').rec ≡ false → given_cdi (last_after t ls) ≡ given_cdi (last_after t' ls')
    → (length ls ≡ length ls') ⊎ Collision (hashed uds t ls) (hashed uds' t' ls')
same_length uds uds' t t' [] [] h h' d d' e = inl refl
same_length uds uds' t t' [] (l' ∷ ls') h h' d d' e = inr (swap _ _ (longer uds' uds t [] h d t' l' ls' h' (omega arith) (sym e)))
same_length uds uds' t t' (l ∷ ls) [] h h' d d' e = inr (longer uds uds' t' [] h' d' t l ls h (omega arith) e)
same_length uds uds' t t' (l ∷ ls) (l' ∷ ls') h h' d d' e =
    by_order (length ls) (length ls') (λ q. inl (ap suc q))
    (λ n. inr (swap _ _ (longer uds' uds t (l ∷ ls) h d t' l' ls' h' (omega arith) (sym e))))
    (λ n. inr (longer uds uds' t' (l' ∷ ls') h' d' t l ls h (omega arith) e))
