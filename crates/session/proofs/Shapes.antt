-- The frames of a start in one way: the good load is the first frame that is neither a query nor a bad load.
use Prim.Native.Nat.{ℕ, ◌+◌, ◌*◌, ◌/◌, ◌≤◌}
use mathlib.Core.Path.{◌≡◌, refl, sym, ap, ◌∙◌}
use mathlib.Core.Logic.{◌⊎◌, inl, inr, ⊎_elim}
use mathlib.Core.Bool.{Bool, true, false, cond}
use mathlib.Core.List.{List, [], ◌∷◌, ◌++◌, append_assoc, append-nil, head-eq_of_cons-eq, tail-eq_of_cons-eq}
use native.Mathlib.Omega.{arith}
use lib.Dec.{eqb}
use lib.ListN.{length, drop, length-append, length-drop}
use lib.Seq.{length-take-le}
use borrow.Author.Tests.{eqb-true, eqb-false}
use Rattle.endian.proofs.Cases.{impossible}
use Rattle.protocol.specs.Commands.{command_in, load_in, carried_by, blocks_for}
use Rattle.protocol.proofs.Proved.{protocol}
use Rattle.head.specs.Act.{Request, asks_name, asks_udi, gives_load, gives_block, halts, request_waiting, request_loading}
use Rattle.head.proofs.Ranges.{never}
use Rattle.endian.specs.Lists.{All}
use Rattle.session.specs.Reading.{body_of, QueryFrame, LoadFrame, GoodLoad, Opens, BlockFrame, carried, size_of, program_of}

-- ---- what a frame asks for, against what it is

-- while waiting
pub data AskedWaiting (f : List ℕ) : Request → Type 0 where
  asks_name_is : QueryFrame f → AskedWaiting f asks_name
  asks_udi_is : QueryFrame f → AskedWaiting f asks_udi
  asks_load : LoadFrame f → AskedWaiting f gives_load
  asks_neither : (k : ℕ) → (QueryFrame f → ⊥) → (LoadFrame f → ⊥) → AskedWaiting f (halts k)

pub asked_waiting : (f : List ℕ) → AskedWaiting f (request_waiting (command_in f) (length (body_of f)))
asked_waiting f = go (eqb c 0x01) (eqb c 0x08) (eqb c 0x03) (eqb n 1) (eqb n 128) refl refl refl refl refl
  where
    c : ℕ
    c = command_in f

    n : ℕ
    n = length (body_of f)

    go : (x y z t u : Bool) → eqb c 0x01 ≡ x → eqb c 0x08 ≡ y → eqb c 0x03 ≡ z → eqb n 1 ≡ t → eqb n 128 ≡ u
        → AskedWaiting f (cond x (cond t asks_name (halts 24)) (cond y (cond t asks_udi (halts 24)) (cond z (cond u gives_load (halts 24)) (halts 23))))
    go true y z true u ex ey ez et eu = asks_name_is (eqb-true n 1 et, inl (eqb-true c 0x01 ex))
    go true y z false u ex ey ez et eu =
        let e = eqb-true c 0x01 ex in
        asks_neither 24 (λ q. eqb-false n 1 et q.0) (λ l. let d : c ≡ 3 = l.1 in omega arith)
    go false true z true u ex ey ez et eu = asks_udi_is (eqb-true n 1 et, inr (eqb-true c 0x08 ey))
    go false true z false u ex ey ez et eu =
        let e = eqb-true c 0x08 ey in
        asks_neither 24 (λ q. eqb-false n 1 et q.0) (λ l. let d : c ≡ 3 = l.1 in omega arith)
    go false false true t true ex ey ez et eu = asks_load (eqb-true n 128 eu, eqb-true c 0x03 ez)
    go false false true t false ex ey ez et eu =
        asks_neither 24 (λ q. ⊎_elim (eqb-false c 0x01 ex) (eqb-false c 0x08 ey) q.1) (λ l. eqb-false n 128 eu l.0)
    go false false false t u ex ey ez et eu =
        asks_neither 23 (λ q. ⊎_elim (eqb-false c 0x01 ex) (eqb-false c 0x08 ey) q.1) (λ l. eqb-false c 0x03 ez l.1)

-- while loading
pub data AskedLoading (f : List ℕ) : Request → Type 0 where
  asks_block : BlockFrame f → AskedLoading f gives_block
  asks_no_block : (k : ℕ) → (BlockFrame f → ⊥) → AskedLoading f (halts k)

pub asked_loading : (f : List ℕ) → AskedLoading f (request_loading (command_in f) (length (body_of f)))
asked_loading f = go (eqb c 0x05) (eqb n 128) refl refl
  where
    c : ℕ
    c = command_in f

    n : ℕ
    n = length (body_of f)

    go : (x u : Bool) → eqb c 0x05 ≡ x → eqb n 128 ≡ u → AskedLoading f (cond x (cond u gives_block (halts 24)) (halts 23))
    go true true ex eu = asks_block (eqb-true n 128 eu, eqb-true c 0x05 ex)
    go true false ex eu = asks_no_block 24 (λ b. eqb-false n 128 eu b.0)
    go false u ex eu = asks_no_block 23 (λ b. eqb-false c 0x05 ex b.1)

-- ---- the frames with endpoint 2

module _ (m : ℕ) where
  not_both : (f : List ℕ) → Opens m f → GoodLoad m f → ⊥
  not_both f (inl q) g = let a : length (body_of f) ≡ 1 = q.0 in let b : length (body_of f) ≡ 128 = g.0.0 in omega arith
  not_both f (inr l) g = never (sym g.1 ∙ l.1)

  -- two readings of the same frames
  pub one_shape : (xs ys : List (List ℕ)) (l k : List ℕ) (bs cs : List (List ℕ)) → All (Opens m) xs → All (Opens m) ys → GoodLoad m l → GoodLoad m k
      → xs ++ l ∷ bs ≡ ys ++ k ∷ cs → (xs ≡ ys) × (l ≡ k) × (bs ≡ cs)
  one_shape [] [] l k bs cs a b g h e = (refl, head-eq_of_cons-eq e, tail-eq_of_cons-eq e)
  one_shape [] (y ∷ ys) l k bs cs a b g h e =
      absurd (let q : l ≡ y = head-eq_of_cons-eq e in not_both l (rw q b.0) g)
  one_shape (x ∷ xs) [] l k bs cs a b g h e =
      absurd (let q : x ≡ k = head-eq_of_cons-eq e in not_both k (rw (← q) a.0) h)
  one_shape (x ∷ xs) (y ∷ ys) l k bs cs a b g h e =
      let r = one_shape xs ys l k bs cs a.1 b.1 g h (tail-eq_of_cons-eq e) in
      let q : x ≡ y = head-eq_of_cons-eq e in
      let t : xs ≡ ys = r.0 in
      (cc, r.1, r.2)

  -- the frame after queries and bad loads, in the frames of a start
  pub next_is : (os : List (List ℕ)) (f : List ℕ) (rest : List (List ℕ)) → All (Opens m) os → (xs : List (List ℕ)) (l : List ℕ) (bs : List (List ℕ)) → All (Opens m) xs
      → GoodLoad m l → os ++ f ∷ rest ≡ xs ++ l ∷ bs → Opens m f ⊎ GoodLoad m f
  next_is [] f rest a [] l bs b g e = inr (let q : f ≡ l = head-eq_of_cons-eq e in rw q g)
  next_is [] f rest a (x ∷ xs) l bs b g e = inl (let q : f ≡ x = head-eq_of_cons-eq e in rw q b.0)
  next_is (o ∷ os) f rest a [] l bs b g e = absurd (let q : o ≡ l = head-eq_of_cons-eq e in not_both l (rw (← q) a.0) g)
  next_is (o ∷ os) f rest a (x ∷ xs) l bs b g e = next_is os f rest a.1 xs l bs b.1 g (tail-eq_of_cons-eq e)

  -- there is no start without a good load
  pub no_load : (os : List (List ℕ)) → All (Opens m) os → (xs : List (List ℕ)) (l : List ℕ) (bs : List (List ℕ)) → GoodLoad m l → os ≡ xs ++ l ∷ bs → ⊥
  no_load [] a [] l bs g e = impossible cc
  no_load [] a (x ∷ xs) l bs g e = impossible cc
  no_load (o ∷ os) a [] l bs g e = let q : o ≡ l = head-eq_of_cons-eq e in not_both l (rw (← q) a.0) g
  no_load (o ∷ os) a (x ∷ xs) l bs g e = no_load os a.1 xs l bs g (tail-eq_of_cons-eq e)

-- ---- the bytes that blocks carry

carried_append : (bs cs : List (List ℕ)) → carried (bs ++ cs) ≡ carried bs ++ carried cs
carried_append [] cs = refl
carried_append (f ∷ bs) cs = ap (λ (r : List ℕ). carried_by f ++ r) (carried_append bs cs) ∙ sym (append_assoc (carried_by f) (carried bs) (carried cs))

pub carried_snoc : (bs : List (List ℕ)) (f : List ℕ) → carried (bs ++ f ∷ []) ≡ carried bs ++ carried_by f
carried_snoc bs f = carried_append bs (f ∷ []) ∙ ap (λ (r : List ℕ). carried bs ++ r) (append-nil (carried_by f))

pub carries_127 : (f : List ℕ) → BlockFrame f → length (carried_by f) ≡ 127
carries_127 f b = let l : length (drop 1 f) ≡ 128 = b.0 in omega (arith, length-drop 1 f, length-drop 2 f)

pub carried_length : (bs : List (List ℕ)) → All BlockFrame bs → length (carried bs) ≡ 127 * length bs
carried_length [] a = refl
carried_length (f ∷ bs) a = length-append (carried_by f) (carried bs) ∙ omega (arith, carried_length bs a.1, carries_127 f a.0)

-- as many blocks as a size needs carry that many bytes
pub program_length : (load : List ℕ) (bs : List (List ℕ)) → All BlockFrame bs → length bs ≡ blocks_for (size_of load)
    → length (program_of load bs) ≡ size_of load
program_length load bs a e =
    let l = carried_length bs a in
    let n : length bs ≡ (size_of load + 126) / 127 = e in
    length-take-le (size_of load) (carried bs) (omega arith)

pub load_size : (m : ℕ) (f : List ℕ) → GoodLoad m f → (1 ≤ size_of f) × (size_of f ≤ m)
load_size m f g = let l = (protocol.good_load_exactly m (load_in f)).0 g.1 in (l.some, l.fits)

pub all_last : (P : List ℕ → Type 0) (fs : List (List ℕ)) (f : List ℕ) (gs : List (List ℕ)) → All P (fs ++ f ∷ gs) → P f
all_last P [] f gs a = a.0
all_last P (g ∷ fs) f gs a = all_last P fs f gs a.1
