-- The frames for the firmware: what they await, that a frame closes the load in one way only, and that the head does not go on after it.
use Prim.Native.Nat.{ℕ, ◌+◌, ◌<◌}
use mathlib.Core.Path.{◌≡◌, refl, sym, ap, ◌∙◌, subst}
use mathlib.Core.Logic.{inl, inr, ⊎_elim}
use mathlib.Core.List.{List, [], ◌∷◌, ◌++◌, append_assoc}
use native.Mathlib.Omega.{arith}
use lib.ListN.{length, length-append}
use Rattle.endian.specs.Lists.{All}
use Rattle.protocol.specs.Commands.{blocks_for}
use Rattle.session.specs.Reading.{Opens, BlockFrame, size_of, digest_of, Allowed, Loads, needed}
use Rattle.session.proofs.Shapes.{one_shape, next_is, no_load, all_last}
use Rattle.session.proofs.Acting.{grows}
use Rattle.diagnosis.specs.Reasons.{Reason, stopped, waiting, missing, started}
use Rattle.reasons.specs.Meaning.{TakenWaiting, NotAllowed, OtherLength}

pub all_front : (P : List ℕ → Type 0) (fs gs : List (List ℕ)) → All P (fs ++ gs) → All P fs
all_front P [] gs a = tt
all_front P (f ∷ fs) gs a = (a.0, all_front P fs gs a.1)

-- ---- stops 23 and 24: a table does not take a frame

pub data Bars (T : List ℕ → Type 0) (f : List ℕ) (k : ℕ) : Type 0 where
  by_command : NotAllowed T f → k ≡ 23 → Bars T f k
  by_length : OtherLength T f → k ≡ 24 → Bars T f k

one_bar : {T : List ℕ → Type 0} {f : List ℕ} {k j : ℕ} → Bars T f k → Bars T f j → k ≡ j
one_bar (by_command a d) (by_command b e) = d ∙ sym e
one_bar (by_command a d) (by_length b e) = absurd (a b.0.0 b.0.1 b.0.2)
one_bar (by_length a d) (by_command b e) = absurd (b a.0.0 a.0.1 a.0.2)
one_bar (by_length a d) (by_length b e) = d ∙ sym e

not_taken : {T : List ℕ → Type 0} {f : List ℕ} {k : ℕ} → Bars T f k → T f → ⊥
not_taken {f = f} (by_command a d) t = a f refl t
not_taken (by_length a d) t = a.1 t

-- ---- what is awaited

pub data Awaited : Type 0 where
  a_load : Awaited
  a_block : Awaited

abbrev pub Taken : Awaited → List ℕ → Type 0
Taken a_load = TakenWaiting
Taken a_block = BlockFrame

module _ (m : ℕ) where
  abbrev pub Awaits : Awaited → List (List ℕ) → Type 0
  Awaits a_load os = All (Opens m) os
  Awaits a_block os = Loads m os

  not_both : (os : List (List ℕ)) → Loads m os → All (Opens m) os → ⊥
  not_both os g a = no_load m os a g.opening g.load g.blocks g.loads g.order

  one_awaited : (s z : Awaited) (os : List (List ℕ)) → Awaits s os → Awaits z os → s ≡ z
  one_awaited a_load a_load os a b = refl
  one_awaited a_load a_block os a b = absurd (not_both os b a)
  one_awaited a_block a_load os a b = absurd (not_both os a b)
  one_awaited a_block a_block os a b = refl

  same_load : {os : List (List ℕ)} (g h : Loads m os) → (g.load ≡ h.load) × (g.blocks ≡ h.blocks)
  same_load g h =
      let u = one_shape m g.opening h.opening g.load h.load g.blocks h.blocks g.opens h.opens g.loads h.loads (sym g.order ∙ h.order) in
      (u.1, u.2)

  -- the same, of frames that are equal
  abbrev pub loads_as : {os all : List (List ℕ)} → Loads m all → all ≡ os → Loads m os
  loads_as g e = record { opening = g.opening; load = g.load; blocks = g.blocks; order = sym e ∙ g.order; opens = g.opens; loads = g.loads; carry = g.carry }

  opens_taken : (f : List ℕ) → Opens m f → TakenWaiting f
  opens_taken f (inl q) = inl q
  opens_taken f (inr l) = inr l.0

  -- where frames that begin with os and f await something, f was taken
  taken : (s z : Awaited) (os : List (List ℕ)) (f : List ℕ) (hs all : List (List ℕ)) → Awaits s os → Awaits z all → all ≡ os ++ f ∷ hs
      → Taken s f
  taken a_load a_load os f hs all a b e = opens_taken f (all_last (Opens m) os f hs (subst (All (Opens m)) e b))
  taken a_load a_block os f hs all a b e =
      ⊎_elim (opens_taken f) (λ l. inr l.0) (next_is m os f hs a b.opening b.load b.blocks b.opens b.loads (sym e ∙ b.order))
  taken a_block a_load os f hs all a b e = absurd (not_both os a (all_front (Opens m) os (f ∷ hs) (subst (All (Opens m)) e b)))
  taken a_block a_block os f hs all a b e =
      let u = grows m os (f ∷ hs) a (loads_as b e) in
      all_last BlockFrame a.blocks f hs (rw u.1 b.carry)

  -- ---- the bytes end

  pub data Ends (os : List (List ℕ)) (r : Reason) : Type 0 where
    for_load : All (Opens m) os → r ≡ waiting → Ends os r
    for_blocks : (g : Loads m os) (k : ℕ) → length g.blocks + k ≡ needed g → r ≡ missing k → Ends os r

  pub one_end : {os : List (List ℕ)} {r q : Reason} → Ends os r → Ends os q → r ≡ q
  one_end (for_load a d) (for_load b e) = d ∙ sym e
  one_end {os = os} (for_load a d) (for_blocks g k n e) = absurd (not_both os g a)
  one_end {os = os} (for_blocks g k n d) (for_load b e) = absurd (not_both os g b)
  one_end (for_blocks g k n d) (for_blocks h j l e) =
      let u = same_load g h in
      let x : length g.blocks ≡ length h.blocks = ap length u.1 in
      let y : needed g ≡ needed h = ap (λ (f : List ℕ). blocks_for (size_of f)) u.0 in
      let z : k ≡ j = omega arith in
      d ∙ ap missing z ∙ sym e

  -- ---- a frame closes the load

  -- the head goes on after os. That blocks are missing may be seen from frames that go further: each of more brings one block at most
  pub data Open (os : List (List ℕ)) : Type 0 where
    waits : All (Opens m) os → Open os
    misses : (more all : List (List ℕ)) → all ≡ os ++ more → (g : Loads m all) → length g.blocks < needed g + length more → Open os

  module _ (rec : List ℕ) where
    -- all of a program has come, with byte i, and has the digest d
    pub data Ruled (d : List ℕ) (i : ℕ) (r : Reason) : Type 0 where
      starts : Allowed rec [] d → r ≡ started → Ruled d i r
      stops : (Allowed rec [] d → ⊥) → r ≡ stopped 25 i → Ruled d i r

    one_rule : {d : List ℕ} {i : ℕ} {r q : Reason} → Ruled d i r → Ruled d i q → r ≡ q
    one_rule (starts a d) (starts b e) = d ∙ sym e
    one_rule (starts a d) (stops b e) = absurd (b a)
    one_rule (stops a d) (starts b e) = absurd (a b)
    one_rule (stops a d) (stops b e) = d ∙ sym e

    -- f comes after os, and its last byte is byte i
    pub data Closes (os : List (List ℕ)) (f : List ℕ) (i : ℕ) (r : Reason) : Type 0 where
      bars : (s : Awaited) → Awaits s os → (k : ℕ) → Bars (Taken s) f k → r ≡ stopped k i → Closes os f i r
      completes : (g : Loads m (os ++ f ∷ [])) → length g.blocks ≡ needed g → Ruled (digest_of g.load g.blocks) i r → Closes os f i r

    module _ (os : List (List ℕ)) (f : List ℕ) (i : ℕ) where
      pub one_closing : {r q : Reason} → Closes os f i r → Closes os f i q → r ≡ q
      one_closing (bars s a k b d) (bars z c j y e) =
          let x : k ≡ j = one_bar b (subst (λ (t : Awaited). Bars (Taken t) f j) (one_awaited z s os c a) y) in
          d ∙ ap (λ (n : ℕ). stopped n i) x ∙ sym e
      one_closing (bars s a k b d) (completes g n x) = absurd (not_taken b (taken s a_block os f [] _ a g refl))
      one_closing (completes g n x) (bars s a k b d) = absurd (not_taken b (taken s a_block os f [] _ a g refl))
      one_closing (completes g n x) (completes h l y) = let u = same_load g h in one_rule x (rw (u.0, u.1) y)

      pub closed : {r : Reason} → Closes os f i r → (hs : List (List ℕ)) → Open (os ++ f ∷ hs) → ⊥
      closed (bars s a k b e) hs (waits w) = not_taken b (taken s a_load os f hs _ a w refl)
      closed (bars s a k b e) hs (misses more all o h l) =
          not_taken b (taken s a_block os f (hs ++ more) all a h (o ∙ append_assoc os (f ∷ hs) more))
      closed (completes g n x) hs (waits w) =
          not_both (os ++ f ∷ []) g (all_front (Opens m) (os ++ f ∷ []) hs (subst (All (Opens m)) (sym (append_assoc os (f ∷ []) hs)) w))
      closed (completes g n x) hs (misses more all o h l) =
          let e : all ≡ (os ++ f ∷ []) ++ (hs ++ more) = o ∙ append_assoc os (f ∷ hs) more ∙ sym (append_assoc os (f ∷ []) (hs ++ more)) in
          let u = grows m (os ++ f ∷ []) (hs ++ more) g (loads_as h e) in
          let v : length g.blocks + length (hs ++ more) ≡ length h.blocks = sym (length-append g.blocks (hs ++ more)) ∙ ap length u.1 in
          let y : needed g ≡ needed h = ap (λ (f : List ℕ). blocks_for (size_of f)) u.0 in
          let z = length-append hs more in
          omega arith
