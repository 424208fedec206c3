-- At most one reason holds. What is decided before any byte, and what the bytes begin with after the frames that go on, are functions, and each
-- reason says what they give: two reasons are then compared in the same case.
use Prim.Native.Nat.{ℕ, ◌+◌}
use mathlib.Core.Path.{◌≡◌, refl, sym, ap, ◌∙◌, subst, subst₂}
use mathlib.Core.Logic.{◌⊎◌, inl, inr, ⊎_elim, ⊎_map}
use mathlib.Core.Bool.{Bool, true, cond}
use mathlib.Core.List.{List, [], ◌∷◌, ◌++◌, append_assoc, append-nil, flatten}
use native.Mathlib.Omega.{arith}
use lib.Dec.{eqb, leb}
use lib.ListN.{length}
use borrow.Author.Tests.{eq-eqb, ne_eqb, le-leb, lt-leb}
use Rattle.endian.specs.Lists.{All}
use Rattle.protocol.specs.Commands.{length_ok}
use Rattle.head.proofs.Ranges.{by_test, length_facts}
use Rattle.session.specs.Reading.{Good, for_firmware, own, BlockFrame, digest_of, type_of, Loads, needed}
use Rattle.session.proofs.Frames.{own_append, flatten_snoc, own_more}
use Rattle.session.proofs.Shapes.{all_last}
use Rattle.diagnosis.specs.Reasons.{Reason, refused, stopped, unfinished}
use Rattle.reasons.specs.Meaning.{Waits, Misses, TakenWaiting, Frames, Whole, FrameAt, LengthsOk, Asks, Holds, record_length, ram_size, from_flash, unknown_type, bad_header, bad_command, bad_length, bad_digest, is_unfinished, is_waiting, is_missing, has_started}
use Rattle.reasons.proofs.Next.{Next, nothing, bad, part, frame, next, next_bad, next_part, next_frame, Onward, compare}
use Rattle.reasons.proofs.Closing.{all_front, loads_as, Bars, by_command, by_length, a_load, a_block, Ends, for_load, for_blocks, one_end, Open, waits, misses, Ruled, starts, stops, Closes, bars, completes, one_closing, closed}

-- what is decided before any byte: a reason, or that a program is asked for
data Gate : Type 0 where
  settled : Reason → Gate
  asked : Gate

abbrev by_type : ℕ → Gate
by_type t = cond (leb t 3) (settled (refused 48)) (cond (leb 6 t) (settled (stopped 20 0)) asked)

-- a frame for the firmware among others
own_at : (fs : List (List ℕ)) (f : List ℕ) (gs : List (List ℕ)) → for_firmware f ≡ true → own (fs ++ f ∷ gs) ≡ own fs ++ f ∷ own gs
own_at fs f gs e = own_append fs (f ∷ gs) ∙ ap (λ (x : Bool). own fs ++ cond x (f ∷ own gs) (own gs)) e

module _ (rec : List ℕ) (m : ℕ) (bytes : List ℕ) where
  -- ---- the frames that go on, and what comes then

  -- by what the bytes after the frames fs begin with
  abbrev Tail : List (List ℕ) → Next → Reason → Type 0
  Tail fs nothing r = Ends m (own fs) r
  Tail fs bad r = r ≡ stopped 22 (length (flatten fs) + 1)
  Tail fs part r = r ≡ unfinished
  Tail fs (frame f) r = (for_firmware f ≡ true) × Closes m rec (own fs) f (length (flatten (fs ++ f ∷ []))) r

  one_tail : (fs : List (List ℕ)) (x : Next) {r q : Reason} → Tail fs x r → Tail fs x q → r ≡ q
  one_tail fs nothing a b = one_end m a b
  one_tail fs bad a b = a ∙ sym b
  one_tail fs part a b = a ∙ sym b
  one_tail fs (frame f) a b = one_closing m rec (own fs) f _ a.1 b.1

  record Cut (r : Reason) : Type 0 where
    before : List (List ℕ)
    tail : List ℕ
    reads : bytes ≡ flatten before ++ tail
    all_good : All Good before
    goes_on : Open m (own before)
    kind : Tail before (next tail) r

  -- a cut that goes further than another would go on after the frame that closes that one
  same_cut : {r q : Reason} (c : Cut r) (d : Cut q) → Onward c.before c.tail d.before d.tail → r ≡ q
  unfolding flatten
  same_cut {r = r} {q = q} c d o = go o.more o.frames o.bytes o.all_good
    where
      go : (hs : List (List ℕ)) → d.before ≡ c.before ++ hs → c.tail ≡ flatten hs ++ d.tail → All Good hs → r ≡ q
      go [] e t a =
          one_tail c.before (next c.tail) c.kind
          (subst₂ (λ (fs : List (List ℕ)) (x : List ℕ). Tail fs (next x) q) (e ∙ append-nil c.before) (sym t) d.kind)
      go (g ∷ gs) e t a =
          let n = ap next (t ∙ append_assoc g (flatten gs) d.tail) ∙ next_frame g (flatten gs ++ d.tail) a.0 in
          let k = subst (λ (x : Next). Tail c.before x r) n c.kind in
          absurd (closed m rec (own c.before) g _ k.1 (own gs) (subst (Open m) (ap own e ∙ own_at c.before g gs k.0) d.goes_on))

  one_cut : {r q : Reason} → Cut r → Cut q → r ≡ q
  one_cut c d =
      ⊎_elim (same_cut c d) (λ o. sym (same_cut d c o))
      (compare c.before d.before c.tail d.tail c.all_good d.all_good (sym c.reads ∙ d.reads))

  -- ---- the cut of each reason

  still_open : (os : List (List ℕ)) → Waits m os ⊎ Misses m os → Open m os
  still_open os (inl w) = waits w
  still_open os (inr x) = let l = x.fewer in misses [] os (sym (append-nil os)) x.so_far (omega arith)

  -- no frame closes the load
  at_end : {r : Reason} (x : Frames m bytes) (n : Next) → next x.rest ≡ n → Tail x.before n r → Cut r
  at_end {r = r} x n e t =
      record {
        before = x.before;
        tail = x.rest;
        reads = x.reads;
        all_good = x.all_good;
        goes_on = still_open (own x.before) x.goes_on;
        kind = subst (λ (n : Next). Tail x.before n r) (sym e) t;
      }

  nothing_left : {r : Reason} (x : Whole bytes) → Waits m (own x.frames) ⊎ Misses m (own x.frames) → Ends m (own x.frames) r → Cut r
  nothing_left x w t =
      let fs = x.frames in
      at_end (record { before = fs; rest = []; reads = x.reads ∙ sym (append-nil (flatten fs)); all_good = x.all_good; goes_on = w }) nothing refl t

  -- a frame does
  module _ {i : ℕ} (x : FrameAt bytes i) where
    closing : {r : Reason} → Open m (own x.before) → Closes m rec (own x.before) x.frame i r → Cut r
    closing {r = r} o k =
        record {
          before = x.before;
          tail = x.frame ++ x.rest;
          reads = x.reads ∙ ap (λ (s : List ℕ). s ++ x.rest) (flatten_snoc x.before x.frame) ∙ append_assoc (flatten x.before) x.frame x.rest;
          all_good = all_front Good x.before (x.frame ∷ []) x.all_good;
          goes_on = o;
          kind =
              subst (λ (n : Next). Tail x.before n r) (sym (next_frame x.frame x.rest (all_last Good x.before x.frame [] x.all_good)))
              (x.to_firmware, subst (λ (j : ℕ). Closes m rec (own x.before) x.frame j r) x.place k);
        }

    barred : (k : ℕ) → (Waits m (own x.before) × Bars TakenWaiting x.frame k) ⊎ (Misses m (own x.before) × Bars BlockFrame x.frame k) → Cut (stopped k i)
    barred k (inl w) = closing (waits w.0) (bars a_load w.0 k w.1 refl)
    barred k (inr w) = closing (still_open (own x.before) (inr w.0)) (bars a_block w.0.so_far k w.1 refl)

    completed : {r : Reason} (l : Loads m (own (x.before ++ x.frame ∷ []))) → length l.blocks ≡ needed l
        → Ruled m rec (digest_of l.load l.blocks) i r → Cut r
    completed l n d =
        let e = own_more x.before x.frame x.to_firmware in
        closing (misses (x.frame ∷ []) _ e l (omega arith)) (completes (loads_as m l e) n d)

  -- ---- all reasons

  abbrev gate : Gate
  gate = cond (eqb (length rec) 256) (cond (length_ok m) (by_type (type_of rec)) (settled (refused 7))) (settled (refused 6))

  -- what a reason says then
  abbrev Says : Reason → Gate → Type 0
  Says r (settled q) = r ≡ q
  Says r asked = Cut r

  one_said : (r q : Reason) (g : Gate) → Says r g → Says q g → r ≡ q
  one_said r q (settled x) a b = a ∙ sym b
  one_said r q asked a b = one_cut a b

  lent : (r : Reason) → LengthsOk rec m → Says r (by_type (type_of rec)) → Says r gate
  lent r l s = rw (eq-eqb (length rec) 256 l.record_length, le-leb 1 m l.ram_some, le-leb m 131072 l.ram_small) s

  asks : {r : Reason} → Asks rec m → Cut r → Says r gate
  asks {r = r} a c = lent r a.lent (⊎_elim (λ e. rw e c) (λ e. rw e c) a.client)

  said : (r : Reason) → Holds rec m bytes r → Says r gate
  said r (record_length n) = rw (ne_eqb (length rec) 256 n)
  said r (ram_size e n) =
      rw (eq-eqb (length rec) 256 e) (by_test (Says (refused 7)) (length_ok m) (by_type (type_of rec)) (settled (refused 7)) (λ t. absurd (n (length_facts m t))) (λ t. refl))
  said r (from_flash l t) = lent r l (rw (le-leb (type_of rec) 3 t))
  said r (unknown_type l t) = lent r l (rw (lt-leb (type_of rec) 3 (omega arith), le-leb 6 (type_of rec) t))
  said r (bad_header a i b) =
      asks a (at_end b.frames bad (next_bad _ b.header b.after b.next b.bad) (ap (stopped 22) b.place))
  said r (bad_command a i b) =
      asks a (barred b.at 23 (⊎_map (λ w. (w.0, by_command w.1 refl)) (λ w. (w.0, by_command w.1 refl)) b.not_allowed))
  said r (bad_length a i b) =
      asks a (barred b.at 24 (⊎_map (λ w. (w.0, by_length w.1 refl)) (λ w. (w.0, by_length w.1 refl)) b.other_length))
  said r (bad_digest a i b) = asks a (completed b.at b.load b.all_came (stops b.barred refl))
  said r (is_unfinished a u) =
      asks a (at_end u.frames part (next_part u.frames.rest u.id u.ep u.n u.header u.begun u.short) refl)
  said r (is_waiting a w) = asks a (nothing_left w.whole (inl w.waits) (for_load w.waits refl))
  said r (is_missing a k x) =
      asks a (nothing_left x.whole (inr x.misses) (for_blocks x.misses.so_far k x.count refl))
  said r (has_started a s) =
      let w = s.starting in
      asks a (completed
      (record {
        before = w.before;
        frame = w.last;
        rest = s.rest;
        reads = s.reads ∙ ap (λ (x : List ℕ). x ++ s.rest) w.nothing_left;
        all_good = w.all_good;
        to_firmware = w.last_own;
        place = refl;
      })
      w.loading w.enough (starts w.allowed refl))

pub one_reason : (rec : List ℕ) (m : ℕ) (bytes : List ℕ) (r r' : Reason) → Holds rec m bytes r → Holds rec m bytes r' → r ≡ r'
one_reason rec m bytes r r' h h' = one_said rec m bytes r r' (gate rec m bytes) (said rec m bytes r h) (said rec m bytes r' h')
