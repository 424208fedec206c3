-- One accepted call: what the accepted calls so far amount to, and what a gathering and an acting make of it.
use Prim.Native.Nat.{ℕ, suc, ◌+◌}
use mathlib.Core.Path.{◌≡◌, refl, sym, ap, ◌∙◌, subst}
use mathlib.Core.Logic.{◌↔◌}
use mathlib.Core.Bool.{true, false}
use mathlib.Core.List.{List, [], ◌∷◌, ◌++◌, append_assoc, append-nil, head-eq_of_cons-eq, tail-eq_of_cons-eq, flatten}
use native.Mathlib.Omega.{arith}
use lib.ListN.{length, get_or, length-append}
use Rattle.endian.proofs.Cases.{impossible}
use Rattle.framing.specs.Header.{good, stop, header_at}
use Rattle.protocol.specs.Commands.{blocks_for}
use Rattle.head.specs.State.{is_whole, idle, ended}
use Rattle.head.specs.Answers.{continues, whole, stopped, Gathering, Outcome}
use Rattle.head.specs.Gather.{Step, byte_step, gather_refusal, after_step, gathered}
use Rattle.head.specs.Act.{request_of, performed, act_refusal, acted}
use Rattle.head.proofs.Ranges.{never}
use Rattle.head.proofs.Admitted.{gather_admitted_as, act_admitted, act_admitted_as}
use Rattle.endian.specs.Lists.{All}
use Rattle.session.specs.Reading.{Good, for_firmware, own, size_of, Starting, Loads}
use Rattle.session.specs.Session.{Reset, Loan}
use Rattle.session.specs.Boot.{EndsWhole}
use Rattle.session.proofs.Resets.{ReadsOn}
use Rattle.session.proofs.Frames.{all_append, own_append, flatten_snoc, own_more, own_same, last_same, same_size, Further, reads_on, good_some}
use Rattle.session.proofs.Gathering.{holding, Partial, is_part, has_whole, Gathers, at_bad, at_part, at_passed, at_whole, length_snoc, gathers}
use Rattle.session.proofs.Shapes.{all_last}
use Rattle.session.proofs.Acting.{empty_rest, grows, at, Doing, Complete, not_yet, Leaves, Replies, Acts, goes, starts, stops, acts}
use Rattle.head.specs.declared.Phase.TheVariants as phase
use Rattle.head.specs.declared.Progress.{Progress}
use Rattle.head.specs.declared.State.{State}

-- what is left over of a part, in the bytes of whole good frames, is nothing
none_partial : (p : List ℕ) (hs : List (List ℕ)) → Partial p → All Good hs → p ≡ flatten hs → hs ≡ []
unfolding flatten
none_partial p [] v a e = refl
none_partial p ([] ∷ hs) v a e = absurd (good_some a.0)
none_partial [] ((k ∷ f) ∷ hs) v a e = impossible cc
none_partial (h ∷ p) ((k ∷ f) ∷ hs) v a e =
    let eh : h ≡ k = head-eq_of_cons-eq e in
    let ep : length p ≡ length (f ++ flatten hs) = ap length (tail-eq_of_cons-eq e) in
    let el = length-append f (flatten hs) in
    let g : Good (k ∷ f) = a.0 in
    let s : v.n ≡ g.n = same_size v.id g.id v.ep g.ep v.n g.n (sym v.header ∙ ap header_at eh ∙ g.header) in
    let w : suc (length f) ≡ 1 + g.n = g.whole in
    absurd (omega (arith, v.short))

-- a bad header begins no frame
no_bad : (b : ℕ) (rest : List ℕ) (hs : List (List ℕ)) → header_at b ≡ stop 22 → All Good hs → b ∷ rest ≡ flatten hs → ⊥
unfolding flatten
no_bad b rest [] x a e = impossible cc
no_bad b rest ([] ∷ hs) x a e = good_some a.0
no_bad b rest ((k ∷ f) ∷ hs) x a e =
    let eh : b ≡ k = head-eq_of_cons-eq e in
    let g : Good (k ∷ f) = a.0 in
    let q : good g.id g.ep g.n ≡ stop 22 = sym g.header ∙ ap header_at (sym eh) ∙ x in
    impossible cc

-- where the last frame is for the firmware, none of those at the end can be left out
none_after : (xs ys before : List (List ℕ)) (l : List ℕ) → before ++ l ∷ [] ≡ xs ++ ys → for_firmware l ≡ true → own ys ≡ [] → ys ≡ []
none_after [] ys before l e o n =
    let q : own before ++ l ∷ [] ≡ [] = sym (own_more before l o) ∙ ap own e ∙ n in
    let r : length (own before) + 1 ≡ 0 = sym (length-append (own before) (l ∷ [])) ∙ ap length q in
    absurd (omega arith)
none_after (x ∷ xs) ys [] l e o n =
    let q : length xs + length ys ≡ 0 = sym (length-append xs ys) ∙ ap length (sym (tail-eq_of_cons-eq e)) in
    empty_rest ys (omega arith)
none_after (x ∷ xs) ys (b ∷ before) l e o n = none_after xs ys before l (tail-eq_of_cons-eq e) o n

-- a start's bytes end in a whole frame
abbrev pub ends_whole : {rec built_in : List ℕ} {m : ℕ} {bs : List ℕ} → Starting rec built_in m bs → EndsWhole bs
ends_whole w = record { before = w.before; last = w.last; all_good = w.all_good; nothing_left = w.nothing_left; last_own = w.last_own }

-- bytes that go on after whole frames, and end in one
further : (bs rest : List ℕ) (fs : List (List ℕ)) (part : List ℕ) → All Good fs → bs ≡ flatten fs ++ part → (w : EndsWhole (bs ++ rest))
    → Further fs (w.before ++ w.last ∷ []) (part ++ rest)
further bs rest fs part a e w =
    reads_on fs (w.before ++ w.last ∷ []) (part ++ rest) a w.all_good
    (sym (append_assoc (flatten fs) part rest) ∙ ap (λ (x : List ℕ). x ++ rest) (sym e) ∙ w.nothing_left)

module _ (R : Reset) where
  abbrev m : ℕ
  m = length R.ram

  -- bs are the accepted bytes so far, os the frames that were acted on, and r is the RAM that the last accepted acting left; no frame is whole
  pub record Live (os : List (List ℕ)) (bs : List ℕ) (s : State) (r : List ℕ) : Type 0 where
    pub frames : List (List ℕ)
    pub part : List ℕ
    pub all_good : All Good frames
    pub whole : bs ≡ flatten frames ++ part
    pub partial : Partial part
    pub owned : own frames ≡ os
    pub progress : Progress
    pub state : s ≡ at R (holding part) progress
    pub doing : Doing R r os progress

  -- the frame f for the firmware is whole, and was not acted on
  pub record Full (os : List (List ℕ)) (f bs : List ℕ) (s : State) (r : List ℕ) : Type 0 where
    pub frames : List (List ℕ)
    pub all_good : All Good (frames ++ f ∷ [])
    pub whole : bs ≡ flatten (frames ++ f ∷ [])
    pub last_own : for_firmware f ≡ true
    pub owned : own frames ≡ os
    pub progress : Progress
    pub state : s ≡ at R (holding f) progress
    pub doing : Doing R r os progress

  pub not_whole : {os : List (List ℕ)} {bs : List ℕ} {s : State} {r : List ℕ} → Live os bs s r → is_whole s.incoming ≡ false
  not_whole v = ap (λ (s : State). is_whole s.incoming) v.state ∙ is_part v.part v.partial

  pub now_whole : {os : List (List ℕ)} {f bs : List ℕ} {s : State} {r : List ℕ} → Full os f bs s r → is_whole s.incoming ≡ true
  now_whole {f = f} v =
      ap (λ (s : State). is_whole s.incoming) v.state ∙ has_whole f (all_last Good v.frames f [] v.all_good) v.last_own

  abbrev shape_of : {bs : List ℕ} (w : ReadsOn R bs) (os : List (List ℕ)) → os ≡ own (w.before ++ w.last ∷ []) → Loads m os
  shape_of w os e = record { opening = w.loading.opening; load = w.loading.load; blocks = w.loading.blocks; order = e ∙ w.loading.order; opens = w.loading.opens; loads = w.loading.loads; carry = w.loading.carry }

  -- where the bytes end in a whole frame, these are all its frames, and no part is left
  only_frames : {os : List (List ℕ)} {bs : List ℕ} {s : State} {r : List ℕ} (v : Live os bs s r) (w : EndsWhole bs)
      → (w.before ++ w.last ∷ [] ≡ v.frames) × (v.part ≡ [])
  unfolding flatten
  only_frames v w =
      let u = reads_on v.frames (w.before ++ w.last ∷ []) v.part v.all_good w.all_good (sym v.whole ∙ w.nothing_left) in
      let n = none_partial v.part u.rest v.partial u.all_good u.bytes in
      (u.frames ∙ ap (λ (x : List (List ℕ)). v.frames ++ x) n ∙ append-nil v.frames, u.bytes ∙ ap flatten n)

  pub not_live : {os : List (List ℕ)} {bs : List ℕ} {s : State} {r : List ℕ} → Live os bs s r → ReadsOn R bs → ⊥
  not_live {os = os} v w =
      let e : os ≡ own (w.before ++ w.last ∷ []) = sym v.owned ∙ ap own (sym (only_frames v (ends_whole w)).0) in
      not_yet R v.doing (shape_of w os e) (record { enough = w.enough; digest = w.allowed })

  -- ---- a gathering

  pub data AfterGather (os : List (List ℕ)) (bs r : List ℕ) (o : Gathering) : Type 0 where
    unfinished : o.report ≡ continues → Live os bs o.state r → (EndsWhole bs → ⊥) → AfterGather os bs r o
    complete : o.report ≡ whole → (f : List ℕ) → Full os f bs o.state r → AfterGather os bs r o
    bad_header : o.report ≡ stopped 22 → o.state ≡ ended phase.Stopped m → ((rest : List ℕ) → EndsWhole (bs ++ rest) → ⊥) → AfterGather os bs r o

  -- it answers whole exactly when the bytes end in a whole frame
  pub whole_exactly : {os : List (List ℕ)} {bs r : List ℕ} {o : Gathering} → AfterGather os bs r o → (o.report ≡ whole) ↔ EndsWhole bs
  whole_exactly (unfinished e v n) = (λ q. impossible cc, λ w. absurd (n w))
  whole_exactly (complete e f v) = (
    λ q. record { before = v.frames; last = f; all_good = v.all_good; nothing_left = v.whole; last_own = v.last_own },
    λ w. e,
  )
  whole_exactly (bad_header e q z) = (λ p. impossible cc, λ w. absurd (z [] (subst EndsWhole (sym (append-nil _)) w)))

  module _ (os : List (List ℕ)) (bs : List ℕ) (s : State) (r : List ℕ) (v : Live os bs s r) (b : ℕ) where
    abbrev byte_in : List ℕ
    byte_in = v.part ++ b ∷ []

    longer : bs ++ b ∷ [] ≡ flatten v.frames ++ byte_in
    longer = ap (λ (x : List ℕ). x ++ b ∷ []) v.whole ∙ append_assoc (flatten v.frames) v.part (b ∷ [])

    -- with the frame that the byte ends
    closed : bs ++ b ∷ [] ≡ flatten (v.frames ++ byte_in ∷ [])
    closed = longer ∙ sym (flatten_snoc v.frames byte_in)

    all_good : Good byte_in → All Good (v.frames ++ byte_in ∷ [])
    all_good g = all_append Good v.frames (byte_in ∷ []) v.all_good (g, tt)

    gathered_after : (x : Step) → Gathers v.part b x → AfterGather os (bs ++ b ∷ []) r (after_step x (at R (holding v.part) v.progress))
    gathered_after x (at_bad p e q) =
        rw q (bad_header refl refl (λ rest w.
        let u = further (bs ++ b ∷ []) rest v.frames (b ∷ []) v.all_good (longer ∙ ap (λ (y : List ℕ). flatten v.frames ++ (y ++ b ∷ [])) p) w in
        no_bad b rest u.rest e u.all_good u.bytes))
    gathered_after x (at_part p q) =
        let u : Live os (bs ++ b ∷ []) (at R (holding byte_in) v.progress) r =
        record {
          frames = v.frames;
          part = byte_in;
          all_good = v.all_good;
          whole = longer;
          partial = p;
          owned = v.owned;
          progress = v.progress;
          state = refl;
          doing = v.doing;
        } in
        rw (q, is_part byte_in p) (unfinished refl u (λ w.
        let n : length byte_in ≡ 0 = ap length (only_frames u w).1 in
        let l = length_snoc v.part b in
        omega arith))
    gathered_after x (at_passed g n q) =
        let u : Live os (bs ++ b ∷ []) (at R idle v.progress) r =
        record {
          frames = v.frames ++ byte_in ∷ [];
          part = [];
          all_good = all_good g;
          whole = closed ∙ sym (append-nil _);
          partial = tt;
          owned = own_same v.frames byte_in n ∙ v.owned;
          progress = v.progress;
          state = refl;
          doing = v.doing;
        } in
        rw (q, is_part [] tt) (unfinished refl u (λ w.
        never (sym w.last_own ∙ ap for_firmware (last_same w.before v.frames w.last byte_in (only_frames u w).0) ∙ n)))
    gathered_after x (at_whole g o q) =
        rw (q, has_whole byte_in g o) (complete refl byte_in
        (record {
          frames = v.frames;
          all_good = all_good g;
          whole = closed;
          last_own = o;
          owned = v.owned;
          progress = v.progress;
          state = refl;
          doing = v.doing;
        }))

    pub after_gather : gather_refusal s ≡ 0 → AfterGather os (bs ++ b ∷ []) r (gathered s b)
    after_gather z =
        subst (AfterGather os (bs ++ b ∷ []) r) (gather_admitted_as s b (sym z))
        (subst (λ (t : State). AfterGather os (bs ++ b ∷ []) r (after_step (byte_step t.incoming b) t)) (sym v.state)
        (gathered_after (byte_step (holding v.part) b) (gathers v.part b v.partial)))

  -- ---- an acting

  pub data AfterAct (os : List (List ℕ)) (f bs : List ℕ) (l : Loan) (o : Outcome) : Type 0 where
    goes_on : o.report ≡ continues → Live (os ++ f ∷ []) bs o.state o.ram → length o.ram ≡ m → Replies R l.room f o → AfterAct os f bs l o
    has_started : (w : ReadsOn R bs) → Leaves R w.loading.load w.loading.blocks (get_or w.last 0 0) l.room l.uds o
        → ((rest : List ℕ) → ReadsOn R (bs ++ rest) → rest ≡ []) → AfterAct os f bs l o
    has_stopped : (k : ℕ) → o.report ≡ stopped k → o.state ≡ ended phase.Stopped m → ((rest : List ℕ) → ReadsOn R (bs ++ rest) → ⊥) → AfterAct os f bs l o

  module _ (os : List (List ℕ)) (f bs : List ℕ) (s : State) (l : Loan) (v : Full os f bs s l.ram) where
    whole_nil : bs ≡ flatten (v.frames ++ f ∷ []) ++ []
    whole_nil = v.whole ∙ sym (append-nil _)

    own_all : own (v.frames ++ f ∷ []) ≡ os ++ f ∷ []
    own_all = own_more v.frames f v.last_own ∙ ap (λ (x : List (List ℕ)). x ++ f ∷ []) v.owned

    -- the frames after these, when the bytes go on as those of a start
    module _ (rest : List ℕ) (w : ReadsOn R (bs ++ rest)) where
      abbrev on : Further (v.frames ++ f ∷ []) (w.before ++ w.last ∷ []) rest
      on = further bs rest (v.frames ++ f ∷ []) [] v.all_good whole_nil (ends_whole w)

      own_further : (os ++ f ∷ []) ++ own on.rest ≡ own (w.before ++ w.last ∷ [])
      own_further =
          ap (λ (x : List (List ℕ)). x ++ own on.rest) (sym own_all) ∙ sym (own_append (v.frames ++ f ∷ []) on.rest) ∙ ap own (sym on.frames)

      last_start : (h : Loads m (os ++ f ∷ [])) → Complete R h → rest ≡ []
      unfolding flatten
      last_start h k =
          let t = grows m (os ++ f ∷ []) (own on.rest) h (shape_of w _ own_further) in
          let l : length h.blocks + length (own on.rest) ≡ length w.loading.blocks = sym (length-append h.blocks (own on.rest)) ∙ ap length t.1 in
          let s : blocks_for (size_of h.load) ≡ blocks_for (size_of w.loading.load) = ap (λ (x : List ℕ). blocks_for (size_of x)) t.0 in
          let n : own on.rest ≡ [] = empty_rest (own on.rest) (omega (arith, k.enough, w.enough)) in
          on.bytes ∙ ap flatten (none_after (v.frames ++ f ∷ []) on.rest w.before w.last on.frames w.last_own n)

    acted_after : (o : Outcome) → Acts R l.room l.uds os f o → AfterAct os f bs l o
    acted_after o (goes r p q d n a) =
        goes_on r
        (record {
          frames = v.frames ++ f ∷ [];
          part = [];
          all_good = v.all_good;
          whole = whole_nil;
          partial = tt;
          owned = own_all;
          progress = p;
          state = q;
          doing = d;
        }) n a
    acted_after o (starts h k b n) =
        has_started
        (record {
          before = v.frames;
          last = f;
          all_good = v.all_good;
          nothing_left = v.whole;
          last_own = v.last_own;
          last_block = b;
          loading =
              record {
                opening = h.opening;
                load = h.load;
                blocks = h.blocks;
                order = own_all ∙ h.order;
                opens = h.opens;
                loads = h.loads;
                carry = h.carry;
              };
          enough = k.enough;
          allowed = k.digest;
        }) n (λ rest w. last_start rest w h k)
    acted_after o (stops k r q no_start) =
        has_stopped k r q (λ rest w.
        no_start (own (on rest w).rest) (shape_of w _ (sym (append_assoc os (f ∷ []) _) ∙ own_further rest w)) (record { enough = w.enough; digest = w.allowed }))

    pub after_act : act_refusal s (length l.room) (length l.ram) (length l.uds) ≡ 0 → AfterAct os f bs l (acted s l.room l.ram l.uds)
    after_act z =
        let fits = (act_admitted s (length l.room) (length l.ram) (length l.uds) z).ram_same ∙ ap (λ (t : State). t.config.ram_len) v.state in
        subst (AfterAct os f bs l) (act_admitted_as s l.room l.ram l.uds (sym z))
        (subst (λ (t : State). AfterAct os f bs l (performed (request_of t) t l.room l.ram l.uds)) (sym v.state)
        (acted_after _ (acts R l.room l.ram l.uds fits os f v.last_own (all_last Good v.frames f [] v.all_good) v.progress v.doing)))
