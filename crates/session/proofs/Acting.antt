-- What acting on a whole frame does, against what the frames so far are.
use Prim.Native.Nat.{ℕ, suc, ◌+◌, ◌*◌, ◌<◌, ◌≤◌}
use mathlib.Core.Path.{◌≡◌, refl, sym, ap, ◌∙◌, subst}
use mathlib.Core.Logic.{inl, inr, ⊎_elim}
use mathlib.Core.Bool.{Bool, true, false}
use mathlib.Core.List.{List, [], ◌∷◌, ◌++◌, append_assoc, append-nil}
use native.Mathlib.Omega.{arith}
use lib.ListN.{length, get_or, take, drop, drop_of_length-le, length-append}
use lib.Seq.{length-paste, take-paste, take-append-add, take_all}
use borrow.Author.Tests.{eqb-true, eqb-false}
use Rattle.framing.specs.Header.{header_at, body_len}
use Rattle.rfc7693.specs.Rfc7693.{blake2s}
use Rattle.endian.specs.Endian.{bytes}
use Rattle.cdi.specs.Cdi.{cdi_string, cdi_of}
use Rattle.protocol.specs.Commands.{load_in, good_load, uses_uss, carried_by, blocks_for, count_in, is_last}
use Rattle.protocol.specs.Replies.{sent, put_in, load_reply, block_reply, digest_reply}
use Rattle.protocol.specs.declared.Reply.{Reply}
use Rattle.protocol.proofs.Proved.{protocol}
use Rattle.record.specs.Record.{record_at}
use Rattle.endian.specs.Lists.{zeros, All}
use Rattle.head.specs.State.{idle, ended}
use Rattle.head.specs.Answers.{continues, stopped, started, Result, Outcome, replied}
use Rattle.head.specs.Begin.{waiting}
use Rattle.head.specs.Start.{allowed, starting, decided}
use Rattle.head.specs.Act.{Request, gives_load, request_in, frame_in, request_of, stored_in, replying, load_answer, after_load, finished_with, acted_block, performed}
use Rattle.head.proofs.Ranges.{never, by_test, length_some}
use Rattle.session.specs.Reading.{Good, for_firmware, body_of, QueryFrame, LoadFrame, Opens, BlockFrame, carried, size_of, program_of, digest_of, chained, measured_id, Loads}
use Rattle.session.specs.Session.{Reset}
use Rattle.session.proofs.Resets.{AllowedOn, config, allows}
use Rattle.session.proofs.Frames.{all_append, good_some}
use Rattle.session.proofs.Gathering.{holding, length_snoc}
use Rattle.session.proofs.Shapes.{AskedWaiting, asks_name_is, asks_udi_is, asks_load, asks_neither, asked_waiting, AskedLoading, asks_block, asks_no_block, asked_loading, one_shape, next_is, no_load, carried_snoc, carries_127, carried_length, load_size, all_last}
use Rattle.head.specs.declared.Phase.TheVariants as phase
use Rattle.head.specs.declared.Incoming.{Incoming}
use Rattle.head.specs.declared.Progress.{Progress}
use Rattle.head.specs.declared.State.{State}

pub empty_rest : {A : Type 0} (l : List A) → length l ≡ 0 → l ≡ []
empty_rest [] e = refl
empty_rest (x ∷ xs) e = absurd (omega arith)

-- a shape that goes on is the same shape with more blocks
pub grows : (m : ℕ) (os hs : List (List ℕ)) (g : Loads m os) (h : Loads m (os ++ hs)) → (g.load ≡ h.load) × (g.blocks ++ hs ≡ h.blocks)
grows m os hs g h =
    let e : g.opening ++ g.load ∷ (g.blocks ++ hs) ≡ h.opening ++ h.load ∷ h.blocks =
    sym (append_assoc g.opening (g.load ∷ g.blocks) hs) ∙ ap (λ (x : List (List ℕ)). x ++ hs) (sym g.order) ∙ h.order in
    let u = one_shape m g.opening h.opening g.load h.load (g.blocks ++ hs) h.blocks g.opens h.opens g.loads h.loads e in
    (u.1, u.2)

module _ (R : Reset) where
  abbrev m : ℕ
  m = length R.ram

  -- a head that goes on
  abbrev pub at : Incoming → Progress → State
  at i p = record { incoming = i; config = config R; progress = p }

  -- with the load f, and k blocks
  abbrev pub loaded_with : List ℕ → ℕ → Progress
  loaded_with f k = record { phase = phase.Loading; size = size_of f; block = k; uss_used = uses_uss (load_in f); uss = (load_in f).uss }

  -- the progress that frames for the firmware lead to, with RAM r
  pub data Doing (r : List ℕ) (os : List (List ℕ)) : Progress → Type 0 where
    is_waiting : All (Opens m) os → Doing r os waiting
    is_loading : (g : Loads m os) → length g.blocks < blocks_for (size_of g.load) → take (127 * length g.blocks) r ≡ carried g.blocks
        → Doing r os (loaded_with g.load (length g.blocks))

  -- a shape that a start needs
  pub record Complete {os : List (List ℕ)} (g : Loads m os) : Type 0 where
    pub enough : length g.blocks ≡ blocks_for (size_of g.load)
    pub digest : AllowedOn R (digest_of g.load g.blocks)

  -- these frames are not yet those of a start
  pub not_yet : {r : List ℕ} {os : List (List ℕ)} {p : Progress} → Doing r os p → (g : Loads m os) → Complete g → ⊥
  not_yet {os = os} (is_waiting a) g c = no_load m os a g.opening g.load g.blocks g.loads g.order
  not_yet {os = os} (is_loading h due t) g c =
      let u = one_shape m h.opening g.opening h.load g.load h.blocks g.blocks h.opens g.opens h.loads g.loads (sym h.order ∙ g.order) in
      let k : length g.blocks < blocks_for (size_of g.load) = rw (← u.1, ← u.2) due in
      let e = c.enough in
      omega arith

  -- what a start leaves, for the load and the blocks of its session and the header of the last
  pub record Leaves (load : List ℕ) (blocks : List (List ℕ)) (header : ℕ) (room uds : List ℕ) (o : Outcome) : Type 0 where
    pub report : o.report ≡ started 0x40000000 (size_of load)
    pub cdi : o.cdi ≡ blake2s [] (cdi_string (bytes uds) (chained R.rec) (measured_id R.rec) (digest_of load blocks) (uses_uss (load_in load)) (load_in load).uss) 32
    pub digests : o.digest ≡ digest_of load blocks
    pub front : take (size_of load) o.ram ≡ program_of load blocks
    pub reply : o.reply ≡ 129
    pub room_after : o.room ≡ put_in room (sent (digest_reply header (digest_of load blocks)))
    pub cleared : o.uds ≡ zeros 8
    pub state : o.state ≡ ended phase.Started m

  -- the reply to a frame after which the session goes on
  pub data ReplyTo (f : List ℕ) : Reply → Type 0 where
    to_query : QueryFrame f → (r : Reply) → ReplyTo f r
    to_load : LoadFrame f → (h : ℕ) → h ≡ get_or f 0 0 → (g : Bool) → g ≡ good_load m (load_in f) → ReplyTo f (load_reply h g)
    to_block : BlockFrame f → (h : ℕ) → h ≡ get_or f 0 0 → ReplyTo f (block_reply h)

  -- it is in the room
  pub record Replies (room f : List ℕ) (o : Outcome) : Type 0 where
    pub is : Reply
    pub reply_to : ReplyTo f is
    pub reply : o.reply ≡ is.len + 1
    pub room_after : o.room ≡ put_in room (sent is)

  pub data Acts (room uds : List ℕ) (os : List (List ℕ)) (f : List ℕ) (o : Outcome) : Type 0 where
    goes : o.report ≡ continues → (p : Progress) → o.state ≡ at idle p → Doing o.ram (os ++ f ∷ []) p → length o.ram ≡ m → Replies room f o → Acts room uds os f o
    starts : (g : Loads m (os ++ f ∷ [])) → Complete g → BlockFrame f → Leaves g.load g.blocks (get_or f 0 0) room uds o → Acts room uds os f o
    stops : (k : ℕ) → o.report ≡ stopped k → o.state ≡ ended phase.Stopped m → ((hs : List (List ℕ)) (g : Loads m (os ++ f ∷ hs)) → Complete g → ⊥) → Acts room uds os f o

  module _ (room ram uds : List ℕ) (fits : length ram ≡ m) (os : List (List ℕ)) where
    -- a frame that is not one of a start, however the bytes go on
    not_next : (f : List ℕ) → All (Opens m) os → (QueryFrame f → ⊥) → (LoadFrame f → ⊥) → (hs : List (List ℕ)) (g : Loads m (os ++ f ∷ hs)) → ⊥
    not_next f a q l hs g =
        ⊎_elim (λ o. ⊎_elim q (λ b. l b.0) o) (λ b. l b.0) (next_is m os f hs a g.opening g.load g.blocks g.opens g.loads g.order)

    opened : (f : List ℕ) → All (Opens m) os → Opens m f → Doing ram (os ++ f ∷ []) waiting
    opened f a o = is_waiting (all_append (Opens m) os (f ∷ []) a (o, tt))

    acts_load : (f : List ℕ) → All (Opens m) os → LoadFrame f → frame_in (at (holding f) waiting) ≡ f
        → Acts room uds os f (performed gives_load (at (holding f) waiting) room ram uds)
    unfolding after_load load_answer
    acts_load f a l e =
        rw e (by_test (λ (p : Progress). Acts room uds os f (replying (load_reply (holding f).header (good_load m (load_in f))) (at idle p) room ram uds)) (good_load m (load_in f)) _ _
        (λ t.
        let s : (1 ≤ size_of f) × (size_of f ≤ m) = load_size m f (l, t) in
        goes refl (loaded_with f 0) refl
        (is_loading (record { opening = os; load = f; blocks = []; order = refl; opens = a; loads = (l, t); carry = tt }) (omega arith) refl) fits
        (record { is = _; reply_to = to_load l (holding f).header (ap (λ (x : List ℕ). get_or x 0 0) e) _ refl; reply = refl; room_after = refl }))
        (λ t.
        goes refl waiting refl (opened f a (inr (l, t))) fits
        (record { is = _; reply_to = to_load l (holding f).header (ap (λ (x : List ℕ). get_or x 0 0) e) _ refl; reply = refl; room_after = refl })))

    acts_waiting : (f : List ℕ) → All (Opens m) os → (length (body_of f) ≡ 128 → frame_in (at (holding f) waiting) ≡ f) → (d : Request) → AskedWaiting f d
        → Acts room uds os f (performed d (at (holding f) waiting) room ram uds)
    acts_waiting f a e d (asks_name_is q) = goes refl waiting refl (opened f a (inl q)) fits (record { is = _; reply_to = to_query q _; reply = refl; room_after = refl })
    acts_waiting f a e d (asks_udi_is q) = goes refl waiting refl (opened f a (inl q)) fits (record { is = _; reply_to = to_query q _; reply = refl; room_after = refl })
    acts_waiting f a e d (asks_load l) = acts_load f a l (e l.0)
    acts_waiting f a e d (asks_neither k q l) = stops k refl refl (λ hs g c. not_next f a q l hs g)

    module _ (g : Loads m os) (due : length g.blocks < blocks_for (size_of g.load)) (held : take (127 * length g.blocks) ram ≡ carried g.blocks) (f : List ℕ)
        (b : BlockFrame f) where
      abbrev pub more : Loads m (os ++ f ∷ [])
      more =
          record {
            opening = g.opening;
            load = g.load;
            blocks = g.blocks ++ f ∷ [];
            order = ap (λ (r : List (List ℕ)). r ++ f ∷ []) g.order ∙ append_assoc g.opening (g.load ∷ g.blocks) (f ∷ []);
            opens = g.opens;
            loads = g.loads;
            carry = all_append BlockFrame g.blocks (f ∷ []) g.carry (b, tt);
          }

      abbrev ram_after : List ℕ
      ram_after = stored_in ram f (size_of g.load) (length g.blocks)

      -- what is in RAM up to the end of the block is what the blocks carry
      stored_length : length ram_after ≡ m
      stored_length =
          let c = carries_127 f b in
          let s = load_size m g.load g.loads in
          length-paste ram (127 * length g.blocks) (carried_by f) (count_in (size_of g.load) (length g.blocks)) (omega arith) (omega arith) ∙ fits

      stored_front : take (127 * length g.blocks + count_in (size_of g.load) (length g.blocks)) ram_after
          ≡ take (127 * length g.blocks + count_in (size_of g.load) (length g.blocks)) (carried (g.blocks ++ f ∷ []))
      stored_front =
          let c = carries_127 f b in
          let s = load_size m g.load g.loads in
          let l = carried_length g.blocks g.carry in
          let j = count_in (size_of g.load) (length g.blocks) in
          let small : 127 * length g.blocks ≤ length ram = omega arith in
          take-paste ram (127 * length g.blocks) (carried_by f) j small (omega arith)
          ∙ ap (λ (r : List ℕ). r ++ take j (carried_by f)) held
          ∙ sym (take-append-add (carried g.blocks) (carried_by f) j)
          ∙ ap (λ (i : ℕ). take (i + j) (carried g.blocks ++ carried_by f)) l
          ∙ ap (λ (r : List ℕ). take (127 * length g.blocks + j) r) (sym (carried_snoc g.blocks f))

      counts : length (g.blocks ++ f ∷ []) ≡ length g.blocks + 1
      counts = length_snoc g.blocks f

      -- a block that is not the last
      acts_more : is_last (size_of g.load) (length g.blocks) ≡ false
          → Doing ram_after (os ++ f ∷ []) (loaded_with g.load (length g.blocks + 1))
      acts_more z =
          let j : count_in (size_of g.load) (length g.blocks) ≡ 127 = protocol.full (size_of g.load) (length g.blocks) due z in
          let u = eqb-false (blocks_for (size_of g.load)) (length g.blocks + 1) z in
          let c = counts in
          let l = carried_length (g.blocks ++ f ∷ []) more.carry in
          let to : 127 * length g.blocks + count_in (size_of g.load) (length g.blocks) ≡ 127 * length (g.blocks ++ f ∷ []) = omega arith in
          subst (λ (i : ℕ). Doing ram_after (os ++ f ∷ []) (loaded_with g.load i)) counts
          (is_loading more (omega (arith, u))
          (ap (λ (i : ℕ). take i ram_after) (sym to) ∙ stored_front
          ∙ take_all (127 * length g.blocks + count_in (size_of g.load) (length g.blocks)) (carried (g.blocks ++ f ∷ [])) (omega arith)))

      -- the last
      module _ (z : is_last (size_of g.load) (length g.blocks) ≡ true) where
        pub program_in : take (size_of g.load) ram_after ≡ program_of g.load (g.blocks ++ f ∷ [])
        program_in =
            let s = load_size m g.load g.loads in
            let to : 127 * length g.blocks + count_in (size_of g.load) (length g.blocks) ≡ size_of g.load = protocol.last (size_of g.load) (length g.blocks) s.0 z in
            subst (λ (i : ℕ). take i ram_after ≡ take i (carried (g.blocks ++ f ∷ []))) to stored_front

        pub all_there : length (g.blocks ++ f ∷ []) ≡ blocks_for (size_of g.load)
        all_there = counts ∙ sym (eqb-true (blocks_for (size_of g.load)) (length g.blocks + 1) z)

        -- the digest of the program
        abbrev whole_digest : List ℕ
        whole_digest = digest_of g.load (g.blocks ++ f ∷ [])

        -- where it is not allowed, no more frames make a start
        no_other : (AllowedOn R whole_digest → ⊥) → (hs : List (List ℕ)) (h : Loads m (os ++ f ∷ hs)) → Complete h → ⊥
        no_other bar hs h c =
            let u = grows m os (f ∷ hs) g h in
            let a = all_there in
            let e = c.enough in
            let same_load : g.load ≡ h.load = u.0 in
            let l : length (g.blocks ++ f ∷ hs) ≡ length h.blocks = ap length u.1 in
            let s : blocks_for (size_of g.load) ≡ blocks_for (size_of h.load) = ap (λ (x : List ℕ). blocks_for (size_of x)) same_load in
            let le = length-append g.blocks (f ∷ hs) in
            let lf = counts in
            let none : hs ≡ [] = empty_rest hs (omega arith) in
            let same_blocks : g.blocks ++ f ∷ [] ≡ h.blocks = ap (λ (x : List (List ℕ)). g.blocks ++ f ∷ x) (sym none) ∙ u.1 in
            bar (rw (same_load, same_blocks) c.digest)

        acts_last : (d : List ℕ) → d ≡ whole_digest → (i : Incoming) → i.header ≡ get_or f 0 0
            → Acts room uds os f (finished_with d (at i (loaded_with g.load (length g.blocks))) room ram_after uds)
        unfolding finished_with decided starting cdi_of record_at
        acts_last d e i h =
            let x = allows R whole_digest in
            let room1 = put_in room (sent (digest_reply (get_or f 0 0) whole_digest)) in
            rw (e, h) (by_test (λ (r : Result). Acts room uds os f (replied 129 room1 r)) (allowed (config R) whole_digest) _ _
            (λ t. starts more (record { enough = all_there; digest = x.0 t }) b
            (record { report = refl; cdi = refl; digests = refl; front = program_in; reply = refl; room_after = refl; cleared = refl; state = refl }))
            (λ t. stops 25 refl refl (no_other (λ a. never (sym (x.1 a) ∙ t)))))

      acts_block : (i : Incoming) → i.header ∷ i.body ≡ f → i.header ≡ get_or f 0 0
          → Acts room uds os f (acted_block (at i (loaded_with g.load (length g.blocks))) room ram uds)
      unfolding acted_block
      acts_block i e h =
          let c : drop 1 i.body ≡ carried_by f = ap carried_by e in
          rw c (by_test (λ (o : Outcome). Acts room uds os f o) (is_last (size_of g.load) (length g.blocks)) _ _
          (λ z. acts_last z _ (ap (λ (x : List ℕ). blake2s [] x 32) (program_in z)) i h)
          (λ z.
          goes refl (loaded_with g.load (length g.blocks + 1)) refl (acts_more z) stored_length
          (record { is = _; reply_to = to_block b i.header h; reply = refl; room_after = refl })))

    -- a frame that is no block, once blocks are due
    not_block : (g : Loads m os) (f : List ℕ) → (BlockFrame f → ⊥) → (hs : List (List ℕ)) (h : Loads m (os ++ f ∷ hs)) → ⊥
    not_block g f x hs h =
        let u = grows m os (f ∷ hs) g h in
        x (all_last BlockFrame g.blocks f hs (rw u.1 h.carry))

    acts_loading : (g : Loads m os) → length g.blocks < blocks_for (size_of g.load) → take (127 * length g.blocks) ram ≡ carried g.blocks
        → (f : List ℕ) (i : Incoming) → (length (body_of f) ≡ 128 → i.header ∷ i.body ≡ f) → i.header ≡ get_or f 0 0 → (d : Request) → AskedLoading f d
        → Acts room uds os f (performed d (at i (loaded_with g.load (length g.blocks))) room ram uds)
    acts_loading g due t f i e h d (asks_block b) = acts_block g due t f b i (e b.0) h
    acts_loading g due t f i e h d (asks_no_block k x) = stops k refl refl (λ hs s c. not_block g f x hs s)

    -- ---- the frame that was gathered

    pub held_frame : (h : ℕ) (q : List ℕ) → for_firmware (h ∷ q) ≡ true → length q ≡ 128 → (holding (h ∷ q)).header ∷ (holding (h ∷ q)).body ≡ h ∷ q
    held_frame h q o l =
        let d : drop (length q) (zeros 128) ≡ [] = drop_of_length-le (zeros 128) {i = length q} (omega arith) in
        rw (o, d, append-nil q)

    pub held_body : (h : ℕ) (q : List ℕ) → Good (h ∷ q) → body_len (header_at h) ≡ length q
    held_body h q w =
        let e : body_len (header_at h) ≡ w.n = ap body_len w.header in
        let l : suc (length q) ≡ 1 + w.n = w.whole in
        omega arith

    doing : (h x : ℕ) (q : List ℕ) → for_firmware (h ∷ x ∷ q) ≡ true → Good (h ∷ x ∷ q) → (p : Progress) → Doing ram os p
        → Acts room uds os (h ∷ x ∷ q) (performed (request_in p.phase x (body_len (header_at h))) (at (holding (h ∷ x ∷ q)) p) room ram uds)
    doing h x q o w p (is_waiting a) =
        rw (held_body h (x ∷ q) w) (acts_waiting (h ∷ x ∷ q) a (held_frame h (x ∷ q) o) _ (asked_waiting (h ∷ x ∷ q)))
    doing h x q o w p (is_loading g due t) =
        rw (held_body h (x ∷ q) w) (acts_loading g due t (h ∷ x ∷ q) (holding (h ∷ x ∷ q)) (held_frame h (x ∷ q) o) refl _ (asked_loading (h ∷ x ∷ q)))

    pub acts : (f : List ℕ) → for_firmware f ≡ true → Good f → (p : Progress) → Doing ram os p
        → Acts room uds os f (performed (request_of (at (holding f) p)) (at (holding f) p) room ram uds)
    acts [] o w p d = absurd (good_some w)
    acts (h ∷ []) o w p d =
        absurd (let l = length_some h w.id w.ep w.n w.header in let e : 1 ≡ 1 + w.n = w.whole in omega arith)
    acts (h ∷ x ∷ q) o w p d =
        subst (λ (c : ℕ). Acts room uds os (h ∷ x ∷ q) (performed (request_in p.phase c (body_len (header_at h))) (at (holding (h ∷ x ∷ q)) p) room ram uds)) (sym (first o))
        (doing h x q o w p d)
      where
        first : for_firmware (h ∷ x ∷ q) ≡ true → get_or (holding (h ∷ x ∷ q)).body 0 0 ≡ x
        first e = rw e refl
