-- A monitor and the head that hears the same bytes: each byte and each whole frame lead both to the same, and a stop comes with its reason.
use Prim.Native.Nat.{ℕ, ◌+◌, ◌*◌, ◌<◌, ◌≤◌}
use mathlib.Core.Path.{◌≡◌, refl, sym, ap, ◌∙◌, subst}
use mathlib.Core.Logic.{◌⊎◌, inl, inr}
use mathlib.Core.Bool.{Bool, true, false, cond}
use mathlib.Core.List.{List, [], ◌∷◌, ◌++◌}
use native.Mathlib.Omega.{arith}
use lib.ListN.{length, get_or, take, drop, length-take}
use lib.Seq.{paste, take-append-add, take_all}
use Rattle.endian.specs.Lists.{zeros, All}
use Rattle.framing.specs.Header.{header_at, body_len}
use Rattle.rfc7693.specs.Rfc7693.{blake2s}
use Rattle.blake2s.specs.Stream.{update_context, finish_output}
use Rattle.blake2s.specs.declared.Context.{Context}
use Rattle.protocol.specs.Commands.{load_in, good_load, blocks_for, carried_by, count_in, is_last}
use Rattle.protocol.specs.Replies.{sent, put_in, block_reply, digest_reply}
use Rattle.protocol.proofs.Proved.{protocol}
use Rattle.record.specs.Record.{record_at}
use Rattle.head.specs.State.{in_range}
use Rattle.head.specs.Answers.{continues, stopped, started, stop_number, Gathering, Outcome, replied}
use Rattle.head.specs.Start.{ending, allowed, starting, decided}
use Rattle.head.specs.Begin.{config_of, waiting}
use Rattle.head.specs.Gather.{Step, taken, bad, byte_step, gather_refusal, after_step, gathered}
use Rattle.head.specs.Act.{Request, gives_load, gives_block, request_in, request_of, frame_in, between, loaded, load_of, takes, load_answer, after_load, replying, stored_in, next_block, finished_with, finished, acted_block, performed}
use Rattle.head.proofs.Ranges.{never, length_some}
use Rattle.head.proofs.Admitted.{gather_admitted_as}
use Rattle.head.specs.declared.Incoming.{Incoming}
use Rattle.head.specs.declared.Progress.{Progress}
use Rattle.head.specs.declared.State.{State}
use Rattle.head.specs.declared.Stop.{Stop}
use Rattle.head.specs.declared.Stop.TheVariants.{Command, BodyLength, Digest}
use Rattle.session.specs.Reading.{Good, for_firmware, body_of, LoadFrame, Opens, BlockFrame, carried, size_of, program_of, digest_of, Loads, needed}
use Rattle.session.specs.Session.{Reset, AsksClient}
use Rattle.session.proofs.Resets.{AllowedOn, config, allows}
use Rattle.session.proofs.Frames.{all_append, good_some}
use Rattle.session.proofs.Gathering.{holding}
use Rattle.session.proofs.Shapes.{one_shape, no_load, carried_snoc, carries_127, carried_length, load_size}
use Rattle.session.proofs.Acting.{grows, at, loaded_with, Doing, is_waiting, is_loading, more, program_in, all_there, held_frame, held_body}
use Rattle.diagnosis.specs.Monitor.{Verdict, Open, Stopped, Started, Monitor, fresh_hash, onward, load_heard, measured, block_heard, frame_heard, by_report, is_open, heard_byte, nowhere}
use Rattle.diagnosis.specs.declared.Position.{Position}
use Rattle.reasons.specs.Meaning.{Waits, Misses, TakenWaiting, NotAllowed, OtherLength}
use Rattle.reasons.specs.Theorems.{Stands}
use Rattle.reasons.proofs.Places.{Reads, begun}
use Rattle.reasons.proofs.Hashing.{hashed, hashed_nothing, hashed_more, hashed_all}
use Rattle.reasons.proofs.Asked.{AsksWaiting, a_name, a_udi, a_load, w_command, w_length, AsksLoading, a_block, l_command, l_length, asks_waiting, asks_loading}

-- the last byte heard of bs, by its number, the frames that have begun, and its place in the frame
pub record Placed (bs : List ℕ) (q : Position) : Type 0 where
  pub count : q.byte ≡ length bs
  pub frames : (fs : List (List ℕ)) (p : List ℕ) → Reads bs fs p → q.frame ≡ begun fs p
  pub stands : (more : List ℕ) → 1 ≤ q.byte → Stands (bs ++ more) q.byte q.frame q.offset
  pub before_any : q.byte ≡ 0 → q ≡ nowhere

module _ (R : Reset) where
  abbrev m : ℕ
  m = length R.ram

  -- the state of the head with what the monitor goes by, which has neither UDI nor a built-in digest
  abbrev pub seen : State → State
  seen s = record { incoming = s.incoming; config = config_of (record_at R.rec) (zeros 8) (zeros 32) m; progress = s.progress }

  -- a monitor that follows the head: os are the frames that were acted on, bs the bytes so far
  pub record Follows (os : List (List ℕ)) (bs : List ℕ) (s : State) (w : Monitor) : Type 0 where
    pub live : w.verdict ≡ Open
    pub head : w.head ≡ seen s
    pub hash : (g : Loads m os) → w.hash ≡ hashed (carried g.blocks)
    pub placed : Placed bs w.position
    pub blank : w.digest ≡ zeros 32

  -- ---- a byte

  seen_admitted : (s : State) → s.config.ram_len ≡ m → gather_refusal s ≡ 0 → gather_refusal (seen s) ≡ 0
  unfolding gather_refusal in_range
  seen_admitted s e z = rw (← e) z

  step_seen : (x : Step) (s : State) (w : Monitor)
      → by_report (after_step x (seen s)).report (after_step x (seen s)).state w ≡ by_report (after_step x s).report (seen (after_step x s).state) w
  step_seen (taken i) s w = refl
  step_seen bad s w = refl

  pub heard_byte_is : (os : List (List ℕ)) (bs : List ℕ) (s : State) (w : Monitor) (b : ℕ) → Follows os bs s w → s.config.ram_len ≡ m → gather_refusal s ≡ 0
      → heard_byte w b ≡ by_report (gathered s b).report (seen (gathered s b).state) w
  unfolding heard_byte
  heard_byte_is os bs s w b v e z =
      let go : Gathering → Monitor = λ g. by_report g.report g.state w in
      ap (λ (x : Verdict). cond (is_open x) (go (gathered w.head b)) w) v.live
      ∙ ap (λ (x : State). go (gathered x b)) v.head
      ∙ ap go (sym (gather_admitted_as (seen s) b (sym (seen_admitted s e z))))
      ∙ step_seen (byte_step s.incoming b) s w
      ∙ ap (λ (g : Gathering). by_report g.report (seen g.state) w) (gather_admitted_as s b (sym z))

  -- ---- a whole frame

  -- a monitor that goes on, in the state that it sees
  abbrev pub watching : State → Context → Position → List ℕ → Monitor
  watching s c q d = record { head = seen s; hash = c; position = q; verdict = Open; digest = d }

  -- with f all of a program has come, and its digest is measured
  pub record Weighs (os : List (List ℕ)) (f : List ℕ) (w : Monitor) : Type 0 where
    pub load : Loads m (os ++ f ∷ [])
    pub all_came : length load.blocks ≡ needed load
    pub digest : w.digest ≡ digest_of load.load load.blocks

  -- why the frame f stops a head that has acted on os
  pub data Why (os : List (List ℕ)) (f : List ℕ) (w : Monitor) : Stop → Type 0 where
    why_command : (Waits m os × NotAllowed TakenWaiting f) ⊎ (Misses m os × NotAllowed BlockFrame f) → Why os f w Command
    why_length : (Waits m os × OtherLength TakenWaiting f) ⊎ (Misses m os × OtherLength BlockFrame f) → Why os f w BodyLength
    why_digest : (x : Weighs os f w) → (AllowedOn R (digest_of x.load.load x.load.blocks) → ⊥) → Why os f w Digest

  -- what acting on f and heard_part it lead to
  pub data Agrees (os : List (List ℕ)) (f : List ℕ) (o : Outcome) (w : Monitor) : Type 0 where
    both_go : o.report ≡ continues → w.verdict ≡ Open → w.head ≡ seen o.state
        → ((g : Loads m (os ++ f ∷ [])) → w.hash ≡ hashed (carried g.blocks)) → Agrees os f o w
    both_stop : (k : Stop) → o.report ≡ stopped (stop_number k) → w.verdict ≡ Stopped k → Why os f w k → Agrees os f o w
    both_start : (a n : ℕ) → o.report ≡ started a n → w.verdict ≡ Started → Weighs os f w → Agrees os f o w

  -- the program may start, by what the monitor goes by: types 4 and 5 know no built-in digest
  seen_allows : (s : State) (d : List ℕ) → AsksClient R → allowed (seen s).config d ≡ allowed (config R) d
  unfolding record_at
  seen_allows s d (inl e) = rw e refl
  seen_allows s d (inr e) = rw e refl

  module _ (room ram uds : List ℕ) (fits : length ram ≡ m) (small : m ≤ 131072) (client : AsksClient R) (os : List (List ℕ)) (c : Context) (q : Position)
      (d : List ℕ) where
    -- there is no good load yet
    no_shape : (f : List ℕ) → All (Opens m) os → Opens m f → (g : Loads m (os ++ f ∷ [])) → c ≡ hashed (carried g.blocks)
    no_shape f a o g = absurd (no_load m (os ++ f ∷ []) (all_append (Opens m) os (f ∷ []) a (o, tt)) g.opening g.load g.blocks g.loads g.order)

    abbrev Both : List ℕ → State → Request → Type 0
    Both f s r = Agrees os f (performed r s room ram uds) (frame_heard r (watching s c q d))

    both_load : (f : List ℕ) → All (Opens m) os → LoadFrame f → (i : Incoming) → i.header ∷ i.body ≡ f → Both f (at R i waiting) gives_load
    unfolding after_load load_heard
    both_load f a l i e = go (takes (at R i waiting)) (ap (λ (x : List ℕ). good_load m (load_in x)) (sym e))
      where
        s : State
        s = at R i waiting

        go : (t : Bool) → good_load m (load_in f) ≡ t
            → Agrees os f (replying (load_answer s) (between s (cond t (loaded (load_of s)) s.progress)) room ram uds)
            (cond t (onward (watching s c q d) (loaded (load_of s)) fresh_hash) (onward (watching s c q d) s.progress c))
        go true t =
            both_go refl refl refl (λ g.
            let u = one_shape m os g.opening f g.load [] g.blocks a g.opens (l, t) g.loads g.order in
            hashed_nothing ∙ ap (λ (x : List (List ℕ)). hashed (carried x)) u.2)
        go false t = both_go refl refl refl (no_shape f a (inr (l, t)))

    both_waiting : (f : List ℕ) → All (Opens m) os → (i : Incoming) → (length (body_of f) ≡ 128 → i.header ∷ i.body ≡ f) → (r : Request) → AsksWaiting f r
        → Both f (at R i waiting) r
    both_waiting f a i e r (a_name x) = both_go refl refl refl (no_shape f a (inl x))
    both_waiting f a i e r (a_udi x) = both_go refl refl refl (no_shape f a (inl x))
    both_waiting f a i e r (a_load l) = both_load f a l i (e l.0)
    both_waiting f a i e r (w_command x) = both_stop Command refl refl (why_command (inl (a, x)))
    both_waiting f a i e r (w_length x) = both_stop BodyLength refl refl (why_length (inl (a, x)))

    module _ (g : Loads m os) (due : length g.blocks < blocks_for (size_of g.load)) (held : take (127 * length g.blocks) ram ≡ carried g.blocks)
        (hash : c ≡ hashed (carried g.blocks)) (f : List ℕ) (b : BlockFrame f) where
      abbrev n : ℕ
      n = size_of g.load

      abbrev k : ℕ
      k = length g.blocks

      -- what was hashed, with what the block carries of the program
      abbrev part : List ℕ
      part = take (count_in n k) (carried_by f)

      hash_more : update_context c part ≡ hashed (carried g.blocks ++ part)
      hash_more =
          let l = carried_length g.blocks g.carry in
          let s = load_size m g.load g.loads in
          let j : length part ≤ 127 = rw length-take (omega arith) in
          rw hash (hashed_more (carried g.blocks) part (omega arith))

      -- a block that is not the last carries program bytes only
      hash_block : is_last n k ≡ false → hashed (carried g.blocks ++ part) ≡ hashed (carried (g.blocks ++ f ∷ []))
      hash_block z =
          let j : count_in n k ≡ 127 = protocol.full n k due z in
          let e : part ≡ carried_by f = take_all (count_in n k) (carried_by f) (omega (arith, carries_127 f b)) in
          ap hashed (ap (λ (x : List ℕ). carried g.blocks ++ x) e ∙ sym (carried_snoc g.blocks f))

      -- and with the last all of the program has come, and no padding
      hash_last : is_last n k ≡ true → carried g.blocks ++ part ≡ program_of g.load (g.blocks ++ f ∷ [])
      hash_last z =
          let s = load_size m g.load g.loads in
          let l = carried_length g.blocks g.carry in
          let e : 127 * k + count_in n k ≡ n = protocol.last n k s.0 z in
          sym (take-append-add (carried g.blocks) (carried_by f) (count_in n k))
          ∙ ap (λ (i : ℕ). take i (carried g.blocks ++ carried_by f)) (ap (λ (x : ℕ). x + count_in n k) l ∙ e)
          ∙ ap (take n) (sym (carried_snoc g.blocks f))

      abbrev digest : List ℕ
      digest = digest_of g.load (g.blocks ++ f ∷ [])

      measures : is_last n k ≡ true → finish_output (update_context c part) (zeros 32) ≡ digest
      measures z =
          ap (λ (x : Context). finish_output x (zeros 32)) hash_more ∙ hashed_all (carried g.blocks ++ part) ∙ ap (λ (x : List ℕ). blake2s [] x 32) (hash_last z)

      abbrev weighs : is_last n k ≡ true → (w : Monitor) → w.digest ≡ digest → Weighs os f w
      weighs z w e = record { load = more R room ram uds fits os g due held f b; all_came = all_there R room ram uds fits os g due held f b z; digest = e }

      both_last : (z : is_last n k ≡ true) (i : Incoming) (x y : List ℕ) → x ≡ digest → y ≡ digest → (ram1 : List ℕ)
          → let s = at R i (loaded_with R g.load k) in Agrees os f (finished_with x s room ram1 uds) (measured (watching s c q d) y)
      unfolding finished_with decided starting
      both_last z i x y ex ey ram1 =
          let s = at R i (loaded_with R g.load k) in
          rw (ex, ey, seen_allows s digest client) (go (allowed (config R) digest) refl)
        where
          go : (t : Bool) → allowed (config R) digest ≡ t
              → let s = at R i (loaded_with R g.load k) in
              Agrees os f (replied 129 (put_in room (sent (digest_reply i.header digest))) (cond t (starting (config R) s.progress digest ram1 uds) (ending (stopped 25) m ram1 uds)))
              (record { head = seen s; hash = c; position = q; verdict = cond t Started (Stopped Digest); digest = digest })
          go true e = both_start _ _ refl refl (weighs z _ refl)
          go false e = both_stop Digest refl refl (why_digest (weighs z _ refl) (λ a. never (sym ((allows R digest).1 a) ∙ e)))

      both_block : (i : Incoming) → i.header ∷ i.body ≡ f → Both f (at R i (loaded_with R g.load k)) gives_block
      unfolding acted_block block_heard
      both_block i e = go (is_last n k) refl
        where
          s : State
          s = at R i (loaded_with R g.load k)

          carries : drop 1 i.body ≡ carried_by f
          carries = ap carried_by e

          ram_after : List ℕ
          ram_after = stored_in ram (frame_in s) n k

          context : Context
          context = update_context c (take (count_in n k) (drop 1 i.body))

          context_is : context ≡ update_context c part
          context_is = ap (λ (x : List ℕ). update_context c (take (count_in n k) x)) carries

          go : (t : Bool) → is_last n k ≡ t
              → Agrees os f (cond t (finished s room ram_after uds) (replying (block_reply i.header) (between s (next_block s.progress)) room ram_after uds))
              (cond t (measured (watching s c q d) (finish_output context (zeros 32))) (onward (watching s c q d) (next_block s.progress) context))
          go true z =
              both_last z i _ _
              (ap (λ (x : List ℕ). blake2s [] (take n (paste ram (127 * k) x (count_in n k))) 32) carries
              ∙ ap (λ (x : List ℕ). blake2s [] x 32) (program_in R room ram uds fits os g due held f b z))
              (ap (λ (x : Context). finish_output x (zeros 32)) context_is ∙ measures z) ram_after
          go false z =
              both_go refl refl refl (λ h.
              let u = grows m os (f ∷ []) g h in
              context_is ∙ hash_more ∙ hash_block z ∙ ap (λ (x : List (List ℕ)). hashed (carried x)) u.1)

    both_loading : (g : Loads m os) (due : length g.blocks < blocks_for (size_of g.load)) → take (127 * length g.blocks) ram ≡ carried g.blocks
        → c ≡ hashed (carried g.blocks) → (f : List ℕ) (i : Incoming) → (length (body_of f) ≡ 128 → i.header ∷ i.body ≡ f) → (r : Request) → AsksLoading f r
        → Both f (at R i (loaded_with R g.load (length g.blocks))) r
    both_loading g due t h f i e r (a_block b) = both_block g due t h f b i (e b.0)
    both_loading g due t h f i e r (l_command x) = both_stop Command refl refl (why_command (inr (record { so_far = g; fewer = due }, x)))
    both_loading g due t h f i e r (l_length x) = both_stop BodyLength refl refl (why_length (inr (record { so_far = g; fewer = due }, x)))

    -- ---- the frame that was gathered

    module _ (hash : (g : Loads m os) → c ≡ hashed (carried g.blocks)) where
      doing : (h x : ℕ) (y : List ℕ) → for_firmware (h ∷ x ∷ y) ≡ true → Good (h ∷ x ∷ y) → (p : Progress) → Doing R ram os p
          → Both (h ∷ x ∷ y) (at R (holding (h ∷ x ∷ y)) p) (request_in p.phase x (body_len (header_at h)))
      doing h x y o v p (is_waiting a) =
          rw (held_body R room ram uds fits os h (x ∷ y) v)
          (both_waiting (h ∷ x ∷ y) a (holding (h ∷ x ∷ y)) (held_frame R room ram uds fits os h (x ∷ y) o) _ (asks_waiting (h ∷ x ∷ y)))
      doing h x y o v p (is_loading g due t) =
          rw (held_body R room ram uds fits os h (x ∷ y) v)
          (both_loading g due t (hash g) (h ∷ x ∷ y) (holding (h ∷ x ∷ y)) (held_frame R room ram uds fits os h (x ∷ y) o) _ (asks_loading (h ∷ x ∷ y)))

      pub both : (f : List ℕ) → for_firmware f ≡ true → Good f → (p : Progress) → Doing R ram os p
          → let s = at R (holding f) p in Agrees os f (performed (request_of s) s room ram uds) (frame_heard (request_of s) (watching s c q d))
      both [] o v p x = absurd (good_some v)
      both (h ∷ []) o v p x =
          absurd (let l = length_some h v.id v.ep v.n v.header in let e : 1 ≡ 1 + v.n = v.whole in omega arith)
      both (h ∷ x ∷ y) o v p z =
          subst (λ (k : ℕ). Both (h ∷ x ∷ y) (at R (holding (h ∷ x ∷ y)) p) (request_in p.phase k (body_len (header_at h)))) (sym (first o)) (doing h x y o v p z)
        where
          first : for_firmware (h ∷ x ∷ y) ≡ true → get_or (holding (h ∷ x ∷ y)).body 0 0 ≡ x
          first e = rw e refl
