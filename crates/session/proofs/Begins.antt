-- What begin does and when, the state that a session begins with, and the table of refusals from it on.
use Prim.Native.Nat.{ℕ, zero, suc, ◌≤◌}
use mathlib.Core.Path.{◌≡◌, refl, sym, ap, ◌∙◌, subst}
use mathlib.Core.Logic.{◌↔◌, ◌⊎◌, inl, inr}
use mathlib.Core.Bool.{Bool, true, false, not, cond, ◌||◌}
use mathlib.Core.List.{List, [], ◌∷◌, ◌++◌, head-eq_of_cons-eq, tail-eq_of_cons-eq}
use native.Mathlib.Omega.{arith}
use lib.Dec.{eqb}
use lib.ListN.{length}
use borrow.Author.Tests.{eqb-true, eqb-false, eq-eqb, le-leb, le-ltb}
use Rattle.endian.proofs.Cases.{impossible}
use Rattle.record.specs.Record.{known_type, record_at}
use Rattle.record.specs.Types.{source_of}
use Rattle.protocol.specs.Replies.{put_in}
use Rattle.head.specs.State.{is_whole, in_range, live, idle, of_size, ended}
use Rattle.head.specs.Answers.{Report, refused, continues, whole, stopped, started, Result, Outcome}
use Rattle.head.specs.Start.{unstarted, ending, allowed, starting, decided}
use Rattle.head.specs.Begin.{Flash, fits, config_of, waiting, waiting_with, from_flash, by_source, by_type, begin_refusal, beginning}
use Rattle.head.specs.Theorems.{GatherProperties, ActProperties}
use Rattle.head.specs.Gather.{gather_refusal, gathered}
use Rattle.head.specs.Act.{act_refusal, acted}
use Rattle.head.proofs.Ranges.{never, by_test, fit_facts, length_facts}
use Rattle.head.proofs.Admitted.{begin_admitted, act_admitted}
use Rattle.head.proofs.Proved.{head_theorems}
use Rattle.session.specs.Reading.{type_of}
use Rattle.session.specs.Session.{Reset, begun, AsksFlash, AsksClient, Admitted, Call, gather, act, Entry, acts, entry_of, call_of, report_in, state_after, log, is_accepted, accepted, is_end, has_ended, completes, refusal_in}
use Rattle.session.specs.Boot.{digest, chosen, flash_basis, Fits, FlashAllowed}
use Rattle.session.proofs.Resets.{config, allows}
use Rattle.session.proofs.Gathering.{is_part}
use Rattle.session.proofs.Acting.{at}
use Rattle.session.proofs.Entries.{last_from, number_of, call_refuses, number_zero}
use Rattle.head.specs.declared.Phase.{Phase}
use Rattle.head.specs.declared.Phase.TheVariants as phase
use Rattle.head.specs.declared.Config.{Config}
use Rattle.head.specs.declared.State.{State}

-- ---- begin

is_false : (t : Bool) → (t ≡ true → ⊥) → t ≡ false
is_false true n = absurd (n refl)
is_false false n = refl

-- by the type of the record, where a begin is not refused
module _ (f : Flash) (c : Config) (ram uds : List ℕ) (P : Result → Type 0) where
  by_type_is : (t : ℕ) → (t ≤ 3 → P (from_flash (cond (eqb t 0 || eqb t 2) f.slot0 f.slot1) c ram uds))
      → ((t ≡ 4) ⊎ (t ≡ 5) → P (waiting_with c ram uds))
      → (6 ≤ t → P (ending (stopped 20) c.ram_len ram uds))
      → P (by_source (source_of (known_type t)) f c ram uds)
  by_type_is zero x y z = x (omega arith)
  by_type_is (suc zero) x y z = x (omega arith)
  by_type_is (suc (suc zero)) x y z = x (omega arith)
  by_type_is (suc (suc (suc zero))) x y z = x (omega arith)
  by_type_is (suc (suc (suc (suc zero)))) x y z = y (inl refl)
  by_type_is (suc (suc (suc (suc (suc zero))))) x y z = y (inr refl)
  by_type_is (suc (suc (suc (suc (suc (suc n)))))) x y z =
      let h : 6 ≤ suc (suc (suc (suc (suc (suc n))))) = omega arith in
      rw (le-ltb (suc (suc (suc (suc (suc (suc n)))))) 6 h) (z h)

module _ (R : Reset) where
  -- the number that begin is refused with, 0 for none
  abbrev number : ℕ
  number = begin_refusal (length R.rec) (length R.ram) (length R.uds)

  admitted : number ≡ 0 → Admitted R
  admitted e =
      let a = begin_admitted (length R.rec) (length R.ram) (length R.uds) e in
      let b = length_facts (length R.ram) a.2 in
      record { eight = a.0; record_length = a.1; ram_some = b.0; ram_small = b.1 }

  pub not_refused : Admitted R → number ≡ 0
  not_refused a =
      let m = length R.ram in
      rw (eq-eqb (length R.uds) 8 a.eight, eq-eqb (length R.rec) 256 a.record_length, le-leb 1 m a.ram_some, le-leb m 131072 a.ram_small)

  -- the size of the program in the chosen slot
  abbrev fitting : Bool
  fitting = fits (chosen R).size (length (chosen R).bytes) (length R.ram)

  pub does_fit : Fits R → fitting ≡ true
  does_fit f =
      let n = (chosen R).size in
      let some : 1 ≤ n = omega (arith, f.not_empty) in
      let in_slot : n ≤ length (chosen R).bytes = omega (arith, f.in_slot) in
      let in_ram : n ≤ length R.ram = omega (arith, f.in_ram) in
      rw (le-leb 1 n some, le-leb n (length (chosen R).bytes) in_slot, le-leb n (length R.ram) in_ram)

  it_fits : fitting ≡ true → Fits R
  it_fits e =
      let g = fit_facts (chosen R).size (length (chosen R).bytes) (length R.ram) e in
      record { not_empty = omega (arith, g.0); in_slot = omega (arith, g.1); in_ram = omega (arith, g.2) }

  -- what begin settles where it starts that program, and where it does not
  abbrev pub booted : Result
  booted = starting (config R) (of_size phase.Loading (chosen R).size) (digest (flash_basis R)) (put_in R.ram (flash_basis R).program) R.uds

  abbrev pub halted : ℕ → List ℕ → Result
  halted k ram = ending (stopped k) (length R.ram) ram R.uds

  -- what begin does, and when
  pub data Begins : Result → Type 0 where
    refuses : (k : ℕ) → (Admitted R → ⊥) → Begins (ending (refused k) 1 R.ram R.uds)
    waits : Admitted R → AsksClient R → Begins (waiting_with (config R) R.ram R.uds)
    boots : Admitted R → AsksFlash R → Fits R → FlashAllowed R → Begins booted
    halts_20 : Admitted R → 6 ≤ type_of R.rec → Begins (halted 20 R.ram)
    halts_25 : Admitted R → AsksFlash R → Fits R → (FlashAllowed R → ⊥) → Begins (halted 25 (put_in R.ram (flash_basis R).program))
    halts_26 : Admitted R → AsksFlash R → (Fits R → ⊥) → Begins (halted 26 R.ram)

  flash_begins : Admitted R → AsksFlash R → Begins (from_flash (chosen R) (config R) R.ram R.uds)
  unfolding from_flash decided
  flash_begins a q =
      let x = allows R (digest (flash_basis R)) in
      by_test Begins fitting _ _
      (λ f.
      by_test Begins (allowed (config R) (digest (flash_basis R))) _ _
      (λ t. boots a q (it_fits f) (x.0 t))
      (λ t. halts_25 a q (it_fits f) (λ y. never (sym (x.1 y) ∙ t))))
      (λ f. halts_26 a q (λ y. never (sym (does_fit y) ∙ f)))

  pub begins : Begins (begun R)
  unfolding beginning record_at
  begins =
      by_test Begins (eqb number 0) _ _
      (λ z.
      let a = admitted (eqb-true number 0 z) in
      by_type_is R.flash (config R) R.ram R.uds Begins (type_of R.rec) (flash_begins a) (waits a) (halts_20 a))
      (λ z. refuses number (λ a. eqb-false number 0 z (not_refused a)))

  -- ---- and the same from what is asked for

  admitted_begun : Admitted R → begun R ≡ by_source (source_of (known_type (type_of R.rec))) R.flash (config R) R.ram R.uds
  unfolding beginning record_at
  admitted_begun a = rw (not_refused a)

  by_kind : (x : Result) → Admitted R → (AsksFlash R → from_flash (chosen R) (config R) R.ram R.uds ≡ x)
      → (AsksClient R → waiting_with (config R) R.ram R.uds ≡ x) → (6 ≤ type_of R.rec → halted 20 R.ram ≡ x) → begun R ≡ x
  by_kind x a f w u = admitted_begun a ∙ by_type_is R.flash (config R) R.ram R.uds (λ (y : Result). y ≡ x) (type_of R.rec) f w u

  no_client : AsksFlash R → AsksClient R → ⊥
  no_client h (inl e) = omega arith
  no_client h (inr e) = omega arith

  client_known : AsksClient R → type_of R.rec ≤ 5
  client_known (inl e) = omega arith
  client_known (inr e) = omega arith

  pub client_waits : Admitted R → AsksClient R → begun R ≡ waiting_with (config R) R.ram R.uds
  client_waits a c = by_kind _ a (λ t. absurd (no_client t c)) (λ d. refl) (λ t. let k = client_known c in absurd (omega arith))

  pub unknown_halts : Admitted R → 6 ≤ type_of R.rec → begun R ≡ halted 20 R.ram
  unknown_halts a u = by_kind _ a (λ t. absurd (omega arith)) (λ d. let k = client_known d in absurd (omega arith)) (λ t. refl)

  flash_begun : Admitted R → AsksFlash R → begun R ≡ from_flash (chosen R) (config R) R.ram R.uds
  flash_begun a q = by_kind _ a (λ t. refl) (λ c. absurd (no_client q c)) (λ t. absurd (omega arith))

  pub flash_boots : Admitted R → AsksFlash R → Fits R → FlashAllowed R → begun R ≡ booted
  unfolding from_flash decided
  flash_boots a q f d = flash_begun a q ∙ rw (does_fit f, (allows R (digest (flash_basis R))).1 d)

  pub flash_differs : Admitted R → AsksFlash R → Fits R → (FlashAllowed R → ⊥) → begun R ≡ halted 25 (put_in R.ram (flash_basis R).program)
  unfolding from_flash decided
  flash_differs a q f n =
      let e : allowed (config R) (digest (flash_basis R)) ≡ false = is_false _ (λ t. n ((allows R (digest (flash_basis R))).0 t)) in
      flash_begun a q ∙ rw (does_fit f, e)

  pub flash_unfit : Admitted R → AsksFlash R → (Fits R → ⊥) → begun R ≡ halted 26 R.ram
  unfolding from_flash
  flash_unfit a q n = let e : fitting ≡ false = is_false _ (λ t. n (it_fits t)) in flash_begun a q ∙ rw e

-- the state that a session begins with
pub record Fresh (R : Reset) : Type 0 where
  pub state : (begun R).state ≡ at R idle waiting
  pub lent : Admitted R

pub begin_accepted : (R : Reset) → (is_accepted (begun R).report ≡ true) ↔ Admitted R
unfolding starting
begin_accepted R = (only (begun R) (begins R), λ a. whenever a (begun R) (begins R))
  where
    only : (x : Result) → Begins R x → is_accepted x.report ≡ true → Admitted R
    only x (refuses k n) e = never (sym e)
    only x (waits a c) e = a
    only x (boots a q f d) e = a
    only x (halts_20 a u) e = a
    only x (halts_25 a q f n) e = a
    only x (halts_26 a q n) e = a

    whenever : Admitted R → (x : Result) → Begins R x → is_accepted x.report ≡ true
    whenever a x (refuses k n) = absurd (n a)
    whenever a x (waits l c) = refl
    whenever a x (boots l q f d) = refl
    whenever a x (halts_20 l u) = refl
    whenever a x (halts_25 l q f n) = refl
    whenever a x (halts_26 l q n) = refl

pub begin_waits : (R : Reset) → ((begun R).report ≡ continues) ↔ (Admitted R × AsksClient R)
unfolding starting
begin_waits R = (only (begun R) (begins R), λ h. ap (λ (x : Result). x.report) (client_waits R h.0 h.1))
  where
    only : (x : Result) → Begins R x → x.report ≡ continues → Admitted R × AsksClient R
    only x (refuses k n) e = impossible cc
    only x (waits a c) e = (a, c)
    only x (boots a q f d) e = impossible cc
    only x (halts_20 a u) e = impossible cc
    only x (halts_25 a q f n) e = impossible cc
    only x (halts_26 a q n) e = impossible cc

pub fresh : (R : Reset) → is_accepted (begun R).report ≡ true → AsksClient R → Fresh R
fresh R e c =
    let a = (begin_accepted R).0 e in
    record { state = ap (λ (y : Result). y.state) (client_waits R a c); lent = a }

-- ---- where a client program is asked for

-- the report and the state: nothing of flash is in them
abbrev settled : List ℕ → List ℕ → ℕ → ℕ → Result
settled rec udi m w =
    let k = begin_refusal (length rec) m w in
    cond (eqb k 0) (waiting_with (config_of (record_at rec) udi [] m) [] []) (ending (refused k) 1 [] [])

client_begun : (R : Reset) → AsksClient R
    → let x = settled R.rec R.udi (length R.ram) (length R.uds) in begun R ≡ unstarted x.report x.state R.ram R.uds
unfolding beginning record_at
client_begun R c = go (eqb (number R) 0) c
  where
    client_config : Config
    client_config = config_of (record_at R.rec) R.udi [] (length R.ram)

    go : (t : Bool) → AsksClient R
        → let x : Result = cond t (waiting_with client_config [] []) (ending (refused (number R)) 1 [] []) in
        cond t (by_type (record_at R.rec) R.udi R.flash R.ram R.uds) (ending (refused (number R)) 1 R.ram R.uds)
        ≡ unstarted x.report x.state R.ram R.uds
    go true (inl e) = rw e refl
    go true (inr e) = rw e refl
    go false c = refl

pub client_digests : (R : Reset) → Admitted R → AsksClient R → (begun R).state.config.digests ≡ (record_at R.rec).digests
unfolding record_at
client_digests R a c = ap (λ (x : Result). x.state.config.digests) (client_waits R a c) ∙ own c
  where
    own : AsksClient R → (config R).digests ≡ (record_at R.rec).digests
    own (inl e) = rw e refl
    own (inr e) = rw e refl

pub client_begins : (R R' : Reset) → AsksClient R → R'.rec ≡ R.rec → R'.udi ≡ R.udi → length R'.ram ≡ length R.ram
    → length R'.uds ≡ length R.uds → begun R' ≡ unstarted (begun R).report (begun R).state R'.ram R'.uds
client_begins R R' c er eu em ew = let c' : AsksClient R' = rw er c in rw (client_begun R' c', client_begun R c, er, eu, em, ew)

-- ---- refusals

-- whether the head has ended after a call, and whether a frame is whole
abbrev pub over_after : Bool → Entry → Bool
over_after over e = is_end (report_in e) || over

abbrev pub full_after : Bool → Entry → Bool
full_after full e = cond (is_accepted (report_in e)) (completes e) full

or_moves : (x y z : Bool) → x || (y || z) ≡ (y || x) || z
or_moves true true z = refl
or_moves true false z = refl
or_moves false true z = refl
or_moves false false z = refl

-- the last of the accepted calls, where e is the first call
last_moves : (e : Entry) (es : List Entry) (full : Bool) → last_from completes (full_after full e) (accepted es) ≡ last_from completes full (accepted (e ∷ es))
last_moves e es full = go (is_accepted (report_in e))
  where
    go : (t : Bool) → last_from completes (cond t (completes e) full) (accepted es) ≡ last_from completes full (cond t (e ∷ accepted es) (accepted es))
    go true = refl
    go false = refl

call_of_is : (s : State) (c : Call) → call_of (entry_of s c) ≡ c
call_of_is s (gather b) = refl
call_of_is s (act l) = refl

module _ (m : ℕ) where
  -- the head is in range, was begun with m bytes of RAM, has ended or not, and holds a whole frame or none
  pub record Runs (s : State) (over full : Bool) : Type 0 where
    pub range : in_range s ≡ true
    pub ram : s.config.ram_len ≡ m
    pub goes : live s.progress.phase ≡ not over
    pub holds : is_whole s.incoming ≡ full

  pub number_is : (s : State) (over full : Bool) (c : Call) → Runs s over full → number_of s c ≡ refusal_in over full m c
  unfolding gather_refusal act_refusal
  number_is s true full (gather b) v = rw (v.range, v.goes)
  number_is s false full (gather b) v = rw (v.range, v.goes, v.holds)
  number_is s true full (act l) v = rw (v.range, v.goes)
  number_is s false full (act l) v = rw (v.range, v.goes, v.holds, v.ram)

  ended_runs : (s : State) (p : Phase) → live p ≡ false → in_range s ≡ true → s ≡ ended p m → Runs s true false
  unfolding ended
  ended_runs s p n r e =
      record {
        range = r;
        ram = ap (λ (t : State). t.config.ram_len) e;
        goes = ap (λ (t : State). live t.progress.phase) e ∙ n;
        holds = ap (λ (t : State). is_whole t.incoming) e ∙ is_part [] tt;
      }

  pub next_runs : (s : State) (over full : Bool) (c : Call) → Runs s over full
      → Runs (state_after (entry_of s c)) (over_after over (entry_of s c)) (full_after full (entry_of s c))
  next_runs s over full (gather b) v = go (gathered s b).report refl
    where
      l : GatherProperties s b
      l = head_theorems.gather s b

      same : ((gathered s b).report ≡ continues) ⊎ ((gathered s b).report ≡ whole) → (t : Bool) → is_whole (gathered s b).state.incoming ≡ t
          → Runs (gathered s b).state over t
      same e t w =
          let q = l.goes_on e in
          record {
            range = l.stays v.range;
            ram = ap (λ (t : State). t.config.ram_len) q ∙ v.ram;
            goes = ap (λ (t : State). live t.progress.phase) q ∙ v.goes;
            holds = w;
          }

      go : (x : Report) → (gathered s b).report ≡ x → Runs (gathered s b).state (over_after over (entry_of s (gather b))) (full_after full (entry_of s (gather b)))
      go (refused k) e = rw (e, l.kept k e) v
      go continues e = rw e (same (inl e) false (l.not_whole e))
      go whole e = rw e (same (inr e) true (l.has_whole e))
      go (stopped k) e = rw e (ended_runs _ phase.Stopped refl (l.stays v.range) ((l.stops k e).1 ∙ ap (ended phase.Stopped) v.ram))
      go (started a n) e = absurd (l.no_start a n e)
  next_runs s over full (act x) v = go out.report refl
    where
      out : Outcome
      out = acted s x.room x.ram x.uds

      l : ActProperties s x.room x.ram x.uds
      l = head_theorems.act s x.room x.ram x.uds

      -- an accepted acting is one of a head that has not ended
      live_before : is_accepted out.report ≡ true → live s.progress.phase ≡ true
      live_before t = (act_admitted s (length x.room) (length x.ram) (length x.uds) (number_zero s (act x) t)).goes

      go : (y : Report) → out.report ≡ y → Runs out.state (over_after over (acts x out)) (full_after full (acts x out))
      go (refused k) e = rw (e, l.kept k e) v
      go continues e =
          let g = l.goes_on e in
          rw e (record {
            range = l.stays v.range;
            ram = ap (λ (c : Config). c.ram_len) g.2 ∙ v.ram;
            goes = l.lives e ∙ sym (live_before (ap is_accepted e)) ∙ v.goes;
            holds = ap is_whole g.1 ∙ is_part [] tt;
          })
      go whole e = absurd (l.no_whole e)
      go (stopped k) e = rw e (ended_runs _ phase.Stopped refl (l.stays v.range) ((l.stops k e).2 ∙ ap (ended phase.Stopped) v.ram))
      go (started a n) e = rw e (ended_runs _ phase.Started refl (l.stays v.range) ((l.starts a n e).2 ∙ ap (ended phase.Started) v.ram))

  -- e is refused as the table says
  abbrev Tabled : Bool → Bool → Entry → Type 0
  Tabled over full e = (k : ℕ) → (report_in e ≡ refused k) ↔ ((k ≡ refusal_in over full m (call_of e)) × (k ≡ 0 → ⊥))

  first_tabled : (s : State) (over full : Bool) (c : Call) → Runs s over full → Tabled over full (entry_of s c)
  first_tabled s over full c v k =
      subst (λ (j : ℕ). (report_in (entry_of s c) ≡ refused k) ↔ ((k ≡ j) × (k ≡ 0 → ⊥)))
      (number_is s over full c v ∙ ap (refusal_in over full m) (sym (call_of_is s c))) (call_refuses s c k)

  pub table_from : (cs : List Call) (s : State) (over full : Bool) → Runs s over full → (before after : List Entry) (e : Entry) → log s cs ≡ before ++ e ∷ after
      → Tabled (has_ended before || over) (last_from completes full (accepted before)) e
  table_from [] s over full v [] after e q = impossible cc
  table_from [] s over full v (x ∷ before) after e q = impossible cc
  table_from (c ∷ cs) s over full v [] after e q = subst (Tabled over full) (head-eq_of_cons-eq q) (first_tabled s over full c v)
  table_from (c ∷ cs) s over full v (x ∷ before) after e q =
      let p : entry_of s c ≡ x = head-eq_of_cons-eq q in
      let t = table_from cs (state_after (entry_of s c)) _ _ (next_runs s over full c v) before after e (tail-eq_of_cons-eq q) in
      subst (λ (y : Entry). Tabled (has_ended (y ∷ before) || over) (last_from completes full (accepted (y ∷ before))) e) p
      (rw (← or_moves (has_ended before) (is_end (report_in (entry_of s c))) over, ← last_moves (entry_of s c) before full) t)
