-- The list of calls, from a head that goes on: where an acting answers a start, the accepted bytes read as those of a start and the last accepted call
-- is an acting, and the other way round; and a gathering answers whole exactly when the bytes end in a whole frame.
use Prim.Native.Nat.{ℕ}
use mathlib.Core.Path.{◌≡◌, refl, sym, ap, ◌∙◌, subst}
use mathlib.Core.Logic.{◌↔◌, ◌⊎◌, inl, inr}
use mathlib.Core.Bool.{Bool, true, false, cond}
use mathlib.Core.List.{List, [], ◌∷◌, ◌++◌, append_assoc, append-nil}
use lib.ListN.{length, get_or}
use Rattle.endian.proofs.Cases.{impossible}
use Rattle.head.specs.Answers.{continues, whole, stopped, started, Gathering, Outcome}
use Rattle.head.specs.Gather.{gather_refusal, gathered}
use Rattle.head.specs.Act.{acted}
use Rattle.head.proofs.Ranges.{never}
use Rattle.head.proofs.Admitted.{gather_admitted, act_admitted}
use Rattle.session.specs.Session.{Reset, Loan, Call, gather, act, Entry, gathers, acts, entry_of, report_in, state_after, Among, log, is_accepted, accepted, gathered_bytes, OneRam, is_acting}
use Rattle.session.specs.Boot.{EndsWhole}
use Rattle.session.proofs.Resets.{ReadsOn}
use Rattle.session.proofs.Acting.{Leaves}
use Rattle.session.proofs.Calls.{ends_whole, Live, Full, not_whole, now_whole, not_live, AfterGather, unfinished, complete, bad_header, whole_exactly, after_gather, AfterAct, goes_on, has_started, has_stopped, after_act}
use Rattle.session.proofs.Entries.{among_first, among_later, among_cases, among_none, last_from, number_of, number_zero, state_kept, nothing_started, nothing_stopped}
use Rattle.head.specs.declared.State.{State}

-- an acting answered a start
pub record Answered (o : Outcome) : Type 0 where
  pub address : ℕ
  pub size : ℕ
  pub answers : o.report ≡ started address size

-- this gathering answers whole exactly when these bytes end in a whole frame
abbrev WholeAt : List ℕ → Gathering → Type 0
WholeAt bs g = (g.report ≡ whole) ↔ EndsWhole bs

-- and each of these does by the bytes up to its own, where bs came before them
abbrev pub Wholes : List ℕ → List Entry → Type 0
Wholes bs [] = Unit {0}
Wholes bs (gathers b g ∷ es) = WholeAt (bs ++ b ∷ []) g × Wholes (bs ++ b ∷ []) es
Wholes bs (acts l o ∷ es) = Wholes bs es

pub wholes_at : (bs : List ℕ) (before after : List Entry) (b : ℕ) (g : Gathering) → Wholes bs (before ++ gathers b g ∷ after)
    → WholeAt ((bs ++ gathered_bytes before) ++ b ∷ []) g
wholes_at bs [] after b g w = subst (λ (x : List ℕ). WholeAt (x ++ b ∷ []) g) (sym (append-nil bs)) w.0
wholes_at bs (gathers c o ∷ before) after b g w =
    subst (λ (x : List ℕ). WholeAt (x ++ b ∷ []) g) (append_assoc bs (c ∷ []) (gathered_bytes before)) (wholes_at (bs ++ c ∷ []) before after b g w.1)
wholes_at bs (acts l o ∷ before) after b g w = wholes_at bs before after b g w

module _ (R : Reset) where
  abbrev m : ℕ
  m = length R.ram

  -- what the accepted calls amount to; the last of them is an acting or not
  pub data Stands (os : List (List ℕ)) (bs : List ℕ) (s : State) (r : List ℕ) (acting : Bool) : Type 0 where
    is_live : Live R os bs s r → Stands os bs s r acting
    is_full : (f : List ℕ) → Full R os f bs s r → acting ≡ false → Stands os bs s r acting

  -- an accepted gathering finds no whole frame, and an accepted acting finds one
  pub gathering : (os : List (List ℕ)) (bs : List ℕ) (s : State) (r : List ℕ) (acting : Bool) (b : ℕ) → Stands os bs s r acting → gather_refusal s ≡ 0
      → AfterGather R os (bs ++ b ∷ []) r (gathered s b)
  gathering os bs s r acting b (is_live v) z = after_gather R os bs s r v b z
  gathering os bs s r acting b (is_full f v n) z = never (sym (now_whole R v) ∙ (gather_admitted s z).unfinished)

  pub acting_on : (os : List (List ℕ)) (bs : List ℕ) (s : State) (r : List ℕ) (acting : Bool) (l : Loan) → Stands os bs s r acting → number_of s (act l) ≡ 0
      → l.ram ≡ r → (f : List ℕ) × Full R os f bs s r × AfterAct R os f bs l (acted s l.room l.ram l.uds)
  acting_on os bs s r acting l (is_live v) z e =
      never (sym (act_admitted s (length l.room) (length l.ram) (length l.uds) z).complete ∙ not_whole R v)
  acting_on os bs s r acting l (is_full f v n) z e = (f, v, after_act R os f bs s l (subst (Full R os f bs s) (sym e) v) z)

  -- the start that an acting answered, where these are the accepted bytes
  pub record StartRead (bs : List ℕ) (l : Loan) (o : Outcome) : Type 0 where
    pub reading : ReadsOn R bs
    pub leaves : Leaves R reading.loading.load reading.loading.blocks (get_or reading.last 0 0) l.room l.uds o
    pub eight : length l.uds ≡ 8

  pub record Walk (acting : Bool) (bs : List ℕ) (es : List Entry) : Type 0 where
    pub only : (l : Loan) (o : Outcome) → Among (acts l o) es → Answered o
        → StartRead (bs ++ gathered_bytes es) l o × (last_from is_acting acting es ≡ true)
    pub whenever : ReadsOn R (bs ++ gathered_bytes es) → last_from is_acting acting es ≡ true
        → (l : Loan) × (o : Outcome) × Among (acts l o) es × Answered o
    pub wholes : Wholes bs es

  no_more : (os : List (List ℕ)) (acting : Bool) (bs : List ℕ) (s : State) (r : List ℕ) → Stands os bs s r acting → Walk acting bs []
  no_more os acting bs s r v = record { only = λ l o i a. absurd (among_none (acts l o) i); whenever = λ d e. absurd (none v d e); wholes = tt }
    where
      none : Stands os bs s r acting → ReadsOn R (bs ++ []) → acting ≡ true → ⊥
      none (is_live v) d e = not_live R v (subst (ReadsOn R) (append-nil bs) d)
      none (is_full f v n) d e = never (sym e ∙ n)

  -- ---- a call, and what the calls after it lead to

  gather_first : (acting : Bool) (bs : List ℕ) (b : ℕ) (g : Gathering) (es : List Entry) → WholeAt (bs ++ b ∷ []) g → Walk false (bs ++ b ∷ []) es
      → Walk acting bs (gathers b g ∷ es)
  gather_first acting bs b g es h w =
      record {
        only = λ l o i a. only l o (among_cases (gathers b g) (acts l o) es i) a;
        whenever = λ d e.
            let t = w.whenever (subst (ReadsOn R) (sym p) d) e in
            (t.0, t.1, among_later (gathers b g) (acts t.0 t.1) es t.2, t.3);
        wholes = (h, w.wholes);
      }
    where
      p : (bs ++ b ∷ []) ++ gathered_bytes es ≡ bs ++ b ∷ gathered_bytes es
      p = append_assoc bs (b ∷ []) (gathered_bytes es)

      only : (l : Loan) (o : Outcome) → (acts l o ≡ gathers b g) ⊎ Among (acts l o) es → Answered o
          → StartRead (bs ++ b ∷ gathered_bytes es) l o × (last_from is_acting false es ≡ true)
      only l o (inl q) a = impossible cc
      only l o (inr j) a = let t = w.only l o j a in (subst (λ (x : List ℕ). StartRead x l o) p t.0, t.1)

  act_first : (acting : Bool) (bs : List ℕ) (l : Loan) (o : Outcome) (es : List Entry) → o.report ≡ continues → Walk true bs es
      → Walk acting bs (acts l o ∷ es)
  act_first acting bs l o es r w =
      record {
        only = λ k x i a. only k x (among_cases (acts l o) (acts k x) es i) a;
        whenever = λ d e. let t = w.whenever d e in (t.0, t.1, among_later (acts l o) (acts t.0 t.1) es t.2, t.3);
        wholes = w.wholes;
      }
    where
      only : (k : Loan) (x : Outcome) → (acts k x ≡ acts l o) ⊎ Among (acts k x) es → Answered x
          → StartRead (bs ++ gathered_bytes es) k x × (last_from is_acting true es ≡ true)
      only k x (inl q) a =
          let t : started a.address a.size ≡ continues = sym a.answers ∙ ap report_in q ∙ r in
          impossible cc
      only k x (inr j) a = w.only k x j a

  start_last : (acting : Bool) (bs : List ℕ) (l : Loan) (o : Outcome) → StartRead bs l o → Walk acting bs (acts l o ∷ [])
  start_last acting bs l o b =
      record {
        only = λ k x i a. only k x (among_cases (acts l o) (acts k x) [] i);
        whenever = λ d e. (l, o, among_first (acts l o) [], record { address = _; size = _; answers = b.leaves.report });
        wholes = tt;
      }
    where
      only : (k : Loan) (x : Outcome) → (acts k x ≡ acts l o) ⊎ Among (acts k x) [] → StartRead (bs ++ []) k x × (◌≡◌ {A = Bool} true true)
      only k x (inl q) = let el : k ≡ l = cc in let eo : x ≡ o = cc in (rw (append-nil bs, el, eo) b, refl)
      only k x (inr j) = absurd (among_none (acts k x) j)

  stop_last : (acting : Bool) (bs : List ℕ) (e : Entry) (k : ℕ) → report_in e ≡ stopped k → (ReadsOn R (bs ++ gathered_bytes (e ∷ [])) → ⊥)
      → Wholes bs (e ∷ []) → Walk acting bs (e ∷ [])
  stop_last acting bs e k r z h =
      record { only = λ l o i a. only l o (among_cases e (acts l o) [] i) a; whenever = λ d q. absurd (z d); wholes = h }
    where
      only : (l : Loan) (o : Outcome) → (acts l o ≡ e) ⊎ Among (acts l o) [] → Answered o
          → StartRead (bs ++ gathered_bytes (e ∷ [])) l o × (is_acting e ≡ true)
      only l o (inl q) a =
          let t : started a.address a.size ≡ stopped k = sym a.answers ∙ ap report_in q ∙ r in
          impossible cc
      only l o (inr j) a = absurd (among_none (acts l o) j)

  -- ---- the list

  abbrev Rest : List Call → Type 0
  Rest cs = (os : List (List ℕ)) (acting : Bool) (bs : List ℕ) (s : State) (r : List ℕ) → Stands os bs s r acting → OneRam r (accepted (log s cs))
      → Walk acting bs (accepted (log s cs))

  -- only an accepted call counts
  module _ (c : Call) (cs : List Call) (rest : Rest cs) (os : List (List ℕ)) (acting : Bool) (bs : List ℕ) (s : State) (r : List ℕ)
      (v : Stands os bs s r acting) where
    abbrev later : List Entry
    later = accepted (log (state_after (entry_of s c)) cs)

    by_accepted : (is_accepted (report_in (entry_of s c)) ≡ true → OneRam r (entry_of s c ∷ later) → Walk acting bs (entry_of s c ∷ later))
        → OneRam r (accepted (log s (c ∷ cs))) → Walk acting bs (accepted (log s (c ∷ cs)))
    by_accepted f = go (is_accepted (report_in (entry_of s c))) refl
      where
        go : (t : Bool) → is_accepted (report_in (entry_of s c)) ≡ t → OneRam r (cond t (entry_of s c ∷ later) later)
            → Walk acting bs (cond t (entry_of s c ∷ later) later)
        go true e = f e
        go false e =
            subst (λ (t : State). OneRam r (accepted (log t cs)) → Walk acting bs (accepted (log t cs))) (sym (state_kept s c e)) (rest os acting bs s r v)

  gather_next : (b : ℕ) (cs : List Call) → Rest cs → Rest (gather b ∷ cs)
  gather_next b cs rest os acting bs s r v =
      by_accepted (gather b) cs rest os acting bs s r v (λ t.
      let a = gathering os bs s r acting b v (number_zero s (gather b) t) in
      after (gathered s b) a (whole_exactly R a))
    where
      after : (g : Gathering) → AfterGather R os (bs ++ b ∷ []) r g → WholeAt (bs ++ b ∷ []) g → OneRam r (accepted (log g.state cs))
          → Walk acting bs (gathers b g ∷ accepted (log g.state cs))
      after g (unfinished e u n) h one = gather_first acting bs b g _ h (rest os false (bs ++ b ∷ []) g.state r (is_live u) one)
      after g (complete e f u) h one = gather_first acting bs b g _ h (rest os false (bs ++ b ∷ []) g.state r (is_full f u refl) one)
      after g (bad_header e q z) h one =
          let no_end : EndsWhole (bs ++ b ∷ []) → ⊥ = λ w. let p : stopped 22 ≡ whole = sym e ∙ h.1 w in impossible cc in
          rw (nothing_stopped g.state m cs q) (stop_last acting bs (gathers b g) 22 e (λ d. no_end (ends_whole d)) (h, tt))

  act_next : (l : Loan) (cs : List Call) → Rest cs → Rest (act l ∷ cs)
  act_next l cs rest os acting bs s r v =
      by_accepted (act l) cs rest os acting bs s r v (λ t one.
      let z = number_zero s (act l) t in
      let a = acting_on os bs s r acting l v z one.0 in
      after _ a.0 a.2 (act_admitted s (length l.room) (length l.ram) (length l.uds) z).words one.1)
    where
      after : (o : Outcome) (f : List ℕ) → AfterAct R os f bs l o → length l.uds ≡ 8 → OneRam o.ram (accepted (log o.state cs))
          → Walk acting bs (acts l o ∷ accepted (log o.state cs))
      after o f (goes_on e u n x) w one = act_first acting bs l o _ e (rest (os ++ f ∷ []) true bs o.state o.ram (is_live u) one)
      after o f (has_started d x z) w one =
          rw (nothing_started o.state m cs x.state) (start_last acting bs l o (record { reading = d; leaves = x; eight = w }))
      after o f (has_stopped k e q z) w one = rw (nothing_stopped o.state m cs q) (stop_last acting bs (acts l o) k e (z []) tt)

  pub walk : (cs : List Call) → Rest cs
  walk [] = λ os acting bs s r v one. no_more os acting bs s r v
  walk (gather b ∷ cs) = gather_next b cs (walk cs)
  walk (act l ∷ cs) = act_next l cs (walk cs)
