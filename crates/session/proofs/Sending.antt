-- Bytes gathered one after the other, where each whole frame is acted on at once, with the RAM that the acting before it left: if the bytes read as those
-- of a start, no call is refused.
use Prim.Native.Nat.{ℕ}
use mathlib.Core.Path.{◌≡◌, refl, sym, ap, ◌∙◌, subst}
use mathlib.Core.Logic.{◌⊎◌, inl, inr}
use mathlib.Core.Bool.{Bool, true, false, cond}
use mathlib.Core.List.{List, [], ◌∷◌, ◌++◌, append_assoc, append-nil}
use lib.ListN.{length}
use borrow.Author.Tests.{eq-eqb}
use Rattle.endian.proofs.Cases.{impossible}
use Rattle.endian.specs.Lists.{zeros, Words}
use Rattle.head.specs.Answers.{reports_whole, Gathering, Outcome}
use Rattle.head.specs.Gather.{gathered}
use Rattle.head.specs.Act.{acted}
use Rattle.session.specs.Session.{Reset, Loan, Call, gather, act, Entry, gathers, acts, Among, log, is_accepted, accepted, gathered_bytes, OneRam, is_acting}
use Rattle.session.proofs.Resets.{ReadsOn}
use Rattle.session.proofs.Calls.{ends_whole, Live, not_live, AfterGather, unfinished, complete, bad_header, after_gather, AfterAct, goes_on, has_started, has_stopped, after_act}
use Rattle.session.proofs.Entries.{among_cases, among_none, last_from, number_of, call_taken}
use Rattle.session.proofs.Begins.{Runs, number_is, over_after, full_after, next_runs}
use Rattle.head.specs.declared.State.{State}

module _ (uds : List ℕ) (typed : Words uds) where
  abbrev pub lending : List ℕ → Loan
  lending r = record { room = zeros 129; ram = r; uds = uds; words = typed }

  abbrev pub acting : State → List ℕ → Outcome
  acting s r = acted s (zeros 129) r uds

  -- the calls for these bytes, from a state and the RAM that the last acting left
  abbrev pub calls_for : List ℕ → State → List ℕ → List Call
  calls_for [] s r = []
  calls_for (b ∷ bs) s r =
      let g = gathered s b in
      let o = acting g.state r in
      gather b ∷ cond (reports_whole g.report) (act (lending r) ∷ calls_for bs o.state o.ram) (calls_for bs g.state r)

  -- calls that gather bs, from RAM r on and after an acting or not: none is refused, and the last is an acting
  pub record AllAccepted (bs r : List ℕ) (t : Bool) (es : List Entry) : Type 0 where
    pub none_refused : accepted es ≡ es
    pub all_bytes : gathered_bytes es ≡ bs
    pub one_ram : OneRam r es
    pub acted_on : last_from is_acting t es ≡ true
    pub same_uds : (l : Loan) (o : Outcome) → Among (acts l o) es → l.uds ≡ uds

  gather_first : (bs r : List ℕ) (t : Bool) (b : ℕ) (g : Gathering) (es : List Entry) → is_accepted g.report ≡ true → AllAccepted bs r false es
      → AllAccepted (b ∷ bs) r t (gathers b g ∷ es)
  gather_first bs r t b g es e a =
      record {
        none_refused = rw (e, a.none_refused);
        all_bytes = ap (λ (x : List ℕ). b ∷ x) a.all_bytes;
        one_ram = a.one_ram;
        acted_on = a.acted_on;
        same_uds = λ l o i. same l o (among_cases (gathers b g) (acts l o) es i);
      }
    where
      same : (l : Loan) (o : Outcome) → (acts l o ≡ gathers b g) ⊎ Among (acts l o) es → l.uds ≡ uds
      same l o (inl q) = impossible cc
      same l o (inr j) = a.same_uds l o j

  act_first : (bs r : List ℕ) (t : Bool) (x : Outcome) (es : List Entry) → is_accepted x.report ≡ true → AllAccepted bs x.ram true es
      → AllAccepted bs r t (acts (lending r) x ∷ es)
  act_first bs r t x es e a =
      record {
        none_refused = rw (e, a.none_refused);
        all_bytes = a.all_bytes;
        one_ram = (refl, a.one_ram);
        acted_on = a.acted_on;
        same_uds = λ l o i. same l o (among_cases (acts (lending r) x) (acts l o) es i);
      }
    where
      same : (l : Loan) (o : Outcome) → (acts l o ≡ acts (lending r) x) ⊎ Among (acts l o) es → l.uds ≡ uds
      same l o (inl q) = let k : l ≡ lending r = cc in ap (λ (y : Loan). y.uds) k
      same l o (inr j) = a.same_uds l o j

  no_more : (r : List ℕ) → AllAccepted [] r true []
  no_more r = record { none_refused = refl; all_bytes = refl; one_ram = tt; acted_on = refl; same_uds = λ l o i. absurd (among_none (acts l o) i) }

  module _ (R : Reset) (eight : length uds ≡ 8) where
    abbrev m : ℕ
    m = length R.ram

    -- what the calls for the bytes after these lead to
    abbrev Rest : List ℕ → Type 0
    Rest bs = (os : List (List ℕ)) (before : List ℕ) (s : State) (r : List ℕ) (t : Bool) → Live R os before s r → Runs m s false false → length r ≡ m
        → ReadsOn R (before ++ bs) → AllAccepted bs r t (log s (calls_for bs s r))

    acted_first : (bs before r : List ℕ) → ReadsOn R (before ++ bs) → Rest bs → (os : List (List ℕ)) (f : List ℕ) (t : Bool) (o : Outcome)
        → is_accepted o.report ≡ true → Runs m o.state (over_after false (acts (lending r) o)) (full_after true (acts (lending r) o))
        → AfterAct R os f before (lending r) o → AllAccepted bs r t (acts (lending r) o ∷ log o.state (calls_for bs o.state o.ram))
    acted_first bs before r w rest os f t o e x (goes_on q u n p) =
        act_first bs r t o _ e (rest (os ++ f ∷ []) before o.state o.ram true u (rw q at x) n w)
    acted_first bs before r w rest os f t o e x (has_started d l z) = act_first bs r t o _ e (rw (z bs w) (no_more o.ram))
    acted_first bs before r w rest os f t o e x (has_stopped k q p z) = absurd (z bs w)

    module _ (b : ℕ) (bs before r : List ℕ) (w : ReadsOn R ((before ++ b ∷ []) ++ bs)) (rest : Rest bs) (fits : length r ≡ m) where
      -- the gathering g of b and the calls after it, where b makes a frame whole or not
      abbrev from : Gathering → Bool → List Entry
      from g y =
          let o = acting g.state r in
          gathers b g ∷ log g.state (cond y (act (lending r) ∷ calls_for bs o.state o.ram) (calls_for bs g.state r))

      gathered_first : (os : List (List ℕ)) (t : Bool) (g : Gathering) → is_accepted g.report ≡ true
          → Runs m g.state (over_after false (gathers b g)) (full_after false (gathers b g)) → AfterGather R os (before ++ b ∷ []) r g
          → AllAccepted (b ∷ bs) r t (from g (reports_whole g.report))
      gathered_first os t g e x (unfinished q u n) =
          subst (λ (y : Bool). AllAccepted (b ∷ bs) r t (from g y)) (sym (ap reports_whole q))
          (gather_first bs r t b g _ e (rest os (before ++ b ∷ []) g.state r false u (rw q at x) fits w))
      gathered_first os t g e x (complete q f u) =
          let y : Runs m g.state false true = rw q at x in
          let z : number_of g.state (act (lending r)) ≡ 0 =
          number_is m g.state false true (act (lending r)) y ∙ rw (eq-eqb (length r) m fits, eq-eqb (length uds) 8 eight) in
          subst (λ (y : Bool). AllAccepted (b ∷ bs) r t (from g y)) (sym (ap reports_whole q))
          (gather_first bs r t b g _ e
          (acted_first bs (before ++ b ∷ []) r w rest os f false (acting g.state r) (call_taken g.state (act (lending r)) z)
          (next_runs m g.state false true (act (lending r)) y) (after_act R os f (before ++ b ∷ []) g.state (lending r) u z)))
      gathered_first os t g e x (bad_header q p z) = absurd (z bs (ends_whole w))

    pub all_accepted : (bs : List ℕ) → Rest bs
    all_accepted [] os before s r t v g n w = absurd (not_live R v (subst (ReadsOn R) (append-nil before) w))
    all_accepted (b ∷ bs) os before s r t v g n w =
        let z : number_of s (gather b) ≡ 0 = number_is m s false false (gather b) g in
        gathered_first b bs before r (subst (ReadsOn R) (sym (append_assoc before (b ∷ []) bs)) w) (all_accepted bs) n os t (gathered s b)
        (call_taken s (gather b) z) (next_runs m s false false (gather b) g) (after_gather R os before s r v b z)
