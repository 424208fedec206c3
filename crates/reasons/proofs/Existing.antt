-- A session that hears any bytes: each whole frame is acted on at once, with the RAM that the acting before it left.
use Prim.Native.Nat.{ℕ}
use mathlib.Core.Path.{◌≡◌, refl, sym, ap, ◌∙◌, subst}
use mathlib.Core.Bool.{Bool, true, false, cond}
use mathlib.Core.List.{List, [], ◌∷◌, ◌++◌}
use native.Mathlib.Omega.{arith}
use lib.ListN.{length}
use borrow.Author.Tests.{eq-eqb}
use Rattle.endian.specs.Lists.{Words}
use Rattle.head.specs.Answers.{refused, reports_whole, Gathering, Outcome}
use Rattle.head.specs.Gather.{gathered}
use Rattle.head.specs.declared.State.{State}
use Rattle.session.specs.Session.{Reset, Call, act, gather, Entry, gathers, acts, log, is_accepted, accepted, OneRam}
use Rattle.session.proofs.Calls.{Live, Full, AfterGather, unfinished, complete, bad_header, after_gather, AfterAct, goes_on, has_started, has_stopped, after_act}
use Rattle.session.proofs.Entries.{number_of, call_refuses, call_taken, nothing_started, nothing_stopped}
use Rattle.session.proofs.Begins.{Runs, number_is, over_after, full_after, next_runs}
use Rattle.session.proofs.Sending.{lending, acting, calls_for}
use Rattle.reasons.specs.Theorems.{Next, Hears}

module _ (uds : List ℕ) (typed : Words uds) (R : Reset) (eight : length uds ≡ 8) where
  abbrev m : ℕ
  m = length R.ram

  abbrev calls : List ℕ → State → List ℕ → List Call
  calls bs s r = calls_for uds typed bs s r

  -- the calls after the gathering g, which makes a frame whole or not
  abbrev after : List ℕ → Gathering → List ℕ → Bool → List Call
  after bs g r t = let o = acting uds typed g.state r in cond t (act (lending uds typed r) ∷ calls bs o.state o.ram) (calls bs g.state r)

  -- a head that has ended
  over : (bs : List ℕ) (s : State) (r : List ℕ) → Runs m s true false → Hears m bs (log s (calls bs s r))
  over [] s r x = tt
  over (b ∷ bs) s r x =
      let g = gathered s b in
      let e : g.report ≡ refused 2 = (call_refuses s (gather b) 2).1 (sym (number_is m s true false (gather b) x), λ z. omega arith) in
      let y : Runs m g.state true false = rw e at (next_runs m s true false (gather b) x) in
      (refl, subst (λ (t : Bool). Next m t (Hears m bs) (log g.state (after bs g r t))) (sym (ap reports_whole e)) (over bs g.state r y))

  -- one RAM, from a gathering and an acting on
  one_gathers : (b : ℕ) (g : Gathering) (r : List ℕ) (es : List Entry) (t : Bool) → OneRam r es → OneRam r (cond t (gathers b g ∷ es) es)
  one_gathers b g r es true o = o
  one_gathers b g r es false o = o

  -- calls that hear these bytes with one RAM, which first holds r
  pub record Heard (bs r : List ℕ) (es : List Entry) : Type 0 where
    pub hears : Hears m bs es
    pub one_ram : OneRam r (accepted es)

  abbrev Rest : List ℕ → Type 0
  Rest bs = (os : List (List ℕ)) (before : List ℕ) (s : State) (r : List ℕ) → Live R os before s r → Runs m s false false → length r ≡ m
      → Heard bs r (log s (calls bs s r))

  -- an acting, and the calls after it
  acts_first : (bs before r : List ℕ) → Rest bs → (os : List (List ℕ)) (f : List ℕ) (o : Outcome)
      → Runs m o.state (over_after false (acts (lending uds typed r) o)) (full_after true (acts (lending uds typed r) o))
      → AfterAct R os f before (lending uds typed r) o
      → Hears m bs (log o.state (calls bs o.state o.ram)) × OneRam o.ram (accepted (log o.state (calls bs o.state o.ram)))
  acts_first bs before r rest os f o x (goes_on q u n p) =
      let h = rest (os ++ f ∷ []) before o.state o.ram u (rw q at x) n in
      (h.hears, h.one_ram)
  acts_first bs before r rest os f o x (has_started d l z) =
      (over bs o.state o.ram (rw l.report at x), rw (nothing_started o.state m (calls bs o.state o.ram) l.state) tt)
  acts_first bs before r rest os f o x (has_stopped k q p z) =
      (over bs o.state o.ram (rw q at x), rw (nothing_stopped o.state m (calls bs o.state o.ram) p) tt)

  module _ (b : ℕ) (bs before r : List ℕ) (rest : Rest bs) (fits : length r ≡ m) (os : List (List ℕ)) where
    abbrev HeardAfter : Gathering → Bool → Type 0
    HeardAfter g t = Next m t (Hears m bs) (log g.state (after bs g r t)) × OneRam r (accepted (log g.state (after bs g r t)))

    acting_next : (g : Gathering) (f : List ℕ) → Runs m g.state false true → Full R os f before g.state r → HeardAfter g true
    acting_next g f x u =
        let l = lending uds typed r in
        let o = acting uds typed g.state r in
        let z : number_of g.state (act l) ≡ 0 = number_is m g.state false true (act l) x ∙ rw (eq-eqb (length r) m fits, eq-eqb (length uds) 8 eight) in
        let h = acts_first bs before r rest os f o (next_runs m g.state false true (act l) x) (after_act R os f before g.state l u z) in (
          (record { room = omega arith; ram = fits; uds = eight }, h.0),
          rw (call_taken g.state (act l) z) (refl, h.1),
        )

    gathers_first : (g : Gathering) → Runs m g.state (over_after false (gathers b g)) (full_after false (gathers b g)) → AfterGather R os before r g
        → HeardAfter g (reports_whole g.report)
    gathers_first g x (unfinished e u n) =
        let h = rest os before g.state r u (rw e at x) fits in
        subst (HeardAfter g) (sym (ap reports_whole e)) (h.hears, h.one_ram)
    gathers_first g x (complete e f u) = subst (HeardAfter g) (sym (ap reports_whole e)) (acting_next g f (rw e at x) u)
    gathers_first g x (bad_header e q z) =
        subst (HeardAfter g) (sym (ap reports_whole e)) (over bs g.state r (rw e at x), rw (nothing_stopped g.state m (calls bs g.state r) q) tt)

  pub hears_all : (bs : List ℕ) → Rest bs
  hears_all [] os before s r v x n = record { hears = tt; one_ram = tt }
  hears_all (b ∷ bs) os before s r v x n =
      let g = gathered s b in
      let z : number_of s (gather b) ≡ 0 = number_is m s false false (gather b) x in
      let h = gathers_first b bs (before ++ b ∷ []) r (hears_all bs) n os g (next_runs m s false false (gather b) x) (after_gather R os before s r v b z) in
      record { hears = (refl, h.0); one_ram = one_gathers b g r _ (is_accepted g.report) h.1 }
