-- What begin fixed stays until a start or stop.
use mathlib.Core.Path.{◌≡◌, refl, sym, ap, ◌∙◌, subst}
use mathlib.Core.Logic.{inl, inr}
use mathlib.Core.Bool.{Bool, true, false, ◌||◌}
use mathlib.Core.List.{List, [], ◌∷◌, ◌++◌, head-eq_of_cons-eq, tail-eq_of_cons-eq}
use Rattle.endian.proofs.Cases.{impossible}
use Rattle.head.specs.Answers.{Report, refused, continues, whole, stopped, started, Outcome}
use Rattle.head.specs.Gather.{gathered}
use Rattle.head.specs.Act.{acted}
use Rattle.head.proofs.Proved.{head_theorems}
use Rattle.session.specs.Session.{Call, gather, act, Entry, entry_of, report_in, state_after, log, is_end, has_ended}
use Rattle.head.specs.declared.State.{State}

step : (s : State) (c : Call) → is_end (report_in (entry_of s c)) ≡ false → (state_after (entry_of s c)).config ≡ s.config
step s (gather b) n = go (gathered s b).report refl
  where
    go : (x : Report) → (gathered s b).report ≡ x → (gathered s b).state.config ≡ s.config
    go (refused k) e = ap (λ (t : State). t.config) ((head_theorems.gather s b).kept k e)
    go continues e = ap (λ (t : State). t.config) ((head_theorems.gather s b).goes_on (inl e))
    go whole e = ap (λ (t : State). t.config) ((head_theorems.gather s b).goes_on (inr e))
    go (stopped k) e = let q : ◌≡◌ {A = Bool} true false = sym (ap is_end e) ∙ n in impossible cc
    go (started a k) e = let q : ◌≡◌ {A = Bool} true false = sym (ap is_end e) ∙ n in impossible cc
step s (act l) n = go (acted s l.room l.ram l.uds).report refl
  where
    go : (x : Report) → (acted s l.room l.ram l.uds).report ≡ x → (acted s l.room l.ram l.uds).state.config ≡ s.config
    go (refused k) e = ap (λ (o : Outcome). o.state.config) ((head_theorems.act s l.room l.ram l.uds).kept k e)
    go continues e = ((head_theorems.act s l.room l.ram l.uds).goes_on e).2
    go whole e = absurd ((head_theorems.act s l.room l.ram l.uds).no_whole e)
    go (stopped k) e = let q : ◌≡◌ {A = Bool} true false = sym (ap is_end e) ∙ n in impossible cc
    go (started a k) e = let q : ◌≡◌ {A = Bool} true false = sym (ap is_end e) ∙ n in impossible cc

-- neither of two
neither : (a b : Bool) → a || b ≡ false → (a ≡ false) × (b ≡ false)
neither true b e = impossible cc
neither false b e = (refl, e)

pub config_stays : (cs : List Call) (s : State) (before after : List Entry) (e : Entry) → log s cs ≡ before ++ e ∷ after → has_ended (before ++ e ∷ []) ≡ false
    → (state_after e).config ≡ s.config
config_stays [] s [] after e q n = impossible cc
config_stays [] s (x ∷ before) after e q n = impossible cc
config_stays (c ∷ cs) s [] after e q n =
    let p : entry_of s c ≡ e = head-eq_of_cons-eq q in
    subst (λ (y : Entry). is_end (report_in y) ≡ false → (state_after y).config ≡ s.config) p (step s c) (neither (is_end (report_in e)) false n).0
config_stays (c ∷ cs) s (x ∷ before) after e q n =
    let p : entry_of s c ≡ x = head-eq_of_cons-eq q in
    let m = neither (is_end (report_in x)) (has_ended (before ++ e ∷ [])) n in
    config_stays cs (state_after (entry_of s c)) before after e (tail-eq_of_cons-eq q) m.1
    ∙ step s c (ap (λ (y : Entry). is_end (report_in y)) p ∙ m.0)
