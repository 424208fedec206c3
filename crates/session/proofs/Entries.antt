-- Lists of calls: one of them, the last of them, and those that are accepted.
use Prim.Native.Nat.{ℕ}
use mathlib.Core.Path.{◌≡◌, refl, sym, ap, ◌∙◌}
use mathlib.Core.Logic.{◌↔◌, ◌⊎◌, inl, inr}
use mathlib.Core.Bool.{Bool, true, false, cond}
use mathlib.Core.List.{List, [], ◌∷◌, ◌++◌, head-eq_of_cons-eq, tail-eq_of_cons-eq}
use lib.Dec.{eqb}
use lib.ListN.{length}
use borrow.Author.Tests.{eqb-true, eqb-false}
use Rattle.endian.proofs.Cases.{impossible}
use Rattle.head.specs.State.{live, ended}
use Rattle.head.specs.Answers.{Report, refused, continues, whole, stopped, started, Outcome}
use Rattle.head.specs.Gather.{gather_refusal}
use Rattle.head.specs.Act.{act_refusal}
use Rattle.head.proofs.Ranges.{never}
use Rattle.head.proofs.Admitted.{gather_admitted, act_admitted}
use Rattle.head.proofs.Proved.{head_theorems}
use Rattle.session.specs.Session.{Call, gather, act, Entry, entry_of, report_in, state_after, Among, log, is_accepted, accepted, last_is}
use Rattle.head.specs.declared.Phase.TheVariants as phase
use Rattle.head.specs.declared.State.{State}

-- ---- one of a list of calls

pub among_first : (e : Entry) (es : List Entry) → Among e (e ∷ es)
among_first e es = record { before = []; after = es; place = refl }

pub among_later : (x e : Entry) (es : List Entry) → Among e es → Among e (x ∷ es)
among_later x e es i = record { before = x ∷ i.before; after = i.after; place = ap (λ (l : List Entry). x ∷ l) i.place }

pub among_cases : (x e : Entry) (es : List Entry) → Among e (x ∷ es) → (e ≡ x) ⊎ Among e es
among_cases x e es i = go i.before i.place
  where
    go : (before : List Entry) → x ∷ es ≡ before ++ e ∷ i.after → (e ≡ x) ⊎ Among e es
    go [] q = inl (sym (head-eq_of_cons-eq q))
    go (y ∷ before) q = inr (record { before = before; after = i.after; place = tail-eq_of_cons-eq q })

pub among_none : (e : Entry) → Among e [] → ⊥
among_none e i = go i.before i.place
  where
    go : (before : List Entry) → [] ≡ before ++ e ∷ i.after → ⊥
    go [] q = impossible cc
    go (y ∷ before) q = impossible cc

-- ---- the last of a list of calls

-- `last_is` from the first call on, where b says it of the call before that
abbrev pub last_from : (Entry → Bool) → Bool → List Entry → Bool
last_from p b [] = b
last_from p b (e ∷ es) = last_from p (p e) es

pub last_from_is : (p : Entry → Bool) (es : List Entry) → last_is p es ≡ last_from p false es
last_from_is p [] = refl
last_from_is p (e ∷ []) = refl
last_from_is p (e ∷ x ∷ es) = last_from_is p (x ∷ es)

-- ---- accepted and refused calls

-- the number of a call's refusal, 0 for none
abbrev pub number_of : State → Call → ℕ
number_of s (gather b) = gather_refusal s
number_of s (act l) = act_refusal s (length l.room) (length l.ram) (length l.uds)

pub call_refuses : (s : State) (c : Call) (k : ℕ) → (report_in (entry_of s c) ≡ refused k) ↔ ((k ≡ number_of s c) × (k ≡ 0 → ⊥))
call_refuses s (gather b) k = (head_theorems.gather s b).refuses k
call_refuses s (act l) k = (head_theorems.act s l.room l.ram l.uds).refuses k

refused_as : (x : Report) → is_accepted x ≡ false → (k : ℕ) × (x ≡ refused k)
refused_as (refused k) e = (k, refl)
refused_as continues e = never e
refused_as whole e = never e
refused_as (stopped k) e = never e
refused_as (started a n) e = never e

-- a call is accepted exactly when its number is 0
pub call_taken : (s : State) (c : Call) → number_of s c ≡ 0 → is_accepted (report_in (entry_of s c)) ≡ true
call_taken s c z = go (is_accepted (report_in (entry_of s c))) refl
  where
    go : (t : Bool) → is_accepted (report_in (entry_of s c)) ≡ t → t ≡ true
    go true e = refl
    go false e = let r = refused_as _ e in let h = (call_refuses s c r.0).0 r.1 in absurd (h.1 (h.0 ∙ z))

pub number_zero : (s : State) (c : Call) → is_accepted (report_in (entry_of s c)) ≡ true → number_of s c ≡ 0
number_zero s c t = go (eqb (number_of s c) 0) refl
  where
    go : (b : Bool) → eqb (number_of s c) 0 ≡ b → number_of s c ≡ 0
    go true e = eqb-true (number_of s c) 0 e
    go false e = never (sym t ∙ ap is_accepted ((call_refuses s c (number_of s c)).1 (refl, eqb-false (number_of s c) 0 e)))

-- a refused call hands back the state that it got
pub state_kept : (s : State) (c : Call) → is_accepted (report_in (entry_of s c)) ≡ false → state_after (entry_of s c) ≡ s
state_kept s (gather b) e = let r = refused_as _ e in (head_theorems.gather s b).kept r.0 r.1
state_kept s (act l) e =
    let r = refused_as _ e in
    ap (λ (o : Outcome). o.state) ((head_theorems.act s l.room l.ram l.uds).kept r.0 r.1)

-- a head that has ended accepts nothing
nothing : (s : State) (cs : List Call) → live s.progress.phase ≡ false → accepted (log s cs) ≡ []
nothing s [] e = refl
nothing s (c ∷ cs) e = go (is_accepted (report_in (entry_of s c))) refl (nothing s cs e)
  where
    goes : (c : Call) → number_of s c ≡ 0 → live s.progress.phase ≡ true
    goes (gather b) z = (gather_admitted s z).goes
    goes (act l) z = (act_admitted s (length l.room) (length l.ram) (length l.uds) z).goes

    go : (t : Bool) → is_accepted (report_in (entry_of s c)) ≡ t → accepted (log s cs) ≡ []
        → cond t (entry_of s c ∷ accepted (log (state_after (entry_of s c)) cs)) (accepted (log (state_after (entry_of s c)) cs)) ≡ []
    go true q n = never (sym (goes c (number_zero s c q)) ∙ e)
    go false q n = ap (λ (t : State). accepted (log t cs)) (state_kept s c q) ∙ n

ended_start : (m : ℕ) → live (ended phase.Started m).progress.phase ≡ false
unfolding ended
ended_start m = refl

ended_stop : (m : ℕ) → live (ended phase.Stopped m).progress.phase ≡ false
unfolding ended
ended_stop m = refl

pub nothing_started : (s : State) (m : ℕ) (cs : List Call) → s ≡ ended phase.Started m → accepted (log s cs) ≡ []
nothing_started s m cs e = nothing s cs (ap (λ (s : State). live s.progress.phase) e ∙ ended_start m)

pub nothing_stopped : (s : State) (m : ℕ) (cs : List Call) → s ≡ ended phase.Stopped m → accepted (log s cs) ≡ []
nothing_stopped s m cs e = nothing s cs (ap (λ (s : State). live s.progress.phase) e ∙ ended_stop m)
