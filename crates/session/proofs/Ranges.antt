-- Refusal 1 (specs/Ranges.antt): each call of a list gets a state in range and hands one back.
use Prim.Native.Nat.{ℕ}
use mathlib.Core.Path.{◌≡◌, sym, subst}
use mathlib.Core.Bool.{Bool, true, false, not, cond}
use mathlib.Core.List.{List, [], ◌∷◌, ◌++◌, head-eq_of_cons-eq, tail-eq_of_cons-eq}
use native.Mathlib.Omega.{arith}
use lib.Dec.{eqb, ltb}
use lib.ListN.{length}
use Rattle.endian.proofs.Cases.{impossible}
use Rattle.head.specs.State.{is_whole, in_range, live}
use Rattle.head.specs.Answers.{refused}
use Rattle.head.specs.Gather.{gather_refusal}
use Rattle.head.specs.Act.{act_refusal}
use Rattle.head.proofs.Proved.{head_theorems}
use Rattle.head.specs.declared.State.{State}
use Rattle.session.specs.Session.{Reset, begun, Call, gather, act, Entry, entry_of, report_in, state_after, log}
use Rattle.session.specs.Ranges.{Ranges}
use Rattle.session.proofs.Entries.{number_of, call_refuses}

-- only a state out of range has refusal 1
not_one : (s : State) (c : Call) → in_range s ≡ true → number_of s c ≡ 1 → ⊥
unfolding gather_refusal act_refusal
not_one s (gather b) r e = go (live s.progress.phase) (is_whole s.incoming) (rw r at e)
  where
    go : (a b : Bool) → ◌≡◌ {A = ℕ} (cond (not a) 2 (cond b 47 0)) 1 → ⊥
    go false b z = omega arith
    go true true z = omega arith
    go true false z = omega arith
not_one s (act l) r e =
    go (live s.progress.phase) (is_whole s.incoming) (ltb (length l.room) 129) (eqb (length l.ram) s.config.ram_len)
    (eqb (length l.uds) 8) (rw r at e)
  where
    go : (a w b c d : Bool) → ◌≡◌ {A = ℕ} (cond (not a) 2 (cond (not w) 47 (cond b 3 (cond (not c) 4 (cond (not d) 5 0))))) 1 → ⊥
    go false w b c d z = omega arith
    go true false b c d z = omega arith
    go true true true c d z = omega arith
    go true true false false d z = omega arith
    go true true false true false z = omega arith
    go true true false true true z = omega arith

abbrev Stays : Entry → Type 0
Stays e = (in_range (state_after e) ≡ true) × (report_in e ≡ refused 1 → ⊥)

call_stays : (s : State) (c : Call) → in_range s ≡ true → Stays (entry_of s c)
call_stays s c r = (range c, λ q. not_one s c r (sym ((call_refuses s c 1).0 q).0))
  where
    range : (c : Call) → in_range (state_after (entry_of s c)) ≡ true
    range (gather b) = (head_theorems.gather s b).stays r
    range (act l) = (head_theorems.act s l.room l.ram l.uds).stays r

-- a call, wherever it stands in the list
stays_at : (cs : List Call) (s : State) → in_range s ≡ true → (before after : List Entry) (e : Entry) → log s cs ≡ before ++ e ∷ after → Stays e
stays_at [] s r [] after e q = impossible cc
stays_at [] s r (x ∷ before) after e q = impossible cc
stays_at (c ∷ cs) s r [] after e q = subst Stays (head-eq_of_cons-eq q) (call_stays s c r)
stays_at (c ∷ cs) s r (x ∷ before) after e q = stays_at cs (state_after (entry_of s c)) (call_stays s c r).0 before after e (tail-eq_of_cons-eq q)

pub ranges : (R : Reset) (calls : List Call) → Ranges R calls
ranges R calls =
    let b = (head_theorems.begin R.rec R.udi R.flash R.ram R.uds).range in
    record {
      begun = b;
      reached = λ e i. (stays_at calls (begun R).state b i.before i.after e i.place).0;
      never_one = λ e i. (stays_at calls (begun R).state b i.before i.after e i.place).1;
    }
