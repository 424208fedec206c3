-- Where a start stands among the accepted calls: by the table of refusals, the frame was whole before it, and nothing comes after it.
use Prim.Native.Nat.{ℕ}
use mathlib.Core.Path.{◌≡◌, refl, sym, ap, ◌∙◌}
use mathlib.Core.Logic.{◌↔◌}
use mathlib.Core.Bool.{Bool, true, false, not, cond, ◌||◌}
use mathlib.Core.List.{List, [], ◌∷◌, ◌++◌, append_assoc, head-eq_of_cons-eq, tail-eq_of_cons-eq}
use native.Mathlib.Omega.{arith}
use lib.Dec.{eqb}
use borrow.Author.Tests.{eqb-true, eqb-false}
use Rattle.endian.proofs.Cases.{impossible}
use Rattle.head.specs.Answers.{Report, refused, continues, whole, stopped, started, Outcome}
use Rattle.head.proofs.Ranges.{never}
use Rattle.session.specs.Session.{Loan, Call, gather, act, Entry, acts, call_of, report_in, Among, is_accepted, accepted, is_end, has_ended, last_is, completes, frame_is_whole, refusal_in}

-- an accepted call as one of all calls, with those before it
pub record Lifted (es before : List Entry) (e : Entry) : Type 0 where
  pub among : Among e es
  pub same_before : accepted among.before ≡ before
  pub taken : is_accepted (report_in e) ≡ true

-- with one more call before them
behind : (x e : Entry) (es before : List Entry) (t : Bool) → is_accepted (report_in x) ≡ t → Lifted es before e → Lifted (x ∷ es) (cond t (x ∷ before) before) e
behind x e es before t r i =
    record {
      among = record { before = x ∷ i.among.before; after = i.among.after; place = ap (λ (l : List Entry). x ∷ l) i.among.place };
      same_before = rw (r, i.same_before);
      taken = i.taken;
    }

lift : (es before after : List Entry) (e : Entry) → accepted es ≡ before ++ e ∷ after → Lifted es before e
lift [] [] after e q = impossible cc
lift [] (y ∷ before) after e q = impossible cc
lift (x ∷ es) before after e q = go (is_accepted (report_in x)) refl before q (λ b p. lift es b after e p)
  where
    go : (t : Bool) → is_accepted (report_in x) ≡ t → (before : List Entry) → cond t (x ∷ accepted es) (accepted es) ≡ before ++ e ∷ after
        → ((b : List Entry) → accepted es ≡ b ++ e ∷ after → Lifted es b e) → Lifted (x ∷ es) before e
    go true r [] q f =
        let p : x ≡ e = head-eq_of_cons-eq q in
        record {
          among = record { before = []; after = es; place = ap (λ (y : Entry). y ∷ es) p };
          same_before = refl;
          taken = ap (λ (y : Entry). is_accepted (report_in y)) (sym p) ∙ r;
        }
    go true r (y ∷ before) q f =
        let p : x ≡ y = head-eq_of_cons-eq q in
        rw (← p) (behind x e es before true r (f before (tail-eq_of_cons-eq q)))
    go false r before q f = behind x e es before false r (f before q)

-- a refused call is no end
not_end : (r : Report) → is_accepted r ≡ false → is_end r ≡ false
not_end (refused k) e = refl
not_end continues e = never e
not_end whole e = never e
not_end (stopped k) e = never e
not_end (started a n) e = never e

ended_accepted : (es : List Entry) → has_ended (accepted es) ≡ has_ended es
ended_accepted [] = refl
ended_accepted (x ∷ es) = go (is_accepted (report_in x)) refl (ended_accepted es)
  where
    go : (t : Bool) → is_accepted (report_in x) ≡ t → has_ended (accepted es) ≡ has_ended es
        → has_ended (cond t (x ∷ accepted es) (accepted es)) ≡ is_end (report_in x) || has_ended es
    go true r e = ap (λ (b : Bool). is_end (report_in x) || b) e
    go false r e = rw (not_end (report_in x) r) e

ended_append : (es : List Entry) (e : Entry) → is_end (report_in e) ≡ true → has_ended (es ++ e ∷ []) ≡ true
ended_append [] e r = rw r
ended_append (x ∷ es) e r = go (is_end (report_in x)) (ended_append es e r)
  where
    go : (b : Bool) → has_ended (es ++ e ∷ []) ≡ true → b || has_ended (es ++ e ∷ []) ≡ true
    go true q = refl
    go false q = q

module _ (m : ℕ) (es : List Entry)
    (table : (e : Entry) (i : Among e es) (k : ℕ)
    → (report_in e ≡ refused k) ↔ ((k ≡ refusal_in (has_ended i.before) (frame_is_whole i.before) m (call_of e)) × (k ≡ 0 → ⊥))) where
  not_refused : (e : Entry) (i : Among e es) → is_accepted (report_in e) ≡ true → refusal_in (has_ended i.before) (frame_is_whole i.before) m (call_of e) ≡ 0
  not_refused e i t = go (eqb k 0) refl
    where
      k : ℕ
      k = refusal_in (has_ended i.before) (frame_is_whole i.before) m (call_of e)

      go : (b : Bool) → eqb k 0 ≡ b → k ≡ 0
      go true q = eqb-true k 0 q
      go false q = never (sym t ∙ ap is_accepted ((table e i k).1 (refl, eqb-false k 0 q)))

  module _ (l : Loan) (o : Outcome) (before after : List Entry) (place : accepted es ≡ before ++ acts l o ∷ after) where
    pub whole_before : last_is completes before ≡ true
    whole_before =
        let i = lift es before after (acts l o) place in
        ap (last_is completes) (sym i.same_before) ∙ go (has_ended i.among.before) (frame_is_whole i.among.before) _ (not_refused (acts l o) i.among i.taken)
      where
        go : (ended full : Bool) (k : ℕ) → ◌≡◌ {A = ℕ} (cond ended 2 (cond (not full) 47 k)) 0 → full ≡ true
        go true full k q = absurd (omega arith)
        go false true k q = refl
        go false false k q = absurd (omega arith)

    pub nothing_after : is_end o.report ≡ true → after ≡ []
    nothing_after r = go after place
      where
        over : (c : Call) (full : Bool) → refusal_in true full m c ≡ 2
        over (gather b) full = refl
        over (act k) full = refl

        go : (after : List Entry) → accepted es ≡ before ++ acts l o ∷ after → after ≡ []
        go [] p = refl
        go (x ∷ xs) p =
            let i = lift es (before ++ acts l o ∷ []) xs x (p ∙ sym (append_assoc before (acts l o ∷ []) (x ∷ xs))) in
            let h : has_ended i.among.before ≡ true =
            sym (ended_accepted i.among.before) ∙ ap has_ended i.same_before ∙ ended_append before (acts l o) r in
            let z : ◌≡◌ {A = ℕ} 2 0 =
            sym (over (call_of x) (frame_is_whole i.among.before))
            ∙ ap (λ (b : Bool). refusal_in b (frame_is_whole i.among.before) m (call_of x)) (sym h) ∙ not_refused x i.among i.taken in
            absurd (omega arith)
