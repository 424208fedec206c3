-- The calls of a load (specs/Client.antt), each with what came of it, and what follows from the list: its start, its replies, and the laptop's answer.
use Prim.Native.Nat.{ℕ, suc, ◌+◌, ◌<◌}
use mathlib.Core.Path.{◌≡◌, refl, sym, ap, ◌∙◌, subst}
use mathlib.Core.Bool.{false}
use mathlib.Core.List.{List, [], ◌∷◌, ◌++◌, append_assoc, append-nil, head-eq_of_cons-eq, tail-eq_of_cons-eq}
use native.Mathlib.Nat.{add-zero}
use native.Mathlib.Numerals.{add-one}
use native.Mathlib.Omega.{arith}
use lib.ListN.{length, take, length-append}
use borrow.Author.Tests.{eq-eqb, ne_eqb}
use Rattle.endian.proofs.Cases.{impossible}
use Rattle.endian.specs.Lists.{zeros}
use Rattle.protocol.specs.Commands.{blocks_for}
use Rattle.head.specs.Answers.{continues, started, Gathering, Outcome}
use Rattle.client.specs.Frames.{Secret}
use Rattle.client.specs.Replies.{taking_as}
use Rattle.upload.specs.Upload.{bytes_of}
use Rattle.upload.specs.Theorems.{Loads, last, more}
use Rattle.upload.specs.declared.Job.{Job}
use Rattle.upload.proofs.Answered.{prompt, bytes_append}
use Rattle.session.specs.Session.{Loan, Entry, gathers, acts, report_in, gathered_bytes, replies_of, is_end, has_ended}
use Rattle.session.specs.Client.{actings, program_digest, digest_at, Replied}

module _ (prog : List ℕ) (id : ℕ) (secret : Secret) where
  abbrev blocks : ℕ
  blocks = blocks_for (length prog)

  pub digest_none : (k : ℕ) → k < blocks → digest_at prog id secret k ≡ zeros 32
  digest_none k h = rw (ne_eqb k blocks (λ e. omega arith))

  pub digest_last : (k : ℕ) → k ≡ blocks → digest_at prog id secret k ≡ program_digest prog id secret
  digest_last k h = rw (eq-eqb k blocks h)

  -- the calls after k actings, where bs was gathered
  pub data LoadTrace : ℕ → List ℕ → List Entry → Type 0 where
    gathers_on : (k : ℕ) (bs : List ℕ) (b : ℕ) (g : Gathering) (es : List Entry) → is_end g.report ≡ false → LoadTrace k (bs ++ b ∷ []) es
        → LoadTrace k bs (gathers b g ∷ es)
    acts_on : (k : ℕ) (bs : List ℕ) (l : Loan) (o : Outcome) (es : List Entry) → o.report ≡ continues → k < blocks → Replied prog id secret k bs o
        → LoadTrace (suc k) bs es → LoadTrace k bs (acts l o ∷ es)
    ends : (k : ℕ) (bs : List ℕ) (l : Loan) (o : Outcome) (address size : ℕ) → o.report ≡ started address size → k ≡ blocks → Replied prog id secret k bs o
        → LoadTrace k bs (acts l o ∷ [])

  -- what is before the start, and the start
  pub record Ended (es : List Entry) : Type 0 where
    pub before : List Entry
    pub loan : Loan
    pub out : Outcome
    pub list : es ≡ before ++ acts loan out ∷ []
    pub not_before : has_ended before ≡ false
    pub address : ℕ
    pub size : ℕ
    pub answers : out.report ≡ started address size

  later : (e : Entry) (es : List Entry) → is_end (report_in e) ≡ false → Ended es → Ended (e ∷ es)
  later e es r d =
      record {
        before = e ∷ d.before;
        loan = d.loan;
        out = d.out;
        list = ap (λ (l : List Entry). e ∷ l) d.list;
        not_before = rw (r, d.not_before);
        address = d.address;
        size = d.size;
        answers = d.answers;
      }

  pub ended : (k : ℕ) (bs : List ℕ) (es : List Entry) → LoadTrace k bs es → Ended es
  ended k bs es (gathers_on j cs b g fs r t) = later (gathers b g) fs r (ended j (cs ++ b ∷ []) fs t)
  ended k bs es (acts_on j cs l o fs r h x t) = later (acts l o) fs (ap is_end r) (ended (suc j) cs fs t)
  ended k bs es (ends j cs l o a n r h x) = record { before = []; loan = l; out = o; list = refl; not_before = refl; address = a; size = n; answers = r }

  -- ---- the reply of each acting

  abbrev RepliedAfter : ℕ → List ℕ → List Entry → Outcome → Type 0
  RepliedAfter k bs before o = Replied prog id secret (k + actings before) (bs ++ gathered_bytes before) o

  first : (k : ℕ) (bs : List ℕ) (x l : Loan) (y o : Outcome) → acts x y ≡ acts l o → Replied prog id secret k bs y → RepliedAfter k bs [] o
  first k bs x l y o q a = let e : y ≡ o = cc in rw (add-zero k, append-nil bs, ← e) a

  pub replies : (k : ℕ) (bs : List ℕ) (es : List Entry) → LoadTrace k bs es → (before after : List Entry) (l : Loan) (o : Outcome) → es ≡ before ++ acts l o ∷ after
      → RepliedAfter k bs before o
  replies k bs es (gathers_on j cs b g fs r t) [] after l o q = let e : gathers b g ≡ acts l o = head-eq_of_cons-eq q in impossible cc
  replies k bs es (gathers_on j cs b g fs r t) (y ∷ before) after l o q =
      let a = replies j (cs ++ b ∷ []) fs t before after l o (tail-eq_of_cons-eq q) in
      subst (λ (y : Entry). RepliedAfter j cs (y ∷ before) o) (head-eq_of_cons-eq q)
      (subst (λ (x : List ℕ). Replied prog id secret (j + actings before) x o) (append_assoc cs (b ∷ []) (gathered_bytes before)) a)
  replies k bs es (acts_on j cs x y fs r h a t) [] after l o q = first j cs x l y o (head-eq_of_cons-eq q) a
  replies k bs es (acts_on j cs x y fs r h a t) (z ∷ before) after l o q =
      let n : suc j + actings before ≡ j + suc (actings before) = omega arith in
      subst (λ (z : Entry). RepliedAfter j cs (z ∷ before) o) (head-eq_of_cons-eq q)
      (subst (λ (i : ℕ). Replied prog id secret i (cs ++ gathered_bytes before) o) n (replies (suc j) cs fs t before after l o (tail-eq_of_cons-eq q)))
  replies k bs es (ends j cs x y ad n r h a) [] after l o q = first j cs x l y o (head-eq_of_cons-eq q) a
  replies k bs es (ends j cs x y ad n r h a) (z ∷ before) after l o q =
      absurd (let c : 0 ≡ length (before ++ acts l o ∷ after) = ap length (tail-eq_of_cons-eq q) in omega (arith, length-append before (acts l o ∷ after)))

  -- ---- the laptop

  module _ (wait : ℕ) where
    abbrev pub laptop : Job
    laptop = record { len = length prog; id = id; digest = program_digest prog id secret; wait = wait }

    -- each reply is the answer to its frame, so the load succeeds
    pub loads_from : (k : ℕ) (bs : List ℕ) (es : List Entry) → LoadTrace k bs es → Loads laptop k (bytes_of (replies_of es))
    loads_from k bs es (gathers_on j cs b g fs r t) = loads_from j (cs ++ b ∷ []) fs t
    loads_from k bs es (acts_on j cs l o fs r h x t) =
        rw (bytes_append (take o.reply o.room) (replies_of fs))
        (more j (zeros 32) _ _ (omega arith) (prompt laptop j (zeros 32) _ (x.taken ∙ ap (taking_as 0 0) (digest_none j h)))
        (subst (λ (i : ℕ). Loads laptop i (bytes_of (replies_of fs))) (sym (add-one j)) (loads_from (suc j) cs fs t)))
    loads_from k bs es (ends j cs l o a n r h x) =
        rw (bytes_append (take o.reply o.room) [])
        (last j _ _ (omega arith) (prompt laptop j (program_digest prog id secret) _ (x.taken ∙ ap (taking_as 0 0) (digest_last j h))))
