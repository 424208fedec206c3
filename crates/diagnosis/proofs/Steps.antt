-- What a call, a frame and a byte lead to, put together from what the callees ensure, over variables.
use Prim.Native.Nat.{ℕ, ◌≤◌}
use mathlib.Core.Bool.{Bool, true, false}
use mathlib.Core.Path.{◌≡◌, sym, ap, subst, ◌∙◌}
use Rattle.std.specs.Prelude.{Result, Ok, Err}
use mathlib.Core.List.{List}
use lib.Dec.{eqb}
use lib.ListN.{length}
use borrow.Author.Tests.{eqb-true, eq-eqb}
use Rattle.endian.proofs.Cases.{impossible}
use Rattle.protocol.specs.Commands.{longest, length_ok, bytes_of, load_in, good_load}
use Rattle.protocol.specs.declared.Frame.{Frame}
use Rattle.protocol.specs.declared.Load.{Load}
use Rattle.record.specs.Record.{record_of, record_at}
use Rattle.record.specs.Types.{Source, source_of}
use Rattle.record.specs.declared.Record.{Record}
use Rattle.head.specs.State.{progress_ok}
use Rattle.head.specs.Answers.{whole, report_of, Gathering, gathering_of}
use Rattle.head.specs.Gather.{Step, taken, bad, byte_step, gather_refusal, after_step, gathered}
use Rattle.head.specs.Act.{load_of, takes, loaded}
use Rattle.head.specs.Steps.{frame_of}
use Rattle.head.specs.declared.Answer.{Answer}
use Rattle.head.specs.declared.Answer.TheVariants.{Whole}
use Rattle.head.specs.declared.Step as code
use Rattle.head.specs.declared.Refusal.{Refusal}
use Rattle.head.specs.declared.State.{State}
use Rattle.head.proofs.Ranges.{by_test, range_facts}
use Rattle.head.proofs.Admitted.{gather_admitted}
use Rattle.diagnosis.specs.Monitor.{Monitor, fresh_hash, by_source, begun, onward, load_heard, by_report, is_open, heard_byte}

-- a beginning that no length refuses, by where the program comes from
pub begun_as : (rec : List ℕ) (m : ℕ) (r : Record) (x : Source) → length rec ≡ 256 → length_ok m ≡ true → record_of r ≡ record_at rec
    → x ≡ source_of (record_of r).type → by_source x (record_of r) m ≡ begun rec m
unfolding begun
begun_as rec m r x e l er ex = rw (eq-eqb (length rec) 256 e, l, ← er, ← ex)

-- a load, as it is read and tested
module _ (w : Monitor) (f : Frame) (l : Load) (g : Bool)
    (ef : f ≡ frame_of w.head.incoming) (el : l ≡ load_in (bytes_of f)) (eg : g ≡ good_load w.head.config.ram_len l) where
  load_is : l ≡ load_of w.head
  load_is = el ∙ ap (λ (x : Frame). load_in (bytes_of x)) ef

  taken_is : g ≡ takes w.head
  taken_is = eg ∙ ap (λ (x : Load). good_load w.head.config.ram_len x) load_is

  pub load_taken : g ≡ true → onward w (loaded l) fresh_hash ≡ load_heard w
  unfolding load_heard
  load_taken t = let e : takes w.head ≡ true = sym taken_is ∙ t in rw e (ap (λ (x : Load). onward w (loaded x) fresh_hash) load_is)

  pub load_left : g ≡ false → onward w w.head.progress w.hash ≡ load_heard w
  unfolding load_heard
  load_left t = let e : takes w.head ≡ false = sym taken_is ∙ t in rw e

-- a byte, by what gathering it answers
pub heard_as : (w : Monitor) (b : ℕ) (r : Result code.Step Refusal) (x : code.Step) (a : Answer) → is_open w.verdict ≡ true
    → gathering_of r w.head ≡ gathered w.head b → r ≡ Ok x → x.answer ≡ a → by_report (report_of a) x.state w ≡ heard_byte w b
unfolding heard_byte
heard_as w b r x a t eg er ea =
    rw t
    (ap (λ (z : Answer). by_report (report_of z) x.state w) (sym ea)
    ∙ ap (λ (y : Gathering). by_report y.report y.state w) (ap (λ (z : Result code.Step Refusal). gathering_of z w.head) (sym er) ∙ eg))

pub heard_not : (w : Monitor) (b : ℕ) (r : Result code.Step Refusal) (why : Refusal) → is_open w.verdict ≡ true
    → gathering_of r w.head ≡ gathered w.head b → r ≡ Err why → w ≡ heard_byte w b
unfolding heard_byte
heard_not w b r why t eg er =
    rw t (ap (λ (y : Gathering). by_report y.report y.state w) (ap (λ (z : Result code.Step Refusal). gathering_of z w.head) (sym er) ∙ eg))

-- what a frame asks of the state in which it is acted on
abbrev Ready : State → Type 0
Ready s = (progress_ok s.progress s.config.ram_len ≡ true) × (s.config.ram_len ≤ longest)

-- a byte that makes a frame whole leaves it so
step_ready : (s : State) → Ready s → (x : Step) → (after_step x s).report ≡ whole → Ready (after_step x s).state
step_ready s r (taken i) e = r
step_ready s r bad e = impossible cc

gathered_ready : (s : State) (b : ℕ) → (gathered s b).report ≡ whole → Ready (gathered s b).state
unfolding gathered
gathered_ready s b =
    let k = gather_refusal s in
    by_test (λ (x : Gathering). x.report ≡ whole → Ready x.state) (eqb k 0) _ _
    (λ z. let f = range_facts s (gather_admitted s (eqb-true k 0 z)).range in step_ready s (f.progress, f.ram_small) (byte_step s.incoming b))
    (λ z e. impossible cc)

pub whole_ready : (s : State) (b : ℕ) (r : Result code.Step Refusal) (x : code.Step) → gathering_of r s ≡ gathered s b → r ≡ Ok x → x.answer ≡ Whole
    → Ready x.state
whole_ready s b r x eg er ea =
    let e = ap (λ (z : Result code.Step Refusal). gathering_of z s) (sym er) ∙ eg in
    subst (λ (x : Gathering). x.report ≡ whole → Ready x.state) (sym e) (gathered_ready s b) (ap report_of ea)
