-- What a byte leads to, by what gathering it gives back.
use Prim.Native.Nat.{ℕ}
use mathlib.Core.Bool.{Bool, true, false, cond}
use mathlib.Core.Path.{◌≡◌, refl, ap}
use mathlib.Core.List.{List, []}
use lib.Dec.{eqb}
use Rattle.std.specs.Prelude.{Ok, Err}
use Rattle.endian.proofs.Cases.{impossible}
use Rattle.endian.specs.Lists.{zeros}
use Rattle.head.specs.Answers.{Report, refused, continues, whole, stopped, started, reports_whole, report_of, refusal_number, cdi_in, Gathering, gathering_of}
use Rattle.head.specs.State.{is_whole}
use Rattle.head.specs.Gather.{Step as Taken, taken, bad, after_step, byte_step, gather_refusal, gathered}
use Rattle.head.specs.Act.{plain, acted}
use Rattle.head.specs.declared.Step.{Step}
use Rattle.head.specs.declared.State.{State}
use Rattle.head.specs.declared.Refusal.{Refusal}
use Rattle.head.specs.declared.Answer.{Answer}
use Rattle.head.specs.declared.Answer.TheVariants.{Continue, Whole, Stopped, Started}
use Rattle.head.proofs.Ranges.{by_test}
use Rattle.printer.specs.Lines.{end_line}
use Rattle.text.specs.Text.{text_of}
use Rattle.printer.specs.Output.{after_byte}
use Rattle.printer.specs.Turns.{turn_of, going, unreplied_turn}
use Rattle.printer.specs.declared.turns.Session.{Session}

abbrev is_start : Report → Bool
is_start (refused k) = false
is_start continues = false
is_start whole = false
is_start (stopped k) = false
is_start (started address n) = true

-- no byte starts a program
step_goes_on : (x : Taken) (s : State) → is_start (after_step x s).report ≡ false
step_goes_on (taken i) s = go (is_whole i)
  where
    go : (t : Bool) → is_start (cond t whole continues) ≡ false
    go true = refl
    go false = refl
step_goes_on bad s = refl

goes_on : (s : State) (b : ℕ) → is_start (gathered s b).report ≡ false
unfolding gathered
goes_on s b =
    by_test (λ (g : Gathering). is_start g.report ≡ false) (eqb (gather_refusal s) 0) _ _
    (λ z. step_goes_on (byte_step s.incoming b) s) (λ z. refl)

same_line : (a : Answer) → is_start (report_of a) ≡ false → end_line (report_of a) (cdi_in a) ≡ end_line (report_of a) (zeros 32)
same_line Continue e = refl
same_line Whole e = refl
same_line (Stopped why) e = refl
same_line (Started x) e = impossible cc

-- the last line after a byte has no CDI
pub no_cdi : (s : State) (b : ℕ) (x : Step) → gathering_of (Ok x) s ≡ gathered s b
    → end_line (report_of x.answer) (cdi_in x.answer) ≡ end_line (report_of x.answer) (zeros 32)
no_cdi s b x e = same_line x.answer (rw (← e) at (goes_on s b))

not_whole : (a : Answer) → (a ≡ Whole → ⊥) → reports_whole (report_of a) ≡ false
not_whole Continue n = refl
not_whole Whole n = absurd (n refl)
not_whole (Stopped why) n = refl
not_whole (Started x) n = refl

module _ (s : State) (b : ℕ) (ram uds : List ℕ) where
  pub acts : (x : Step) → gathering_of (Ok x) s ≡ gathered s b → x.answer ≡ Whole → after_byte s uds ram b ≡ acted x.state (zeros 129) ram uds
  unfolding after_byte
  acts x e w = rw (← e, w)

  pub others : (x : Step) → gathering_of (Ok x) s ≡ gathered s b → (x.answer ≡ Whole → ⊥)
      → after_byte s uds ram b ≡ plain (report_of x.answer) 0 x.state [] ram uds
  unfolding after_byte
  others x e n = rw (← e, not_whole x.answer n)

  pub refusals : (r : Refusal) → gathering_of (Err r) s ≡ gathered s b → after_byte s uds ram b ≡ plain (refused (refusal_number r)) 0 s [] ram uds
  unfolding after_byte
  refusals r e = rw (← e)

-- the turn of an answer whose line has no CDI
pub quiet : (y : Session) (a : Answer) (ram : List ℕ) → end_line (report_of a) (cdi_in a) ≡ end_line (report_of a) (zeros 32)
    → unreplied_turn y a ≡ turn_of y.received (plain (report_of a) 0 y.state [] ram y.words)
quiet y a ram l = ap (λ (x : List ℕ). record { text = text_of x; session = going (report_of a) y }) l
