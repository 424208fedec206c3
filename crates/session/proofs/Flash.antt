-- Starts and stops of begin (specs/Boot.antt), from what begin does (`begins`).
use Prim.Native.Nat.{ℕ, ◌+◌, ◌≤◌}
use mathlib.Core.Path.{◌≡◌, refl, sym, ap, ◌∙◌, subst}
use mathlib.Core.Logic.{◌↔◌}
use mathlib.Core.Bool.{Bool, true, false, cond}
use mathlib.Core.List.{List, [], ◌++◌}
use native.Mathlib.Omega.{arith}
use lib.Dec.{eqb}
use lib.ListN.{length, take, drop, length-append}
use lib.Seq.{length-take-le, take-append_seam}
use Rattle.endian.specs.Lists.{Words}
use Rattle.endian.proofs.Cases.{impossible}
use Rattle.rfc7693.specs.Rfc7693.{blake2s}
use Rattle.cdi.specs.Cdi.{cdi_string, cdi_of}
use Rattle.record.specs.Record.{record_at}
use Rattle.protocol.specs.Replies.{put_in}
use Rattle.head.specs.Answers.{Report, refused, continues, whole, stopped, started, Result}
use Rattle.head.specs.Start.{starting}
use Rattle.head.specs.Begin.{Slot, program_in}
use Rattle.head.proofs.Ranges.{never}
use Rattle.head.proofs.Proved.{front_is, beyond_is}
use Rattle.session.specs.Reading.{type_of, Allowed}
use Rattle.session.specs.Session.{Reset, begun, AsksFlash, Admitted}
use Rattle.session.specs.Boot.{in_slot0, chosen, flash_basis, FlashStarted, Fits, FlashAllowed, FlashGives, BeginStops, reset_holding}
use Rattle.session.proofs.Begins.{does_fit, booted, Begins, refuses, waits, boots, halts_20, halts_25, halts_26, begins, unknown_halts, flash_boots, flash_differs, flash_unfit}
use Rattle.session.proofs.Strings.{Sound, string_size, string_domain}

-- ---- when begin starts a program, and what that gives

module _ (R : Reset) where
  only : (x : Result) → Begins R x → (a n : ℕ) → x.report ≡ started a n → Admitted R × AsksFlash R × Fits R × FlashAllowed R
  only x (refuses k b) a n e = impossible cc
  only x (waits l c) a n e = impossible cc
  only x (boots l q f d) a n e = (l, q, f, d)
  only x (halts_20 l u) a n e = impossible cc
  only x (halts_25 l q f d) a n e = impossible cc
  only x (halts_26 l q f) a n e = impossible cc

  pub flash_exactly : FlashStarted R ↔ (Admitted R × AsksFlash R × Fits R × FlashAllowed R)
  unfolding starting
  flash_exactly = (
    λ t. only (begun R) (begins R) t.0 t.1 t.2,
    λ b. (0x40000000, (chosen R).size, ap (λ (x : Result). x.report) (flash_boots R b.0 b.1 b.2 b.3)),
  )

  module _ (a : Admitted R) (q : AsksFlash R) (f : Fits R) (d : FlashAllowed R) where
    abbrev size : ℕ
    size = (chosen R).size

    begun_is : begun R ≡ booted R
    begun_is = flash_boots R a q f d

    program_length : length (flash_basis R).program ≡ size
    program_length = length-take-le size (chosen R).bytes f.in_slot

    pub flash_sound : Sound (flash_basis R)
    flash_sound = record { eight = a.eight; typed = R.typed; size = a.record_length; secret = λ e. never (sym e) }

    front : take size (begun R).ram ≡ (flash_basis R).program
    unfolding starting
    front = ap (λ (x : Result). take size x.ram) begun_is ∙ front_is R.ram (chosen R) (does_fit R f)

    pub flash_gives : FlashGives R
    unfolding starting cdi_of cdi_string record_at
    flash_gives =
        let e = begun_is in
        let n = program_length in
        record {
          start =
              record {
                report = ap (λ (x : Result). x.report) e ∙ ap (started 0x40000000) (sym n);
                cdi = ap (λ (x : Result). x.cdi) e;
                string_length = string_size (flash_basis R) flash_sound;
                domain = string_domain (flash_basis R) flash_sound;
                digests = ap (λ (x : Result). x.digest) e;
                front = ap (λ (k : ℕ). take k (begun R).ram) n ∙ front;
                eight = a.eight;
                cleared = ap (λ (x : Result). x.uds) e;
              };
          size = n;
          beyond = ap (λ (x : Result). drop size x.ram) e ∙ beyond_is R.ram (chosen R) (does_fit R f);
          stored = ap (λ (x : Result). x.digest) e ∙ ap (λ (x : List ℕ). blake2s [] x 32) (sym front);
        }

-- ---- when begin stops

-- the number of a stop
abbrev stop_in : Report → ℕ
stop_in (refused k) = 0
stop_in continues = 0
stop_in whole = 0
stop_in (stopped k) = k
stop_in (started address n) = 0

module _ (R : Reset) where
  abbrev report_of : Result → Report
  report_of x = x.report

  -- what each stop means, and what it leaves
  abbrev Meaning : ℕ → Type 0
  Meaning k =
      cond (eqb k 20) (Admitted R × (6 ≤ type_of R.rec))
      (cond (eqb k 25) (Admitted R × AsksFlash R × Fits R × (FlashAllowed R → ⊥)) (Admitted R × AsksFlash R × (Fits R → ⊥)))

  abbrev ram_after : ℕ → List ℕ
  ram_after k = cond (eqb k 25) (put_in R.ram (flash_basis R).program) R.ram

  stopped_by : (x : Result) → Begins R x → (k : ℕ) → x.report ≡ stopped k → Meaning k × (x.ram ≡ ram_after k) × (x.uds ≡ R.uds)
  unfolding starting
  stopped_by x (refuses j b) k e = impossible cc
  stopped_by x (waits l c) k e = impossible cc
  stopped_by x (boots l q f d) k e = impossible cc
  stopped_by x (halts_20 l u) k e = subst (λ (j : ℕ). Meaning j × (R.ram ≡ ram_after j) × (R.uds ≡ R.uds)) (ap stop_in e) ((l, u), refl, refl)
  stopped_by x (halts_25 l q f d) k e =
      subst (λ (j : ℕ). Meaning j × (put_in R.ram (flash_basis R).program ≡ ram_after j) × (R.uds ≡ R.uds)) (ap stop_in e) ((l, q, f, d), refl, refl)
  stopped_by x (halts_26 l q f) k e = subst (λ (j : ℕ). Meaning j × (R.ram ≡ ram_after j) × (R.uds ≡ R.uds)) (ap stop_in e) ((l, q, f), refl, refl)

  pub begin_stops : BeginStops R
  begin_stops =
      let by = stopped_by (begun R) (begins R) in
      record {
        stop_20 = (λ e. (by 20 e).0, λ h. ap report_of (unknown_halts R h.0 h.1));
        stop_25 = (λ e. (by 25 e).0, λ h. ap report_of (flash_differs R h.0 h.1 h.2 h.3));
        stop_26 = (λ e. (by 26 e).0, λ h. ap report_of (flash_unfit R h.0 h.1 h.2));
        leaves = λ k e. ((by k e).1, (by k e).2);
      }

-- ---- existence: the program is in the slot that the record asks for

module _ (rec udi built_in ram uds prog rest : List ℕ) (other : Slot) (typed : Words uds) where
  abbrev held_in : Reset
  held_in = reset_holding rec udi built_in ram uds prog rest other typed

  abbrev slot : Slot
  slot = record { bytes = prog ++ rest; size = length prog }

  held : chosen held_in ≡ slot
  held = go (in_slot0 rec)
    where
      go : (t : Bool) → cond t (cond t slot other) (cond t other slot) ≡ slot
      go true = refl
      go false = refl

  held_program : (flash_basis held_in).program ≡ prog
  held_program = ap program_in held ∙ take-append_seam prog rest

  pub flash_exists : Admitted held_in → AsksFlash held_in → 1 ≤ length prog → length prog ≤ length ram → Allowed rec built_in (blake2s [] prog 32)
      → FlashStarted held_in × ((flash_basis held_in).program ≡ prog)
  flash_exists lent type least fits allows =
      let n : (chosen held_in).size ≡ length prog = ap (λ (x : Slot). x.size) held in
      let l : length (chosen held_in).bytes ≡ length prog + length rest = ap (λ (x : Slot). length x.bytes) held ∙ length-append prog rest in
      let f : Fits held_in = record { not_empty = rw n least; in_slot = omega arith; in_ram = rw n fits } in
      let d = subst (Allowed rec built_in) (ap (λ (x : List ℕ). blake2s [] x 32) (sym held_program)) allows in
      ((flash_exactly held_in).1 (lent, type, f, d), held_program)
