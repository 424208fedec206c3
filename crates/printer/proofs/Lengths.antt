-- What is printed of a call fits a text: a reply has at most 129 bytes, and a CDI 32.
use Prim.Native.Nat.{ℕ, ◌≤◌}
use native.Mathlib.Omega.{arith}
use mathlib.Core.Bool.{Bool, true, false, cond}
use mathlib.Core.List.{List, [], ◌∷◌, ◌++◌}
use lib.Dec.{eqb}
use lib.ListN.{length, take, drop, length-append, length-take}
use Rattle.rfc7693.specs.Rfc7693.{blake2s}
use Rattle.cdi.specs.Cdi.{cdi_of}
use Rattle.protocol.proofs.Proved.{protocol}
use Rattle.head.specs.Answers.{Report, refused, continues, whole, stopped, started, reports_whole, Result, Outcome, replied}
use Rattle.head.specs.Gather.{gathered}
use Rattle.head.specs.Start.{starting}
use Rattle.head.specs.Act.{acted}
use Rattle.head.proofs.Ranges.{by_test}
use Rattle.head.proofs.Ways.{by_begin, by_act}
use Rattle.head.specs.declared.State.{State}
use Rattle.text.specs.Text.{hex_of, decimal_of}
use Rattle.text.proofs.Proved.{texts}
use Rattle.printer.specs.Lines.{reply_line, waiting_line, error_line, end_line}
use Rattle.printer.specs.Output.{words_in, no_flash, after_begin, after_byte, reply_text, call_text}

-- ---- the lines

-- a number and the end of the line
number_short : (n : ℕ) → length (decimal_of n ++ 10 ∷ []) ≤ 21
number_short n = rw (length-append (decimal_of n) (10 ∷ [])) (omega (arith, texts.few n))

pub waiting_short : (n : ℕ) → length (waiting_line n) ≤ 512
waiting_short n = let l = number_short n in omega arith

pub error_short : (n : ℕ) → length (error_line n) ≤ 512
error_short n = let l = number_short n in omega arith

end_short : (r : Report) (cdi : List ℕ) → length cdi ≤ 32 → length (end_line r cdi) ≤ 88
end_short (refused k) cdi h = let l = number_short k in omega arith
end_short continues cdi h = omega arith
end_short whole cdi h = omega arith
end_short (stopped k) cdi h = let l = number_short k in omega arith
end_short (started address n) cdi h =
    rw (length-append (decimal_of n ++ 32 ∷ [] ++ hex_of cdi) (10 ∷ []), length-append (decimal_of n ++ 32 ∷ []) (hex_of cdi), length-append (decimal_of n) (32 ∷ []))
    (omega (arith, texts.few n, texts.two cdi))

reply_short : (room : List ℕ) (n : ℕ) → n ≤ 129 → length (reply_text room n) ≤ 261
reply_short room n h = go (eqb n 0)
  where
    go : (t : Bool) → length (cond t [] (reply_line (take n room))) ≤ 261
    go true = omega arith
    go false = rw (length-append (hex_of (take n room)) (10 ∷ [])) (omega (arith, texts.two (take n room), length-take n room))

-- ---- the calls

pub record Short (o : Outcome) : Type 0 where
  pub reply : o.reply ≤ 129
  pub cdi : length o.cdi ≤ 32

pub call_short : (o : Outcome) → Short o → length (call_text o) ≤ 512
call_short o s =
    let r = reply_short o.room o.reply s.reply in
    let e = end_short o.report o.cdi s.cdi in
    rw (length-append (reply_text o.room o.reply) (end_line o.report o.cdi)) (omega arith)

pub begin_short : (front ram : List ℕ) → Short (after_begin front ram)
unfolding after_begin starting cdi_of blake2s
begin_short front ram =
    by_begin (take 256 front) (drop 288 front) no_flash ram (words_in front) (λ (x : Result). Short (replied 0 [] x))
    (record {
      refused = λ k e n. record { reply = omega arith; cdi = omega arith };
      wait = λ l. record { reply = omega arith; cdi = omega arith };
      unknown = λ l. record { reply = omega arith; cdi = omega arith };
      unfit = λ l. record { reply = omega arith; cdi = omega arith };
      start = λ l x h. record { reply = omega arith; cdi = rw length-take (omega arith) };
      fail = λ l x h. record { reply = omega arith; cdi = omega arith };
    })

act_short : (s : State) (room ram uds : List ℕ) → Short (acted s room ram uds)
unfolding starting cdi_of blake2s
act_short s room ram uds =
    by_act s room ram uds Short
    (record {
      refused = λ k e n. record { reply = omega arith; cdi = omega arith };
      halt = λ k n. record { reply = omega arith; cdi = omega arith };
      reply = λ r f. let l = (protocol.lengths r f).0 in record { reply = omega arith; cdi = omega arith };
      progress = λ r f p ram1 o v y. let l = (protocol.lengths r f).0 in record { reply = omega arith; cdi = omega arith };
      start = λ d ram1 y. record { reply = omega arith; cdi = rw length-take (omega arith) };
      fail = λ d ram1 y. record { reply = omega arith; cdi = omega arith };
    })

pub byte_short : (s : State) (uds ram : List ℕ) (b : ℕ) → Short (after_byte s uds ram b)
unfolding after_byte
byte_short s uds ram b =
    by_test Short (reports_whole (gathered s b).report) _ _ (λ e. act_short _ _ ram uds) (λ e. record { reply = omega arith; cdi = omega arith })
