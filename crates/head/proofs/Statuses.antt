-- The status of a reply: that header and status byte say the same, and which replies say that it is bad.
use Prim.Native.Nat.{ℕ, ◌+◌, ◌≤◌, ◌<◌}
use mathlib.Core.Bool.{Bool, true, false, cond}
use mathlib.Core.Path.{◌≡◌, refl, sym, subst}
use mathlib.Core.Logic.{◌↔◌}
use mathlib.Core.List.{List}
use native.Mathlib.Omega.{arith}
use lib.Dec.{eqb}
use lib.ListN.{length, take, drop}
use lib.Seq.{take_at}
use Rattle.endian.proofs.Cases.{impossible}
use Rattle.framing.specs.Header.{code_of}
use Rattle.framing.specs.Theorems.{bit}
use Rattle.framing.specs.declared.Status.TheVariants.{Good, Bad}
use Rattle.protocol.specs.Commands.{is_last}
use Rattle.protocol.specs.Replies.{reply_header, sent, header_in, put_in, name_reply, udi_reply, load_reply, block_reply, digest_reply}
use Rattle.protocol.specs.Theorems.{StatusTold, IsReply, is_digest}
use Rattle.protocol.proofs.Proved.{protocol, bit_is}
use Rattle.protocol.specs.declared.Reply.{Reply}
use Rattle.head.specs.Answers.{Outcome}
use Rattle.head.specs.Start.{starting}
use Rattle.head.specs.Act.{Request, asks_name, asks_udi, gives_load, gives_block, halts, request_of, takes, load_answer, finished_with, acted_block, performed, act_refusal, acted}
use Rattle.head.proofs.Ranges.{by_test}
use Rattle.head.proofs.Ways.{by_act}
use Rattle.head.specs.declared.State.{State}

module _ (s : State) (room ram uds : List ℕ) where
  abbrev Told : Outcome → Type 0
  Told o = 1 ≤ o.reply → StatusTold (take o.reply o.room)

  told_by : (r : Reply) → IsReply r → (n : ℕ) → length (sent r) ≡ n → StatusTold (take n (put_in room (sent r)))
  unfolding put_in
  told_by r i n e = subst StatusTold (sym (take_at (sent r) (drop (length (sent r)) room) n e)) (protocol.told r i)

  digest_told : (h : ℕ) (d : List ℕ) → StatusTold (take 129 (put_in room (sent (digest_reply h d))))
  unfolding digest_reply
  digest_told h d = told_by (digest_reply h d) (is_digest h d) 129 (protocol.lengths _ (is_digest h d)).1

  pub told : Told (acted s room ram uds)
  unfolding starting
  told =
      by_act s room ram uds Told
      (record {
        refused = λ k e n z. absurd (omega arith);
        halt = λ k n z. absurd (omega arith);
        reply = λ r f z. told_by r f (r.len + 1) (protocol.lengths r f).1;
        progress = λ r f p ram1 o v y z. told_by r f (r.len + 1) (protocol.lengths r f).1;
        start = λ d ram1 y z. digest_told s.incoming.header d;
        fail = λ d ram1 y z. digest_told s.incoming.header d;
      })

  -- ---- which frames get a bad status

  abbrev h : ℕ
  h = s.incoming.header

  abbrev Shows : Request → Outcome → Type 0
  Shows r o = 1 ≤ o.reply → (bit 2 (header_in o.room) ≡ 1) ↔ ((r ≡ gives_load) × (takes s ≡ false))

  -- a reply with a good status, or without one, to anything but a load
  good_shown : (r : Request) (n : ℕ) → code_of n < 4 → (r ≡ gives_load → ⊥) → (bit 2 (reply_header h n Good) ≡ 1) ↔ ((r ≡ gives_load) × (takes s ≡ false))
  good_shown r n c d = (λ e. absurd (let z = bit_is h n Good c in omega arith), λ e. absurd (d e.0))

  load_shown : (t : Bool) → (bit 2 (reply_header h 4 (cond t Good Bad)) ≡ 1) ↔ ((gives_load ≡ gives_load) × (t ≡ false))
  load_shown true = (λ e. absurd (let z = bit_is h 4 Good (omega arith) in omega arith), λ e. let f = e.1 in impossible cc)
  load_shown false = (λ e. (refl, refl), λ e. bit_is h 4 Bad (omega arith))

  by_request : (r : Request) → Shows r (performed r s room ram uds)
  unfolding put_in name_reply udi_reply load_answer load_reply block_reply digest_reply finished_with acted_block
  by_request asks_name = λ z. good_shown asks_name 32 (omega arith) (λ e. impossible cc)
  by_request asks_udi = λ z. good_shown asks_udi 32 (omega arith) (λ e. impossible cc)
  by_request gives_load = λ z. load_shown (takes s)
  by_request gives_block =
      by_test (Shows gives_block) (is_last s.progress.size s.progress.block) _ _
      (λ l z. good_shown gives_block 128 (omega arith) (λ e. impossible cc)) (λ l z. good_shown gives_block 4 (omega arith) (λ e. impossible cc))
  by_request (halts k) = λ z. absurd (omega arith)

  pub shows : Shows (request_of s) (acted s room ram uds)
  unfolding acted
  shows = by_test (Shows (request_of s)) (eqb (act_refusal s (length room) (length ram) (length uds)) 0) _ _ (λ e. by_request (request_of s)) (λ e z. absurd (omega arith))
