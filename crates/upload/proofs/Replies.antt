-- What a reply that is taken says of its frame.
use Prim.Native.Nat.{ℕ, ◌+◌, ◌-◌, ◌<◌, ◌≤◌}
use native.Mathlib.Omega.{arith}
use mathlib.Core.Path.{◌≡◌, refl, sym, ap, ◌∙◌}
use mathlib.Core.Bool.{Bool, true, false, not, cond, ◌&&◌}
use mathlib.Core.List.{List}
use lib.Dec.{eqb, leb, ltb}
use borrow.Author.Tests.{leb-true, eqb-true, eqb-false, lt-ltb, le-ltb}
use Rattle.protocol.specs.Commands.{length_ok, blocks_for, place_of, is_last}
use Rattle.endian.proofs.Cases.{impossible}
use Rattle.std.specs.Prelude.{Result, Ok}
use Rattle.client.specs.declared.Refusal.{Refusal}
use Rattle.client.specs.declared.Taken.{Taken}
use Rattle.client.specs.Replies.{Taking, expected_reply, has_digest, taking_of, taking}
use Rattle.client.proofs.Numbers.{Given, given}
use Rattle.client.proofs.Proved.{not_refusal}
use Rattle.upload.specs.Upload.{came_of}
use Rattle.upload.specs.declared.Job.{Job}
use Rattle.upload.specs.declared.Exchange.{Exchange}

-- its frame is one of the program's
pub taken_given : (n id k : ℕ) (r : List ℕ) → (taking n id k r).number ≡ 0 → Given n id k
taken_given n id k r e = given n id k (not_refusal n id k r e)

pub read_given : (job : Job) (x : Exchange) (r : Result Taken Refusal) (t : Taken) → taking_of r ≡ taking job.len job.id x.k (came_of x) → r ≡ Ok t
    → Given job.len job.id x.k
read_given job x r t e o = taken_given job.len job.id x.k (came_of x) (ap (λ (y : Taking). y.number) (sym e ∙ ap taking_of o))

-- it has no digest where the frames up to it leave some of the program
pub some_left : (n id k : ℕ) → Given n id k → ltb (place_of k) n ≡ not (has_digest (expected_reply n k))
some_left n id k g = go (eqb k 0) (is_last n (k - 1)) refl refl
  where
    go : (a b : Bool) → eqb k 0 ≡ a → is_last n (k - 1) ≡ b
        → ltb (place_of k) n
        ≡ not (has_digest (cond a (record { code = 0x04; len = 4; digest = 0 })
        (cond b (record { code = 0x07; len = 128; digest = 32 }) (record { code = 0x06; len = 4; digest = 0 }))))
    go true b p q = let z = eqb-true k 0 p in let s = g.some in lt-ltb (place_of k) n (omega arith)
    go false true p q = let z = eqb-false k 0 p in let l = eqb-true (blocks_for n) (k - 1 + 1) q in le-ltb (place_of k) n (omega arith)
    go false false p q =
        let z = eqb-false k 0 p in
        let l = eqb-false (blocks_for n) (k - 1 + 1) q in
        let m : k < blocks_for n = omega (arith, g.frame) in
        lt-ltb (place_of k) n (omega arith)

pub length_ok_bounds : (n : ℕ) → length_ok n ≡ true → (1 ≤ n) × (n ≤ 131072)
length_ok_bounds n = go (leb 1 n) (leb n 131072) refl refl
  where
    go : (a b : Bool) → leb 1 n ≡ a → leb n 131072 ≡ b → a && b ≡ true → (1 ≤ n) × (n ≤ 131072)
    go true true p q e = (leb-true 1 n p, leb-true n 131072 q)
    go true false p q e = impossible cc
    go false b p q e = impossible cc
