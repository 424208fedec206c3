-- Memory that is written from its front to its end.
use Prim.Native.Nat.{ℕ, ◌+◌}
use mathlib.Core.Path.{◌≡◌, refl, ap, ◌∙◌}
use mathlib.Core.List.{List, [], ◌++◌, append_assoc, append-nil}
use native.Mathlib.Omega.{arith}
use lib.ListN.{length, drop, length-append, drop_of_length-le}
use lib.Seq.{paste, take_at, take-length, drop-append-add, drop-drop}
use Rattle.head.specs.declared.State.{State}
use Rattle.abi.specs.Layout.{small_of, memory_of}
use Rattle.abi.specs.Theorems.{Sized}

-- the part after what is written
next : (p b src : List ℕ) (k n : ℕ) → length p ≡ k → length src ≡ n → paste (p ++ drop k b) k src (length src) ≡ (p ++ src) ++ drop (k + n) b
next p b src k n e f =
    let d : drop (k + length src) (p ++ drop k b) ≡ drop (k + n) b =
    rw (← e) (drop-append-add p (drop (length p) b) (length src) ∙ drop-drop (length src) (length p) b ∙ rw f) in
    rw (take_at p (drop k b) k e, take-length src, d, append_assoc)

then : (p b src d d' : List ℕ) (k n : ℕ) → length p ≡ k → length src ≡ n → d ≡ p ++ drop k b → d' ≡ paste d k src (length src) → d' ≡ (p ++ src) ++ drop (k + n) b
then p b src d d' k n e f g h = h ∙ ap (λ (x : List ℕ). paste x k src (length src)) g ∙ next p b src k n e f

longer : (p src : List ℕ) (k n : ℕ) → length p ≡ k → length src ≡ n → length (p ++ src) ≡ k + n
longer p src k n e f = let l = length-append p src in omega arith

pub packed : (s : State) (b small b1 b2 b3 b4 b5 b6 b7 : List ℕ) → length b ≡ 268 → Sized s → small ≡ small_of s
    → b1 ≡ paste b 0 s.incoming.body (length s.incoming.body)
    → b2 ≡ paste b1 128 small (length small)
    → b3 ≡ paste b2 132 s.config.digests.first (length s.config.digests.first)
    → b4 ≡ paste b3 164 s.config.measured_id (length s.config.measured_id)
    → b5 ≡ paste b4 196 s.config.udi (length s.config.udi)
    → b6 ≡ paste b5 204 s.progress.uss (length s.progress.uss)
    → b7 ≡ paste b6 236 s.config.digests.second (length s.config.digests.second)
    → b7 ≡ (memory_of s).bytes
unfolding memory_of
packed s b small b1 b2 b3 b4 b5 b6 b7 full z e h1 h2 h3 h4 h5 h6 h7 =
    let p1 = s.incoming.body in
    let p2 = p1 ++ small in
    let p3 = p2 ++ s.config.digests.first in
    let p4 = p3 ++ s.config.measured_id in
    let p5 = p4 ++ s.config.udi in
    let p6 = p5 ++ s.progress.uss in
    let ls : length small ≡ 4 = ap length e in
    let l1 = z.body in
    let l2 : length p2 ≡ 132 = longer p1 small 128 4 l1 ls in
    let l3 : length p3 ≡ 164 = longer p2 s.config.digests.first 132 32 l2 z.first in
    let l4 : length p4 ≡ 196 = longer p3 s.config.measured_id 164 32 l3 z.measured in
    let l5 : length p5 ≡ 204 = longer p4 s.config.udi 196 8 l4 z.udi in
    let l6 : length p6 ≡ 236 = longer p5 s.progress.uss 204 32 l5 z.uss in
    let e1 : b1 ≡ p1 ++ drop 128 b = then [] b p1 b b1 0 128 refl l1 refl h1 in
    let e2 : b2 ≡ p2 ++ drop 132 b = then p1 b small b1 b2 128 4 l1 ls e1 h2 in
    let e3 : b3 ≡ p3 ++ drop 164 b = then p2 b s.config.digests.first b2 b3 132 32 l2 z.first e2 h3 in
    let e4 : b4 ≡ p4 ++ drop 196 b = then p3 b s.config.measured_id b3 b4 164 32 l3 z.measured e3 h4 in
    let e5 : b5 ≡ p5 ++ drop 204 b = then p4 b s.config.udi b4 b5 196 8 l4 z.udi e4 h5 in
    let e6 : b6 ≡ p6 ++ drop 236 b = then p5 b s.progress.uss b5 b6 204 32 l5 z.uss e5 h6 in
    let e7 : b7 ≡ (p6 ++ s.config.digests.second) ++ drop 268 b = then p6 b s.config.digests.second b6 b7 236 32 l6 z.second e6 h7 in
    e7 ∙ rw (drop_of_length-le b {i = 268} (omega arith), append-nil, e)
