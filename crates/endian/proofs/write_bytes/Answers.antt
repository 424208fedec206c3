use mathlib.Core.Path.{◌≡◌}
use mathlib.Core.List.{append-nil}
use native.Mathlib.Omega.{arith}
use lib.Seq.{drop-length, take_all}
use lib.ListN.{length}
use Rattle.endian.specs.Endian.{first_bytes}
use Rattle.endian.proofs.Words.{bytes_length, bytes_more}
use Rattle.endian.proofs.write_bytes.Goals as goal

pub loop-i-preserved : goal.loop-i-preserved
loop-i-preserved c =
    let l = c.loop-i in
    let a = c.args in
    rw (c.byte_at.ensures, l.invariant) (bytes_more (length a.out.now) a.words.now a.out.now l.i (omega arith) (omega arith))

pub returns : goal.returns
returns c =
    let l = c.loop-i in
    let a = c.args in
    let n = length a.out.now in
    let e : l.i ≡ n = omega arith in
    let k : n ≡ length (first_bytes n a.words.now) = rw bytes_length in
    rw (l.invariant, e, drop-length a.out.now, append-nil) (take_all n (first_bytes n a.words.now) (omega arith))
