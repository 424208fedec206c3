-- What waits is the final block, filled up with zeros.
use mathlib.Core.Path.{◌≡◌, sym}
use mathlib.Core.List.{append-nil}
use mathlib.Core.Bool.{true}
use Prim.Native.Nat.{◌-◌, ◌*◌}
use native.Mathlib.Omega.{arith}
use lib.ListN.{take}
use Rattle.endian.specs.Lists.{padded}
use Rattle.endian.proofs.Words.{bytes_front}
use Rattle.rfc7693.specs.Rfc7693.{F, words}
use Rattle.blake2s.specs.Stream.{earlier, total, done, waiting, closed}
use Rattle.blake2s.proofs.stream.closed.Goals as goal

pub returns : goal.returns
unfolding closed waiting done total
returns c =
    let a = c.args.c in
    let n = total a in
    let e : c.waiting.result ≡ c.bytes_in-n.result - 64 * earlier c.bytes_in-n.result = omega arith in
    rw (c.close.ensures, c.put_padded.ensures, append-nil, e, c.bytes_in-n.ensures, c.requires.0)
    (sym (bytes_front a.size 32 (F a.h (words (padded 64 (take (n - 64 * earlier n) a.block))) n true) c.requires.1))
