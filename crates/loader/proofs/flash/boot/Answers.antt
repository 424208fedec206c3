-- The front part is what is tested, measured and stored (`booted`).
use Rattle.std.proofs.Common.{rules}
use Prim.Native.Nat.{◌≤◌}
use lib.ListN.{length}
use mathlib.Core.Path.{◌≡◌, ◌∙◌}
use native.Mathlib.Omega.{arith}
use Rattle.blake2s.proofs.Numbers.{digest_zeros}
use Rattle.loader.proofs.Slots.{program_fits, does_not_fit, booted}
use Rattle.loader.proofs.flash.boot.Goals as goal

pub returns-then-not-fits : goal.returns-then-not-fits
returns-then-not-fits c =
    let a = c.args in
    does_not_fit _ a.size a.c a.ram.now a.uds.now _ c.fits.result c.front-program.ensures c.fits.ensures c.if-not-fits.true c.end.result
    c.end.ensures

pub returns : goal.returns
returns c =
    let a = c.args in
    let fitted : (length c.front-program.result.now ≡ a.size) × (a.size ≤ length a.ram.now) =
    program_fits _ a.size a.c a.ram.now a.uds.now _ c.fits.result c.front-program.ensures c.fits.ensures c.if-not-fits.false in
    let short : length c.front-program.result.now ≤ 4294967295 = omega arith in
    booted _ a.size a.c a.ram.now a.uds.now _ c.fits.result c.front-program.ensures c.fits.ensures c.if-not-fits.false
    c.digest-digest.result c.of_size-p.result c.start_or_stop.result _ _ (c.digest-digest.ensures ∙ digest_zeros c.front-program.result.now short)
    (c.put.ensures.fits (search rules)) c.of_size-p.ensures c.start_or_stop.ensures
