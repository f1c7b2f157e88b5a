-- The number whose zeros, a 1 and `k` bits begin a window.
use Rattle.std.proofs.Common.{arith}
use Rattle.std.proofs.lemmas.Nat.{shl_whole}
use Rattle.ffv1_rice.proofs.Numbers.{short_window}
use Rattle.ffv1_rice.proofs.number.short_number.Goals as goal

pub returns : goal.returns
returns c =
    let few = c.requires.few in
    let least = c.requires.k in
    rw (shl_whole c.args.zeros 4 c.args.k 32 (omega (arith, few)) (omega (arith, least)))
    (short_window c.args.window c.args.zeros c.args.k c.lowest.result c.ranges.window.fits
    c.requires.zeros few least c.lowest.ensures)
