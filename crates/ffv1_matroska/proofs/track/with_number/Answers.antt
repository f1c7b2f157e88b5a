-- The numbers of tracks, with one more.
use Rattle.std.proofs.Common.{◌≡◌, true, sym, refl, arith}
use Rattle.ffv1_matroska.specs.Blocks.{is_unknown}
use Rattle.ffv1_matroska.specs.Tracks.{with_number}
use Rattle.ffv1_matroska.proofs.KnownNumbers.{moved_one, unknown_fits}
use Rattle.ffv1_matroska.proofs.track.with_number.Goals as goal

pub overflow_add-result : goal.overflow_add-result
overflow_add-result c =
    let unknown : is_unknown c.args.known c.args.number ≡ true = sym c.if-is_unknown.ensures in
    let one = moved_one c.bit_of.result (omega (arith, c.bit_of.ensures.most)) in
    let fits = unknown_fits c.args.known c.args.number (omega (arith, c.ranges.known.fits)) unknown in
    let whole = rw (← c.bit_of.ensures.value) at fits in
    omega (arith, one, whole)

pub returns-then-is_unknown : goal.returns-then-is_unknown
unfolding with_number
returns-then-is_unknown c =
    let unknown : is_unknown c.args.known c.args.number ≡ true = sym c.if-is_unknown.ensures in
    let one = moved_one c.bit_of.result (omega (arith, c.bit_of.ensures.most)) in
    rw (unknown, one, c.bit_of.ensures.value) refl
