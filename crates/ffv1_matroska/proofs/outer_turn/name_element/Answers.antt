-- An element of the Segment after its ID, or the fault of that.
use Rattle.std.proofs.Common.{length, take, arith}
use Rattle.ffv1_ebml.proofs.Numbers.{four_fit}
use Rattle.ffv1_matroska.proofs.outer_turn.name_element.Goals as goal

pub overflow_cast-number : goal.overflow_cast-number
overflow_cast-number g c =
    let bytes = take c.in-Ok.ident.len c.in-Ok.ident.bytes in
    let long = rw c.in-Ok.is at c.requires.len in
    let most = rw c.in-Ok.is at c.requires.most in
    let fits = four_fit c.number_of-number.result (length bytes) c.number_of-number.ensures.fits
    (omega (arith, long, most)) in
    omega (arith, fits)
