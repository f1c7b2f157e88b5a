-- The rest of a header whose ID was read.
use Rattle.std.proofs.Common.{length, take, arith}
use Rattle.ffv1_ebml.proofs.Numbers.{four_fit}
use Rattle.ffv1_ebml.proofs.element.element_rest.Goals as goal

pub overflow_cast-number : goal.overflow_cast-number
overflow_cast-number g c =
    let bytes = take c.args.ident.now.len c.args.ident.now.bytes in
    let fits = four_fit c.number_of-number.result (length bytes) c.number_of-number.ensures.fits
    (omega (arith, c.requires.len, c.requires.few)) in
    omega (arith, fits)
