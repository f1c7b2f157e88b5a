-- The number of at most four bytes, big end first.
use Rattle.std.proofs.Common.{arith}
use Rattle.ffv1_ebml.proofs.Numbers.{seven_fit}
use Rattle.ffv1_matroska.proofs.opening.number_of.Goals as goal

pub overflow_mul-number : goal.overflow_mul-number
overflow_mul-number c =
    let fits = seven_fit c.loop-byte.number c.loop-byte.byte-index c.loop-byte.invariant.1
    (omega arith) in
    omega (arith, fits)

pub overflow_add-number : goal.overflow_add-number
overflow_add-number c =
    let fits = seven_fit c.loop-byte.number c.loop-byte.byte-index c.loop-byte.invariant.1
    (omega arith) in
    omega (arith, fits)
