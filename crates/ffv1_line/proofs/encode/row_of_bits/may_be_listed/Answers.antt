-- Whether the symbols of residuals of more than 9 bits are written by a list.
use Rattle.std.proofs.Common.{arith}
use Rattle.ffv1_line.proofs.lemmas.encode.NineBits.{nine_bits_near, half_short}
use Rattle.ffv1_line.proofs.encode.row_of_bits.may_be_listed.Goals as goal

pub overflow_sub-zero-2 : goal.overflow_sub-zero-2
overflow_sub-zero-2 c =
    let half = half_short c.args.bits (omega (arith, c.requires.above_nine)) c.requires.unsigned.most in
    omega (arith, half.0, half.1)

pub returns : goal.returns
returns c = λ listed k inside small.
    let half = half_short c.args.bits (omega (arith, c.requires.above_nine)) c.requires.unsigned.most in
    nine_bits_near c.args.bits _ _ _ (omega (arith, c.requires.above_nine)) half.0
    (omega (arith, half.0, half.1)) (omega (arith, half.0, half.2)) small
    (c.greatest_above.ensures k inside) (omega (arith, c.if-greatest_above-gt511.false))
