-- A number of an exponent of 2 and more, after the exponent's first two decisions.
use Rattle.std.proofs.Common.{arith}
use Rattle.std.proofs.Math.Pow.{pow_pos}
use Rattle.ffv1_range.proofs.Exponents.{exponent_is}
use Rattle.ffv1_range.proofs.Steps.{reads_append}
use Rattle.ffv1_range.proofs.decoder.fast_symbol.get_long.Goals as goal

pub ones_below-ones-requires-clause-positive : goal.ones_below-ones-requires-clause-positive
ones_below-ones-requires-clause-positive c = let power = pow_pos c.in-Ok.exponent in
    omega (arith, c.get_mantissa-number.ensures.least)

pub returns-in-Ok-clause-reads : goal.returns-in-Ok-clause-reads
returns-in-Ok-clause-reads c = λ first fresh reads.
    reads_append _ _ _ _ _ _ _ _ _ (c.in-Ok.ensures.reads first fresh reads)
    c.get_mantissa-number.ensures.reads

pub returns-in-Ok-clause-ones : goal.returns-in-Ok-clause-ones
returns-in-Ok-clause-ones c =
    let exponent = exponent_is c.in-Ok.exponent c.get_mantissa-number.result
    c.get_mantissa-number.ensures.least c.get_mantissa-number.ensures.most in
    rw exponent at c.ones_below-ones.ensures.ones

pub returns-in-Ok-clause-few : goal.returns-in-Ok-clause-few
returns-in-Ok-clause-few c =
    let exponent = exponent_is c.in-Ok.exponent c.get_mantissa-number.result
    c.get_mantissa-number.ensures.least c.get_mantissa-number.ensures.most in
    rw exponent at c.ones_below-ones.ensures.few
