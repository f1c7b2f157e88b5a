-- The number without a sign whose symbol comes next, below 2^31, by 32 states that the table holds.
use Rattle.std.proofs.Common.{◌<◌, refl, sym, arith}
use Rattle.std.proofs.Math.Pow.{pow_pos}
use Rattle.ffv1_range.proofs.Exponents.{exponent_is}
use Rattle.ffv1_range.proofs.Signed.{magnitude_reads, unsigned_is}
use Rattle.ffv1_range.proofs.Steps.{reads_counted, reads_append}
use Rattle.ffv1_range.proofs.Counting.{magnitude_ones, magnitude_length, too_long_ones}
use Rattle.ffv1_range.proofs.Counting.{too_long_length}
use Rattle.ffv1_range.proofs.decoder.RangeDecoder.get_unsigned.Goals as goal

pub returns-then-decide_slot-clause-follows : goal.returns-then-decide_slot-clause-follows
returns-then-decide_slot-clause-follows c =
    reads_counted _ _ _ _ _ _ _ c.if-decide_slot.ensures.reads c.count.ensures.rest
    (c.count.ensures.counts _ refl refl)

pub returns-in_default-clause-refused : goal.returns-in_default-clause-refused
returns-in_default-clause-refused c = (
  refl,
  reads_counted _ _ _ _ _ _ _ (reads_append _ _ _ _ _ _ _ _ _ c.if-decide_slot.ensures.reads
      c.in_default.ensures.refused) c.count-in_default.ensures.rest
      (c.count-in_default.ensures.counts _ (sym too_long_ones) (sym too_long_length)),
)

pub returns-clause-follows : goal.returns-clause-follows
returns-clause-follows c =
    let power = pow_pos c.in-Ok.exponent in
    let positive : 0 < c.get_mantissa-number.result =
    omega (arith, c.get_mantissa-number.ensures.least) in
    let exponent = exponent_is c.in-Ok.exponent c.get_mantissa-number.result
    c.get_mantissa-number.ensures.least c.get_mantissa-number.ensures.most in
    let ones = magnitude_ones _ _ c.ones_below-ones.result exponent
    (rw exponent at c.ones_below-ones.ensures.ones) in
    let long = magnitude_length c.get_mantissa-number.result _ exponent in
    let reads = magnitude_reads _ _ _ _ _ _ _ _ _ c.in-Ok.exponent _ c.in-Ok.ensures.small
    c.get_mantissa-number.ensures.least c.get_mantissa-number.ensures.most
    c.if-decide_slot.ensures.reads c.in-Ok.ensures.reads c.get_mantissa-number.ensures.reads in
    rw (unsigned_is c.get_mantissa-number.result positive)
    (reads_counted _ _ _ _ _ _ _ reads c.count-2.ensures.rest
    (c.count-2.ensures.counts _ (omega arith) (omega arith)))

pub overflow_sub-exponent : goal.overflow_sub-exponent
overflow_sub-exponent c =
    let exponent = exponent_is c.in-Ok.exponent c.get_mantissa-number.result
    c.get_mantissa-number.ensures.least c.get_mantissa-number.ensures.most in
    omega arith
