-- The signed number whose symbol comes next, or none for 0, counted in `nonzeros` alone.
use Rattle.std.proofs.Common.{◌<◌, Bool, arith}
use Rattle.ffv1_range.proofs.Mantissa.{bit_is, one_if_most}
use Rattle.std.proofs.Math.Pow.{pow_pos}
use Rattle.ffv1_range.proofs.Exponents.{exponent_is}
use Rattle.ffv1_range.proofs.Signed.{sized_signed}
use Rattle.ffv1_range.proofs.Steps.{reads_append}
use Rattle.ffv1_range.proofs.Counting.{symbol_ones, symbol_length}
use Rattle.ffv1_range.proofs.Magnitudes.{zero_follows, nonzero_follows, refused_follows}
use Rattle.ffv1_range.proofs.Magnitudes.{symbol_reads}
use Rattle.ffv1_range.proofs.decoder.RangeDecoder.tally_signed.Goals as goal

pub returns-then-decide_slot-clause-follows : goal.returns-then-decide_slot-clause-follows
returns-then-decide_slot-clause-follows c = λ n within. zero_follows _ _ _ _ _ n _ within
    c.if-decide_slot.ensures.reads

pub returns-in_default-clause-refused : goal.returns-in_default-clause-refused
returns-in_default-clause-refused c = λ n within.
    refused_follows _ _ _ _ _ n _ (reads_append _ _ _ _ _ _ _ _ _ c.if-decide_slot.ensures.reads
    c.in_default.ensures.refused)

pub returns-clause-follows : goal.returns-clause-follows
returns-clause-follows c = λ n within.
    let m = c.in-Ok.magnitude in
    let negative : Bool = c.choose_slot-negative.result in
    let power = pow_pos m.exponent in
    let positive : 0 < m.number = omega (arith, c.in-Ok.ensures.least) in
    let exponent = exponent_is m.exponent m.number c.in-Ok.ensures.least c.in-Ok.ensures.most in
    let few = c.in-Ok.ensures.few in
    let sign = bit_is negative in
    let bit = one_if_most negative in
    let ones = symbol_ones m.number m.exponent m.ones negative exponent c.in-Ok.ensures.ones in
    let long = symbol_length m.number m.exponent negative exponent in
    let last = rw c.sign_slot.ensures at c.choose_slot-negative.ensures.reads in
    let reads = symbol_reads _ _ _ _ _ _ _ _ _ m.exponent m.number negative c.in-Ok.ensures.small
    c.in-Ok.ensures.least c.in-Ok.ensures.most c.if-decide_slot.ensures.reads
    c.in-Ok.ensures.reads last in
    rw (sized_signed m.number negative positive)
    (nonzero_follows _ _ _ _ _ _ n m.exponent _ _ _ within c.requires.are (omega arith)
    c.count.ensures.value (omega arith) long reads)
