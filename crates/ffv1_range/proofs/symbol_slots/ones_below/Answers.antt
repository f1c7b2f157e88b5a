-- How many bits of a number are 1, but for its highest.
use Rattle.std.proofs.Common.{arith}
use Rattle.ffv1_range.specs.Symbols.{exponent}
use Rattle.ffv1_range.proofs.Counting.{mantissa_ones}
use Rattle.ffv1_range.proofs.Prefix.{exponent_of}
use Rattle.ffv1_range.proofs.SetBits.{number_bits}
use Rattle.ffv1_range.proofs.symbol_slots.ones_below.Goals as goal

pub overflow_sub-result : goal.overflow_sub-result
overflow_sub-result c =
    let bits = number_bits c.args.number c.requires.positive c.requires.small in
    omega arith

pub returns : goal.returns
returns c =
    let bits = number_bits c.args.number c.requires.positive c.requires.small in
    let most = mantissa_ones (exponent c.args.number) 0 c.args.number in
    let is = exponent_of c.args.number c.requires.positive c.requires.small in
    let short = is.small in
    record { ones = omega arith; few = omega arith; most = omega arith }
