-- The place of the highest bit of a number.
use Rattle.ffv1_range.proofs.Exponents.{exponent_zeros}
use Rattle.std.proofs.Common.{◌<◌, ◌^◌, sym, arith}
use Rattle.ffv1_range.proofs.symbol_slots.exponent.Goals as goal

pub returns-clause-value : goal.returns-clause-value
returns-clause-value c =
    let wide : c.args.number < 2 ^ 32 = omega arith in
    sym (exponent_zeros c.args.number c.requires wide)
