-- An exponent is the place of the highest bit, whatever the number above 0.
use Rattle.std.proofs.Common.{◌≡◌, ◌+◌, suc, arith}
use Rattle.ffv1_range.specs.Symbols.{exponent}
use Rattle.ffv1_range.proofs.Exponents.{exponent_place}
use Rattle.ffv1_range.proofs.laws.exponent_is_the_highest_bit.Goals as goal

pub returns-clause-least : goal.returns-clause-least
returns-clause-least c = λ n some. (exponent_place n some).0

pub returns-clause-most : goal.returns-clause-most
returns-clause-most c = λ n some.
    let next : exponent n + 1 ≡ suc (exponent n) = omega arith in
    rw next (exponent_place n some).1
