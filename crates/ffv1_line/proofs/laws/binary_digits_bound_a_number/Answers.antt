-- A number has d binary digits where it is at least 2^(d-1) and below 2^d, and 0 has none.
use Rattle.ffv1_line.proofs.lemmas.laws.MostDecisions.{digits_least, digits_below}
use Rattle.std.proofs.Common.{refl}
use Rattle.ffv1_line.proofs.laws.binary_digits_bound_a_number.Goals as goal

pub returns-clause-least : goal.returns-clause-least
returns-clause-least c = λ n some. digits_least n some

pub returns-clause-most : goal.returns-clause-most
returns-clause-most c = λ n. digits_below n

pub returns-clause-none : goal.returns-clause-none
returns-clause-none c = refl
