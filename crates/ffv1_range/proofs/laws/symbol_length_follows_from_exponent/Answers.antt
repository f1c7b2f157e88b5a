-- How many decisions a symbol takes.
use Rattle.std.proofs.Common.{refl, suc}
use Rattle.ffv1_range.specs.Symbols.{exponent}
use Rattle.ffv1_range.proofs.Counting.{magnitude_length, sized_length, too_long_length}
use Rattle.ffv1_range.proofs.Counting.{length-shifted}
use Rattle.ffv1_range.proofs.laws.symbol_length_follows_from_exponent.Goals as goal

pub returns-clause-unsigned : goal.returns-clause-unsigned
returns-clause-unsigned c = λ n. magnitude_length (suc n) (exponent (suc n)) refl

pub returns-clause-sized : goal.returns-clause-sized
returns-clause-sized c = sized_length

pub returns-clause-refused : goal.returns-clause-refused
returns-clause-refused c = too_long_length

pub returns-clause-shifted : goal.returns-clause-shifted
returns-clause-shifted c = length-shifted
