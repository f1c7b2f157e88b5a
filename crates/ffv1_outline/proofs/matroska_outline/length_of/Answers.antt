-- How many bytes a variable-size integer has, by the first of them.
use Rattle.std.proofs.Common.{arith}
use Rattle.ffv1_outline.proofs.VintLengths.{length_by_zeros}
use Rattle.ffv1_outline.proofs.matroska_outline.length_of.Goals as goal

pub returns-clause-value : goal.returns-clause-value
returns-clause-value c =
    length_by_zeros c.first_byte_says_the_length.ensures c.args.first (omega (arith, c.ranges.first))
