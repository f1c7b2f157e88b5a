-- A difference folded to `bits` bits (RFC 9043, 3.8).
use Rattle.std.proofs.lemmas.Grind.{common_steps}
use Rattle.std.proofs.Common.{arith}
use Rattle.ffv1_plane.proofs.Words.{folded_word}
use Rattle.ffv1_plane.proofs.of_bits.fold_to_bits.Goals as goal

pub returns-clause-value : goal.returns-clause-value
returns-clause-value c = folded_word c.args.bits c.lowest_bits.result c.args.difference
    c.requires.some c.requires.few c.ranges.difference c.lowest_bits.ensures.small
    c.lowest_bits.ensures.value

pub returns-clause-range : goal.returns-clause-range
returns-clause-range c = grind (arith, common_steps)
