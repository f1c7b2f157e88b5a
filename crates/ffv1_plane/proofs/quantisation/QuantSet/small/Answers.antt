-- The set of the runs 1 1 3 7 11 105 three times and 128 twice, of 666 contexts.
use Rattle.std.proofs.lemmas.Grind.{common_steps}
use Rattle.std.proofs.Common.{arith}
use Rattle.ffv1_plane.proofs.quantisation.QuantSet.small.Goals as goal

pub returns-clause-contexts : goal.returns-clause-contexts
returns-clause-contexts g c = grind (arith, common_steps)
