-- The quarter of the definition is rounded down, for negative numbers too.
use Rattle.ffv1_rct.proofs.Places.{quarter_least, quarter_most}
use Rattle.ffv1_rct.proofs.laws.quarter_is_rounded_down.Goals as goal

pub returns : goal.returns
returns c = record { least = quarter_least; most = quarter_most }
