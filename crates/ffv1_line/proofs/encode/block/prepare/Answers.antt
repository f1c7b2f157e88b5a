-- The contexts and the residuals of a part: in a set whose tables have few levels 16 at once, but
-- at the row's borders, and the last of these again where fewer than 16 are left.
use Rattle.std.proofs.lemmas.Grind.{pieces}
use Rattle.std.proofs.Common.{arith}
use Rattle.ffv1_line.proofs.encode.block.prepare.Goals as goal

pub prepare_lanes-requires-clause-done : goal.prepare_lanes-requires-clause-done
prepare_lanes-requires-clause-done g c = search (pieces, arith)
