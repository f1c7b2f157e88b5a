-- Where the levels of a table end.
use Rattle.std.proofs.Common.{arith}
use Rattle.ffv1_plane.proofs.Levels.{filled_from}
use Rattle.ffv1_plane.proofs.table.steps_of.Goals as goal

pub overflow_cast-result : goal.overflow_cast-result
overflow_cast-result c = let few = (filled_from c.args.runs.now c.requires).few in
    record { fits = omega arith }
