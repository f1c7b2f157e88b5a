-- The scale after a table of these runs (RFC 9043, 4.1).
use Rattle.std.proofs.Common.{arith, length}
use Rattle.ffv1_plane.proofs.Levels.{filled_from}
use Rattle.ffv1_plane.proofs.Scales.{scale_more, scale_most}
use Rattle.ffv1_plane.proofs.table.scale_after.Goals as goal

pub overflow_mul-result-2 : goal.overflow_mul-result-2
overflow_mul-result-2 c = let most = scale_most c.args.scale (length c.args.runs.now)
    (filled_from c.args.runs.now c.requires.filled).few in omega arith

pub returns-clause-least : goal.returns-clause-least
returns-clause-least c = let more = scale_more c.args.scale (length c.args.runs.now)
    (filled_from c.args.runs.now c.requires.filled).some in omega arith

pub returns-clause-most : goal.returns-clause-most
returns-clause-most c = scale_most c.args.scale (length c.args.runs.now)
    (filled_from c.args.runs.now c.requires.filled).few
