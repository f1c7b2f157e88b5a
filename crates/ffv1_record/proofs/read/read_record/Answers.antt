-- The configuration of a record (RFC 9043, 4.3), for pictures of a size that the container tells,
-- in the profile `Strict`, whose depth is 8.
use Rattle.std.proofs.Common.{arith}
use Rattle.ffv1_record.proofs.Checks.{depth_bounds}
use Rattle.ffv1_record.proofs.read.read_record.Goals as goal

pub returns-in-Ok-clause-depth : goal.returns-in-Ok-clause-depth
returns-in-Ok-clause-depth g c =
    let bounds = depth_bounds 8 c.in-Ok.checked.configuration.depth c.in-Ok.ensures.depth in
    let least = bounds.0 in
    let most = bounds.2 in
    omega (arith, least, most)

pub returns-in-Ok-clause-only : goal.returns-in-Ok-clause-only
returns-in-Ok-clause-only g c = λ x t wide high eight is passes stored. c.in-Ok.ensures.only x t wide
    high (omega (arith, eight)) is passes stored
