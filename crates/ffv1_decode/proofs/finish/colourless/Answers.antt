-- The fault of a sample that has no colour.
use Rattle.std.proofs.Common.{arith}
use Rattle.ffv1_decode.proofs.finish.colourless.Goals as goal

pub fault_in-requires-clause-x : goal.fault_in-requires-clause-x
fault_in-requires-clause-x g c =
    let conf = c.args.frame.now.checked.now.configuration in
    let are = c.slices_lie_beside_one_another.ensures.across conf c.args.frame.now.checked.now.table
    0 c.requires.frame.accepted in
    let fits = are.fits in
    let sizes = c.accepted_configuration_is_in_range.ensures.sizes conf
    c.args.frame.now.checked.now.table c.requires.frame.accepted in
    omega (arith, fits, sizes, c.requires.x)
