-- A fault of a segment, at this of its samples.
use Rattle.std.proofs.Common.{◌≡◌, ◌+◌, ◌<◌, arith}
use Rattle.ffv1_slice.specs.Grid.{across, division_of}
use Rattle.ffv1_frame.specs.Decoding.{left_of}
use Rattle.ffv1_decode.proofs.lemmas.parts.PartPlaces.{inside}
use Rattle.ffv1_decode.proofs.segment.fault_at.Goals.{After-cell_across-cell}
use Rattle.ffv1_decode.proofs.segment.fault_at.Given.{Over}
use Rattle.ffv1_decode.proofs.segment.fault_at.Goals as goal

-- the column lies in the picture, whose width has 16 bits
within : (g : Over) (c : After-cell_across-cell g) → c.cell_across-cell.result.0 + c.args.x < 65536
within g c =
    let conf = c.args.frame.now.checked.now.configuration in
    let p = c.args.segment.now.plane in
    let are = c.slices_lie_beside_one_another.ensures.across conf c.args.frame.now.checked.now.table
    p c.requires.frame.accepted in
    let left : c.cell_across-cell.result.0 ≡ left_of conf p c.args.segment.now.column =
    rw c.requires.frame.grid at c.cell_across-cell.ensures.first in
    let all = inside (across (division_of conf) p) are c.args.segment.now.column
    c.requires.column in
    let sizes = c.accepted_configuration_is_in_range.ensures.sizes conf
    c.args.frame.now.checked.now.table c.requires.frame.accepted in
    omega (arith, left, all, sizes, c.requires.x)

pub overflow_add-cell : goal.overflow_add-cell
overflow_add-cell g c =
    let small = within g (goal.at.overflow_add-cell g c).After-cell_across-cell in
    omega (arith, small)

pub fault_in-requires-clause-x : goal.fault_in-requires-clause-x
fault_in-requires-clause-x g c =
    let small = within g (goal.at.fault_in-requires-clause-x g c).After-cell_across-cell in
    omega (arith, small)
