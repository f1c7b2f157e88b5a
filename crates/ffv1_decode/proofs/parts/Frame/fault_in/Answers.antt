-- A fault of a segment's line, at this column of its plane.
use Rattle.std.proofs.Common.{◌≡◌, ◌+◌, ◌<◌, arith}
use Rattle.ffv1_slice.specs.Grid.{down, division_of}
use Rattle.ffv1_frame.specs.Decoding.{top_of}
use Rattle.ffv1_decode.proofs.lemmas.parts.PartPlaces.{inside}
use Rattle.ffv1_decode.proofs.parts.Frame.fault_in.Goals.{After-first_top-top}
use Rattle.ffv1_decode.proofs.parts.Frame.fault_in.Given.{Over}
use Rattle.ffv1_decode.proofs.parts.Frame.fault_in.Goals as goal

-- the line lies in the picture, whose height has 16 bits
within : (g : Over) (c : After-first_top-top g) → c.first_top-top.result + c.args.segment.now.y < 65536
within g c =
    let conf = c.args.self.now.checked.now.configuration in
    let p = c.args.segment.now.plane in
    let are = c.slices_lie_beside_one_another.ensures.down conf c.args.self.now.checked.now.table p
    c.requires.frame.accepted in
    let top : c.first_top-top.result ≡ top_of conf p c.args.segment.now.row = rw c.requires.frame.grid at
    c.first_top-top.ensures in
    let all = inside (down (division_of conf) p) are c.args.segment.now.row c.requires.row in
    let sizes = c.accepted_configuration_is_in_range.ensures.sizes conf
    c.args.self.now.checked.now.table c.requires.frame.accepted in
    omega (arith, top, all, sizes, c.requires.y)

pub overflow_add-result-2 : goal.overflow_add-result-2
overflow_add-result-2 g c =
    let small = within g (goal.at.overflow_add-result-2 g c).After-first_top-top in
    omega (arith, small)

pub overflow_cast-result-3 : goal.overflow_cast-result-3
overflow_cast-result-3 g c =
    let small = within g (goal.at.overflow_cast-result-3 g c).After-first_top-top in
    omega (arith, small)
