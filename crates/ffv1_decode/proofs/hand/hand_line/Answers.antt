-- Hands over a line of a plane.
use Rattle.std.proofs.Common.{◌≡◌, ◌+◌, ◌<◌, arith}
use Rattle.ffv1_slice.specs.Grid.{down, division_of}
use Rattle.ffv1_frame.specs.Decoding.{top_of}
use Rattle.ffv1_decode.proofs.lemmas.parts.PartPlaces.{inside}
use Rattle.ffv1_decode.proofs.hand.hand_line.Given.{Over}
use Rattle.ffv1_decode.proofs.hand.hand_line.Goals.{After-first_top-top}
use Rattle.ffv1_decode.proofs.hand.hand_line.Goals as goal

-- the line lies in the picture
small : (g : Over) (c : After-first_top-top g) → c.first_top-top.result + c.args.line.now.y < 65536
small g c =
    let conf = c.args.frame.now.checked.now.configuration in
    let p = c.args.plane in
    let are = c.slices_lie_beside_one_another.ensures.down conf c.args.frame.now.checked.now.table p
    c.requires.frame.accepted in
    let top : c.first_top-top.result ≡ top_of conf p c.args.line.now.row = rw c.requires.frame.grid
    at
    c.first_top-top.ensures in
    let all = inside (down (division_of conf) p) are c.args.line.now.row c.requires.row in
    let sizes = c.accepted_configuration_is_in_range.ensures.sizes conf
    c.args.frame.now.checked.now.table c.requires.frame.accepted in
    omega (arith, top, all, sizes, c.requires.y)

pub overflow_add-y : goal.overflow_add-y
overflow_add-y g c =
    let small = small g (goal.at.overflow_add-y g c).After-first_top-top in
    omega (arith, small)

pub overflow_cast-y : goal.overflow_cast-y
overflow_cast-y g c =
    let small = small g (goal.at.overflow_cast-y g c).After-first_top-top in
    omega (arith, small)
