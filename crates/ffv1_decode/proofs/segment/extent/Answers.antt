-- Where a segment begins and ends in a rolling line.
use Rattle.std.proofs.Common.{◌≡◌, ◌*◌, ap, sym, arith}
use Rattle.ffv1_record.specs.Configuration.{Configuration}
use Rattle.ffv1_slice.specs.Grid.{across, division_of}
use Rattle.ffv1_frame.specs.Decoding.{left_of, width_in}
use Rattle.ffv1_decode.specs.Internal.Places.{AreParts}
use Rattle.ffv1_decode.proofs.lemmas.parts.PartPlaces.{inside}
use Rattle.ffv1_decode.proofs.segment.extent.Given.{Over}
use Rattle.ffv1_decode.proofs.segment.extent.Goals.{After-cell_across-cell}
use Rattle.ffv1_decode.proofs.segment.extent.Goals as goal

-- the columns lie beside one another
module _ (g : Over) (c : After-cell_across-cell g) where
  columns_are : AreParts (across (division_of c.args.frame.now.checked.now.configuration)
      c.args.segment.now.plane)
  columns_are = c.slices_lie_beside_one_another.ensures.across
      c.args.frame.now.checked.now.configuration c.args.frame.now.checked.now.table
      c.args.segment.now.plane c.requires.frame.accepted

  from : c.cell_across-cell.result.0 ≡ left_of c.args.frame.now.checked.now.configuration
      c.args.segment.now.plane c.args.segment.now.column
  from = rw c.requires.frame.grid at c.cell_across-cell.ensures.first

  wide : c.cell_across-cell.result.1 ≡ width_in c.args.frame.now.checked.now.configuration
      c.args.segment.now.plane c.args.segment.now.column
  wide = rw c.requires.frame.grid at c.cell_across-cell.ensures.coded

pub returns-clause-left : goal.returns-clause-left
returns-clause-left g c =
    let here = (goal.at.returns-clause-left g c).After-cell_across-cell in
    let width = ap (λ (z : Configuration). z.width) c.config.ensures.value in
    let first : c.args.segment.now.index * c.config.result.now.width ≡ c.args.segment.now.index *
    c.args.frame.now.checked.now.configuration.width = ap (λ n. c.args.segment.now.index * n)
    (sym width) in
    omega (arith, from g here, first)

pub returns-clause-right : goal.returns-clause-right
returns-clause-right g c =
    let here = (goal.at.returns-clause-right g c).After-cell_across-cell in
    omega (arith, wide g here)

pub returns-clause-some : goal.returns-clause-some
returns-clause-some g c =
    let here = (goal.at.returns-clause-some g c).After-cell_across-cell in
    let some = (columns_are g here).some c.args.segment.now.column c.requires.column in
    omega (arith, wide g here, some)

pub returns-clause-inside : goal.returns-clause-inside
returns-clause-inside g c =
    let conf = c.args.frame.now.checked.now.configuration in
    let here = (goal.at.returns-clause-inside g c).After-cell_across-cell in
    let all = inside (across (division_of conf) c.args.segment.now.plane) (columns_are g here)
    c.args.segment.now.column c.requires.column in
    let width : conf.width ≡ c.config.result.now.width = ap (λ (z : Configuration). z.width)
    c.config.ensures.value in
    let first : c.args.segment.now.index * c.config.result.now.width ≡ c.args.segment.now.index *
    conf.width = ap (λ n. c.args.segment.now.index * n) (sym width) in
    omega (arith, from g here, wide g here, all, first)
