-- The bytes of a line of its cell in a plane.
use Rattle.std.proofs.Common.{◌≡◌, ◌+◌, ◌*◌, ◌≤◌, ◌∙◌, ap, sym, subst, length, take, drop, arith}
use Rattle.std.proofs.lemmas.Grind.{common_steps}
use Rattle.ffv1_samples.specs.Samples.{sample_bytes}
use Rattle.ffv1_slice.specs.Grid.{Division, division_of}
use Rattle.ffv1_frame.specs.Picture.{IsPicture, plane}
use Rattle.ffv1_frame.proofs.lemmas.picture.Lines.{Sides}
use Rattle.ffv1_encode.proofs.lemmas.slice.CellLines.{Lay, lay_inside, lay_line, lent, line_small}
use Rattle.ffv1_encode.proofs.slice.Slice.line.Given.{Over}
use Rattle.ffv1_encode.proofs.slice.Slice.line.Goals.{After-width}
use Rattle.ffv1_encode.proofs.slice.Slice.line.Goals as goal

-- where the line stands in its plane
module _ (g : Over) (c : After-width g) where
  samples_are : c.as_slice-samples.result.now ≡ plane c.args.self.now.picture.now c.args.plane
  samples_are =
      let slice = c.args.self.now in
      lent slice.picture.now c.planes.result.now c.args.plane c.index-planes-plane.result
      (division_of slice.checked.now.configuration) _ c.planes.ensures.value slice.fits.are
      c.requires.plane c.index-planes-plane.is c.as_slice-samples.ensures.value

  bytes_are : c.sample_bytes.result ≡ sample_bytes c.args.self.now.checked.now.configuration.depth
  bytes_are = c.sample_bytes.ensures.value ∙ ap (λ (d : Division). sample_bytes d.depth)
      c.args.self.now.divided

  lay : Lay c.args.self.now.grid.now c.args.self.now.number c.args.plane c.cell-cell.result.left
      c.cell-cell.result.top c.cell-cell.result.width c.width.result
  lay = record {
    left_is = c.cell-cell.ensures.left;
    top_is = c.cell-cell.ensures.top;
    wide_is = c.cell-cell.ensures.width;
    whole_is = c.width.ensures;
  }

  room : sample_bytes c.args.self.now.checked.now.configuration.depth *
      ((c.cell-cell.result.top + c.args.y) * c.width.result + c.cell-cell.result.left
      + c.cell-cell.result.width) ≤ length c.as_slice-samples.result.now
  room =
      let laws : Sides = record {
        across = c.cells_tile_their_plane.ensures.across;
        down = c.cells_tile_their_plane.ensures.down;
        ends = c.parts_follow_one_another.ensures.coded;
      } in
      let slice = c.args.self.now in
      lay_inside slice.checked.now.configuration slice.picture.now c.args.self.now.grid.now slice.number
      c.args.plane c.args.y _ _ _ _ c.as_slice-samples.result.now laws slice.division
      c.args.self.now.divided
      lay
      slice.inside c.requires.inside (slice.fits.are.sizes c.args.plane c.requires.plane)
      samples_are

pub line_of-requires-clause-fits : goal.line_of-requires-clause-fits
line_of-requires-clause-fits g c =
    let slice = c.args.self.now in
    let samples = c.as_slice-samples.result.now in
    let here = (goal.at.line_of-requires-clause-fits g c).After-width in
    subst (λ k. k * ((c.cell-cell.result.top + c.args.y) * c.width.result + c.cell-cell.result.left
    + c.cell-cell.result.width) ≤ length samples) (sym (bytes_are g here)) (room g here)

pub returns-clause-line : goal.returns-clause-line
returns-clause-line g c =
    let slice = c.args.self.now in
    let conf = slice.checked.now.configuration in
    let samples = c.as_slice-samples.result.now in
    let here = (goal.at.returns-clause-line g c).After-width in
    lay_line conf slice.picture.now c.args.self.now.grid.now slice.number c.args.plane c.args.y _ _ _ _
    samples c.line_of.result.now c.args.self.now.divided
    (lay g here)
    (samples_are g here) (room g here) (c.line_of.ensures ∙
    ap (λ k. take (k * c.cell-cell.result.width)
    (drop (k * ((c.cell-cell.result.top + c.args.y) * c.width.result + c.cell-cell.result.left))
    samples)) (bytes_are g here))

pub returns-clause-small : goal.returns-clause-small
returns-clause-small g c =
    let slice = c.args.self.now in
    let conf = slice.checked.now.configuration in
    let samples = c.as_slice-samples.result.now in
    let here = (goal.at.returns-clause-small g c).After-width in
    let picture : IsPicture conf slice.picture.now =
    record { fits = slice.fits; bytes = c.planes.ensures.samples } in
    line_small conf slice.picture.now c.args.plane c.sample_bytes.result
    ((c.cell-cell.result.top + c.args.y) * c.width.result + c.cell-cell.result.left)
    c.cell-cell.result.width samples c.line_of.result.now picture (bytes_are g here)
    (samples_are g here)
    c.line_of.ensures

pub offset_bounds-planes-plane : goal.offset_bounds-planes-plane
offset_bounds-planes-plane g c = grind (arith, common_steps)

pub bounds-planes-plane : goal.bounds-planes-plane
bounds-planes-plane g c = grind (arith, common_steps)
