-- `load` of `CellRows` for `SlicePlane`.
use Rattle.std.proofs.Common.{◌≡◌, ◌+◌, ◌*◌, ◌∙◌, ap, subst, sym, suc, List, ℕ, arith}
use Rattle.ffv1_samples.specs.Samples.{sample_bytes, samples_of}
use Rattle.ffv1_line.specs.Cell.{Shows}
use Rattle.ffv1_frame.specs.Picture.{cell_in}
use Rattle.ffv1_encode.proofs.lemmas.cell_rows.RowsShown.{plain_shows}
use Rattle.ffv1_encode.proofs.cell_rows.SlicePlaneCellRows.load.Goals as goal

pub widen_to-requires : goal.widen_to-requires
widen_to-requires g c =
    let slice = c.args.self.now.slice.now in
    let cell = cell_in slice.checked.now.configuration slice.picture.now slice.number
    c.args.self.now.plane in
    c.line.ensures.line.wide ∙ ap (λ d. sample_bytes d * cell.width) (sym c.depth.ensures.value) ∙
    ap (λ n. sample_bytes c.depth.result * n) (sym c.requires.long)

pub returns : goal.returns
returns g c =
    let slice = c.args.self.now.slice.now in
    let conf = slice.checked.now.configuration in
    let plane = c.args.self.now.plane in
    let cell = cell_in conf slice.picture.now slice.number plane in
    let line = c.line.result.now in
    let filled : c.widen_to.new.row ≡ samples_of conf.depth line = c.widen_to.ensures ∙
    ap (λ d. samples_of d line) c.depth.ensures.value in
    let more : suc (suc c.args.y) ≡ c.args.y + 2 = omega arith in
    let shows = plain_shows conf slice.picture.now slice.number plane c.args.y line
    c.line.ensures.line c.args.self.now.plain in
    subst (λ k. Shows cell k c.widen_to.new.row cell.width) more
    (subst (λ (l : List ℕ). Shows cell (suc (suc c.args.y)) l cell.width) (sym filled) shows)
