-- `load` of `CellRows` for `SlicePlane`.
use Rattle.std.proofs.Common.{◌≡◌, ◌*◌, ◌∙◌, ap, subst, sym, suc, length, List, ℕ}
use Rattle.ffv1_samples.specs.Samples.{sample_bytes, samples_of}
use Rattle.ffv1_samples.proofs.Depths.{length_samples}
use Rattle.ffv1_line.specs.Cell.{Shows}
use Rattle.ffv1_frame.specs.Picture.{cell_in}
use Rattle.ffv1_encode.proofs.lemmas.cell_rows.RowsShown.{plain_shows}
use Rattle.ffv1_encode.proofs.cell_rows.load.Goals as goal

pub fill-requires : goal.fill-requires
fill-requires g c =
    let line = c.line.result.now in
    c.line.ensures.line.wide ∙ ap (λ d. sample_bytes d *
    (cell_in c.args.slice.now.checked.now.configuration c.args.slice.now.picture.now
    c.args.slice.now.number c.args.plane).width) (sym c.depth.ensures.value)
    ∙ ap (λ n. sample_bytes c.depth.result * n)
    (sym c.requires.rolled.cur_long ∙ g.met.W.Word.lengths c.args.rows.now.cur.items)

pub returns-clause-loaded : goal.returns-clause-loaded
returns-clause-loaded g c =
    let slice = c.args.slice.now in
    let conf = slice.checked.now.configuration in
    let cell = cell_in conf slice.picture.now slice.number c.args.plane in
    let line = c.line.result.now in
    let filled : g.W.Word.samples c.fill.new.row.items ≡ samples_of conf.depth line =
    c.fill.ensures.filled ∙ ap (λ d. samples_of d line) c.depth.ensures.value in
    record {
      above = c.requires.rolled.above;
      two_long = c.requires.rolled.two_long;
      cur_long = ap length filled ∙ length_samples conf.depth cell.width line
          c.line.ensures.line.wide;
      shows = subst (λ (l : List ℕ). Shows cell (suc (suc c.args.y)) l cell.width) (sym filled)
          (plain_shows conf slice.picture.now slice.number c.args.plane c.args.y line
          c.line.ensures.line c.requires.plain);
    }
