-- A sink of the configuration's own lines that kept those of a picture has its planes; and whatever
-- lines it kept, its grid, the sizes of its planes and its count are as they were.
use Rattle.ffv1_frame.proofs.lemmas.laws.decoding.FromCoded.{lines_alike, flat_rows}
use Rattle.ffv1_frame.proofs.lemmas.laws.sink.KeptPicture.{lines_stay, planes_kept}
use Rattle.ffv1_frame.specs.Lines.{lines_of}
use Rattle.ffv1_frame.proofs.laws.sink.kept_lines_make_up_the_picture.Goals as goal

pub returns-clause-picture : goal.returns-clause-picture
returns-clause-picture c = λ a planes old new is fits own are grows.
    let sides = c.planes_are_divided_part_by_part.ensures a.configuration a.table is in
    let stays = lines_stay old new (lines_of a.configuration planes) are grows in (
      planes_kept a.configuration sides.rows_tile (flat_rows a.configuration sides)
          (lines_alike a.configuration sides) planes old new fits own are grows,
      stays.grid,
      stays.failures,
    )

pub returns-clause-lines : goal.returns-clause-lines
returns-clause-lines c = λ old new lines are grows. let stays = lines_stay old new lines are
    grows in (stays.grid, stays.sizes, stays.failures)
