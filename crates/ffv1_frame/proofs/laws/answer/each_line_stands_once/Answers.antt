-- The lines of a picture are each row of each plane once, of each plane from the top; they
-- determine its planes; and at each place of the planes stands that line, once, and at no other
-- place any.
use Rattle.ffv1_frame.proofs.lemmas.picture.OnePicture.{rows_once, one_of_lines}
use Rattle.ffv1_frame.proofs.lemmas.laws.decoding.FromCoded.{lines_alike, flat_rows}
use Rattle.ffv1_frame.proofs.lemmas.laws.answer.PlacesOnce.{each_place}
use Rattle.ffv1_frame.proofs.laws.answer.each_line_stands_once.Goals as goal

pub returns-clause-rows : goal.returns-clause-rows
returns-clause-rows c = λ a planes is p inside.
    let sides = c.planes_are_divided_part_by_part.ensures a.configuration a.table is in
    rows_once a.configuration sides.rows_tile (flat_rows a.configuration sides) (lines_alike a.configuration sides) planes p inside

pub returns-clause-planes : goal.returns-clause-planes
returns-clause-planes c = λ a planes others is fits other same.
    let sides = c.planes_are_divided_part_by_part.ensures a.configuration a.table is in
    one_of_lines a.configuration sides.rows_tile (flat_rows a.configuration sides) (lines_alike a.configuration sides) planes others
    fits other same

pub returns-clause-places : goal.returns-clause-places
returns-clause-places c = λ a planes is.
    let sides = c.planes_are_divided_part_by_part.ensures a.configuration a.table is in
    each_place a.configuration planes sides.rows_tile (flat_rows a.configuration sides) (lines_alike a.configuration sides)
