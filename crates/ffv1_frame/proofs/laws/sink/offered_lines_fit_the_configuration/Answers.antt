-- A line that decoding comes to, and that is handed over next, is a line of the configuration: it
-- is of one of its planes, inside its height, and as long as the plane is wide.
use Rattle.ffv1_frame.proofs.lemmas.laws.decoding.FromCoded.{picture_laws}
use Rattle.ffv1_frame.proofs.lemmas.laws.sink.OfferedLines.{offered}
use Rattle.ffv1_frame.proofs.laws.sink.offered_lines_fit_the_configuration.Goals as goal

pub returns : goal.returns
returns c = λ a coded r i p y t is offers.
    offered a coded
    (picture_laws a (c.planes_are_divided_part_by_part.ensures a.configuration a.table is)
    (record {
      steps = c.agreeing_cells_code_rows_alike.ensures.steps;
      suits =
          c.agreeing_cells_code_rows_alike.ensures.suits;
    })
    c.suiting_residuals_have_symbols.ensures.below) r i p y t offers
