-- However far decoding has come (to its end, to its first fault, or to a line that is handed over
-- next), each line that was handed over, and that next one, is the finish of a line that the bytes
-- of its slices code. It is made of that line of each slice of its row, and the bytes of the slice
-- code it.
use Rattle.ffv1_record.specs.Accepted.{Accepted, IsAccepted}
use Rattle.ffv1_frame.proofs.lemmas.laws.decoding.PictureMade.{PictureLaws}
use Rattle.ffv1_frame.proofs.lemmas.laws.decoding.FromCoded.{picture_laws}
use Rattle.ffv1_frame.proofs.lemmas.laws.decoding.HandedLines.{handed_finish, handed_at_end, handed_before_fault}
use Rattle.ffv1_frame.proofs.lemmas.laws.decoding.HandedLines.{handed_offer}
use Rattle.ffv1_frame.proofs.laws.decoding.handed_lines_finish_coded_lines.Goals as goal

laws : (c : goal.After-planes_are_divided_part_by_part) (a : Accepted) → IsAccepted a.configuration
    a.table → PictureLaws a
laws c a is =
    picture_laws a (c.planes_are_divided_part_by_part.ensures a.configuration a.table is)
    (record {
      steps = c.agreeing_cells_code_rows_alike.ensures.steps;
      suits =
          c.agreeing_cells_code_rows_alike.ensures.suits;
    })
    c.suiting_residuals_have_symbols.ensures.below

pub returns-clause-reached : goal.returns-clause-reached
returns-clause-reached c = λ a coded before after s is parts run. handed_finish a coded
    (laws c a is) before after s parts run

pub returns-clause-end : goal.returns-clause-end
returns-clause-end c = λ a coded t is run. handed_at_end a coded (laws c a is) t run

pub returns-clause-fault : goal.returns-clause-fault
returns-clause-fault c = λ a coded f t is refuses. handed_before_fault a coded (laws c a is) f t
    refuses

pub returns-clause-offered : goal.returns-clause-offered
returns-clause-offered c = λ a coded r i p y t is offers. handed_offer a coded (laws c a is) r i p y
    t offers
