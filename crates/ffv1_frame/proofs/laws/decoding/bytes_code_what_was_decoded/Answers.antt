-- However far decoding has come, each slice is unread, or its bytes code its key, its head and the
-- samples of its first lines. A fault is that of one event, after such a state. At the end the
-- bytes of each slice code all its lines, and what was decided is the sum of what was decided in
-- each slice.
use Rattle.ffv1_frame.specs.Order.{events_of}
use Rattle.ffv1_frame.specs.Decoding.{StepsBy, FaultsWith, at_first}
use Rattle.ffv1_frame.proofs.lemmas.laws.decoding.Machines.{stops_at}
use Rattle.ffv1_record.specs.Accepted.{Accepted, IsAccepted}
use Rattle.ffv1_frame.proofs.lemmas.laws.decoding.PictureMade.{PictureLaws}
use Rattle.ffv1_frame.proofs.lemmas.laws.decoding.FromCoded.{picture_laws}
use Rattle.ffv1_frame.proofs.lemmas.laws.decoding.KnownSlices.{known_before, known_whole, known_count}
use Rattle.ffv1_frame.proofs.laws.decoding.bytes_code_what_was_decoded.Goals as goal

laws : (c : goal.After-planes_are_divided_part_by_part) (a : Accepted) → IsAccepted a.configuration
    a.table → PictureLaws a
laws c a is =
    picture_laws a (c.planes_are_divided_part_by_part.ensures a.configuration a.table is)
    (record {
      steps = c.agreeing_cells_code_rows_alike.ensures.steps;
      suits =
          c.agreeing_cells_code_rows_alike.ensures.suits;
    })
    c.suiting_residuals_have_symbols.ensures.below

pub returns-clause-begun : goal.returns-clause-begun
returns-clause-begun c = λ a coded before after s n is parts run inside. known_before a coded
    (laws c a is) before after s parts run n inside

pub returns-clause-whole : goal.returns-clause-whole
returns-clause-whole c = λ a coded t n is run inside. known_whole a coded (laws c a is) t run n
    inside

pub returns-clause-count : goal.returns-clause-count
returns-clause-count c = λ a coded t is run. known_count a coded (laws c a is) t run

pub returns-clause-refused : goal.returns-clause-refused
returns-clause-refused c = λ a coded f t refuses.
    let at = stops_at (StepsBy a coded) (FaultsWith a coded) (at_first a.configuration) t f
    (events_of a.configuration) refuses in
    (at.before, at.event, at.after, at.state, at.parts, at.runs, at.refused)
