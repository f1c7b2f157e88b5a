-- What is decoded to its end is a picture that the payload codes: its lines were handed over, and
-- its slices said the same.
use Rattle.ffv1_frame.proofs.lemmas.laws.decoding.FromCoded.{picture_laws}
use Rattle.ffv1_frame.proofs.lemmas.laws.decoding.SlicesMade.{is_made}
use Rattle.ffv1_frame.proofs.laws.decoding.decoded_payload_codes_a_picture.Goals as goal

pub returns : goal.returns
returns c = λ a payload spans t is cuts decodes.
    let laws = picture_laws a (c.planes_are_divided_part_by_part.ensures a.configuration a.table is)
    (record {
      steps = c.agreeing_cells_code_rows_alike.ensures.steps;
      suits =
          c.agreeing_cells_code_rows_alike.ensures.suits;
    })
    c.suiting_residuals_have_symbols.ensures.below in
    let made = is_made a laws payload spans t cuts decodes in
    (made.planes, made.info, made.codes, made.says, made.lines)
