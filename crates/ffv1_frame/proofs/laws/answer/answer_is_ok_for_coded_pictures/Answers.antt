-- If the answer is Ok, the payload codes a picture, whose lines the sink took. A payload that codes
-- a picture is answered Ok, or the sink refused the line that came next.
use Rattle.std.proofs.Common.{ℕ, List, Result, Ok, subst}
use Rattle.std.specs.Prelude.{slice_index}
use Rattle.ffv1_slice.specs.Footer.{foot_length}
use Rattle.ffv1_slice.specs.Cutting.{coded_of}
use Rattle.ffv1_slice.specs.declared.cutting.CutFault.{CutFault}
use Rattle.ffv1_frame.specs.Answer.{AnswersCut}
use Rattle.ffv1_frame.proofs.lemmas.laws.decoding.FromCoded.{coded_bytes}
use Rattle.ffv1_frame.proofs.lemmas.laws.answer.Answered.{found, answered}
use Rattle.ffv1_frame.proofs.laws.answer.answer_is_ok_for_coded_pictures.Goals as goal

pub returns-clause-found : goal.returns-clause-found
returns-clause-found g c = λ a payload old new tally info is answer.
    let is_found = found g.S.LineSink.takes g.S.LineSink.refuses a payload old new tally info
    answer.cut answer.cuts
    (λ os t cuts decodes. c.decoded_payload_codes_a_picture.ensures a payload (slice_index os) t is
    cuts decodes) answer.answer in
    (is_found.planes, is_found.codes, is_found.grows)

pub returns-clause-only : goal.returns-clause-only
returns-clause-only g c = λ a payload planes info old new tally result is bytes codes answer.
    let conf = a.configuration in
    let cut = c.payload_is_cut_in_one_way.ensures.only conf payload codes.spans codes.cuts in
    let coded = coded_of payload (foot_length conf.ec) (slice_index cut.0) in
    let are = λ (n : ℕ). coded_bytes payload (foot_length conf.ec) (slice_index cut.0) n bytes in
    let whole : AnswersCut g.S.LineSink.takes g.S.LineSink.refuses a payload old new tally result
    (Ok cut.0) =
    subst (λ (z : Result (List ℕ) CutFault). AnswersCut g.S.LineSink.takes g.S.LineSink.refuses a
    payload old new tally result z)
    (c.payload_is_cut_in_one_way.ensures.one conf payload answer.cut (Ok cut.0) answer.cuts cut.1)
    answer.answer in
    let end = c.coded_picture_is_decoded.ensures a payload planes info codes (slice_index cut.0) is
    bytes cut.2 in
    answered g.S.LineSink.takes g.S.LineSink.refuses a payload old new tally coded planes info end.0
    end.1 end.2 end.3 result
    (λ s decodes. c.decoding_has_one_end.ensures.end a coded s end.0 is are decodes end.1)
    (λ f s refuses. c.decoding_has_one_end.ensures.apart a coded end.0 s f is are end.1 refuses)
    (λ before after s m. c.decoding_has_one_end.ensures.beginning a coded before after s m is are)
    whole
