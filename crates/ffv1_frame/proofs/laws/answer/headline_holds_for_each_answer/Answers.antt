-- What a call of the decoder is for, from its answer, its bytes, and what it holds: one statement,
-- whatever the payload and the sink.
use Rattle.std.proofs.Common.{Result, sym, subst}
use Rattle.ffv1_frame.specs.declared.fault.FrameFault.{FrameFault}
use Rattle.ffv1_frame.specs.SliceList.{Said}
use Rattle.ffv1_frame.specs.Frame.{CodesPicture}
use Rattle.ffv1_frame.specs.Answer.{Answers}
use Rattle.ffv1_frame.proofs.laws.answer.headline_holds_for_each_answer.Goals as goal

pub returns : goal.returns
returns g c = λ a payload old new result tally held is bytes short answer holds. record {
  found = λ info ok.
      c.answer_is_ok_for_coded_pictures.ensures.found a payload old new tally info is
      (subst (λ (r : Result Said FrameFault). Answers g.S.LineSink.takes g.S.LineSink.refuses a
      payload old new tally r) ok answer);
  only = λ planes info codes. c.answer_is_ok_for_coded_pictures.ensures.only a payload planes info
      old new tally result is bytes codes answer;
  once = λ planes. c.each_line_stands_once.ensures.rows a planes is;
  encoded = λ range planes info picture said none same.
      c.answer_is_ok_for_coded_pictures.ensures.only a payload planes info old new tally result is
      bytes
      (subst (λ bs. CodesPicture a bs planes info) (sym same)
      (c.encoded_frame_codes_its_picture.ensures a planes info is range picture said none)) answer;
  short = short;
  few = c.decoding_makes_few_decisions.ensures.answer a payload old new tally result is answer;
  few_by_bytes = λ wide. c.coded_bytes_bound_the_decisions.ensures.table a payload old new tally
      result is wide answer;
  few_by_standard = λ wide standard. c.coded_bytes_bound_the_decisions.ensures.standard a payload
      old new tally result is wide standard answer;
  holds = holds;
}
