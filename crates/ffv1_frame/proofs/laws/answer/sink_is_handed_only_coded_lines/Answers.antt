-- Whatever the answer, the sink was handed finishes of lines that the bytes of its slices code, and
-- no other line. This holds before a fault too, and if the sink refused one.
use Rattle.ffv1_frame.proofs.lemmas.laws.answer.HandedAnswers.{coded, hands_by_cut}
use Rattle.ffv1_frame.proofs.laws.answer.sink_is_handed_only_coded_lines.Goals as goal

pub returns : goal.returns
returns g c = λ a payload old new tally result is answer.
    hands_by_cut a payload g.S.LineSink.takes g.S.LineSink.refuses old new tally
    (record {
      end = λ os t decodes. c.handed_lines_finish_coded_lines.ensures.end a (coded a payload os) t
          is decodes;
      fault = λ os f t refuses. c.handed_lines_finish_coded_lines.ensures.fault a
          (coded a payload os) f t is refuses;
      offer = λ os r i p y t offers. c.handed_lines_finish_coded_lines.ensures.offered a
          (coded a payload os) r i p y t is offers;
    })
    result answer.cut answer.cuts answer.answer
