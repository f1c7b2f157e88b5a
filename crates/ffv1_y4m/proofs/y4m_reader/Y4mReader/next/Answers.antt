-- Reads the next picture in place of what the planes were: Y, Cb, Cr, transparency, as many of them
-- as there are, each row by row.
use Rattle.ffv1_y4m.specs.State.{shown}
use Rattle.ffv1_y4m.proofs.Sequences.{answers_err, answers_of}
use Rattle.ffv1_y4m.proofs.y4m_reader.Y4mReader.next.Goals as goal

pub returns-in_default-answer-clause-answer : goal.returns-in_default-answer-clause-answer
returns-in_default-answer-clause-answer g c =
    rw (← c.self.view_is, c.in_default.is) (answers_of
    (shown c.read_picture-answer.new.planes.items) _ _ _ c.read_picture-answer.result
    c.read_picture-answer.ensures.answer)

pub returns-in-Err-clause-answer : goal.returns-in-Err-clause-answer
returns-in-Err-clause-answer g c =
    rw (← c.self.view_is, c.in_default.is) (answers_err
    (shown c.read_picture-answer.new.planes.items) _ _ _ c.in-Err.fault c.in-Err.ensures.answer)
