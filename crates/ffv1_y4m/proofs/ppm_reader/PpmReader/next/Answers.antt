-- Reads the next image in place of what the planes were: red, green, blue, each row by row.
use Rattle.std.proofs.Common.{arith}
use Rattle.std.proofs.lemmas.Grind.{common_steps}
use Rattle.ffv1_y4m.specs.State.{shown}
use Rattle.ffv1_y4m.proofs.Sequences.{answers_err, answers_of}
use Rattle.ffv1_y4m.proofs.ppm_reader.PpmReader.next.Goals as goal

pub returns-in_default-answer-clause-answer : goal.returns-in_default-answer-clause-answer
returns-in_default-answer-clause-answer g c =
    rw (← c.self.view_is, c.in_default.is) (answers_of (shown c.read_image-answer.new.planes.items)
    _ _ _ c.read_image-answer.result c.read_image-answer.ensures.answer)

pub returns-in-Err-clause-answer : goal.returns-in-Err-clause-answer
returns-in-Err-clause-answer g c =
    rw (← c.self.view_is, c.in_default.is) (answers_err (shown c.read_image-answer.new.planes.items)
    _ _ _ c.in-Err.fault c.in-Err.ensures.answer)

pub returns-in-Err-clause-room : goal.returns-in-Err-clause-room
returns-in-Err-clause-room g c = grind (arith, common_steps)
