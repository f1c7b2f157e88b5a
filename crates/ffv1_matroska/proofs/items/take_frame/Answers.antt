-- Reads a frame of so many bytes.
use Rattle.ffv1_matroska.proofs.ItemReadings.{frame_stops}
use Rattle.ffv1_matroska.proofs.items.take_frame.Goals as goal

pub returns-in-Err-clause-answer : goal.returns-in-Err-clause-answer
returns-in-Err-clause-answer g c = frame_stops c.args.course.now c.args.size c.args.place _ _ _ _
    c.stop.new.course c.fill_summed.new.bytes.items c.in-Err.fault c.stop.result
    c.in-Err.ensures.answer (rw c.begun_by-offset.ensures at c.stop.ensures)
