-- Reads a frame of so many bytes, whose chunk begins so many bytes further.
use Rattle.ffv1_avi.proofs.ItemReadings.{frame_stops, frame_taken}
use Rattle.ffv1_avi.proofs.items.take_frame.Goals as goal

pub returns-in-Ok-clause-answer : goal.returns-in-Ok-clause-answer
returns-in-Ok-clause-answer g c =
    let answer = frame_taken c.args.course.now c.args.count c.args.size c.args.place _ _ _ _
    c.fill_padded.new.frame.items c.in-Ok.ensures.answer in
    rw c.framed.ensures answer

pub returns-in-Err-clause-answer : goal.returns-in-Err-clause-answer
returns-in-Err-clause-answer g c = frame_stops c.args.course.now c.args.count c.args.size
    c.args.place _ _ _ _ c.stop.new.course c.fill_padded.new.frame.items c.in-Err.fault c.stop.result
    c.in-Err.ensures.answer (rw c.headed_by.ensures at c.stop.ensures)
