-- What stands after a Segment, as notes.
use Rattle.ffv1_wire.specs.Passage.{passage}
use Rattle.ffv1_files.proofs.Behinds.{segment_noted, segment_own, segment_refused}
use Rattle.ffv1_files.proofs.reader.look_behind_segment.Goals as goal

pub returns-in-Ok-clause-answer : goal.returns-in-Ok-clause-answer
returns-in-Ok-clause-answer g c = rw (c.noted.ensures, c.is_left_open.ensures)
    (segment_noted c.args.reader.now c.args.times c.args.cued
    (passage g.R.ByteIn.remaining g.R.ByteIn.failures c.args.input.now c.look_behind.new.input)
    c.in-Ok.some c.in-Ok.ensures)

pub returns-in-Err-clause-answer : goal.returns-in-Err-clause-answer
returns-in-Err-clause-answer g c = segment_refused c.args.reader.now c.args.times c.args.cued
    (passage g.R.ByteIn.remaining g.R.ByteIn.failures c.args.input.now c.look_behind.new.input)
    c.in-Err.fault c.in-Err.ensures

pub returns-in-Err-clause-own : goal.returns-in-Err-clause-own
returns-in-Err-clause-own g c = segment_own c.args.reader.now
    (passage g.R.ByteIn.remaining g.R.ByteIn.failures c.args.input.now c.look_behind.new.input)
    c.in-Err.fault c.in-Err.ensures
