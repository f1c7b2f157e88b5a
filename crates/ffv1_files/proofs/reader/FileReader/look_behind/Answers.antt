-- Looks at what stands after the end of a file, and tells what its end leaves in doubt.
use Rattle.std.proofs.Common.{Ok, None, false, refl}
use Rattle.ffv1_wire.specs.Passage.{passage}
use Rattle.ffv1_files.proofs.Behinds.{lists_noted}
use Rattle.ffv1_files.proofs.Noted.{noted_answer}
use Rattle.ffv1_files.proofs.reader.FileReader.look_behind.Goals as goal

pub returns-in-Avi-clause-answer : goal.returns-in-Avi-clause-answer
returns-in-Avi-clause-answer g c = rw (← c.self.view_is, c.in-Avi.is, c.avi_notes.ensures)
    (lists_noted None _ 0 false _ _ _ _ (passage g.R.ByteIn.remaining g.R.ByteIn.failures c.args.input.now
    c.args.input.now) refl refl)

pub returns-in-Avi-clause-noted : goal.returns-in-Avi-clause-noted
returns-in-Avi-clause-noted g c =
    let rest = passage g.R.ByteIn.remaining g.R.ByteIn.failures c.args.input.now c.args.input.now in
    rw (← c.self.view_is, c.in-Avi.is, c.avi_notes.ensures) (λ s text ends.
    noted_answer s text _ rest (Ok _) (lists_noted None _ 0 false _ _ _ _ rest refl refl) ends)

pub returns-in-Matroska-clause-answer : goal.returns-in-Matroska-clause-answer
returns-in-Matroska-clause-answer g c = rw (← c.self.view_is, c.in-Matroska.is)
    (rw (c.cued.ensures, c.times.ensures) at c.look_behind_segment.ensures.answer)

pub returns-in-Matroska-clause-noted : goal.returns-in-Matroska-clause-noted
returns-in-Matroska-clause-noted g c = rw (← c.self.view_is, c.in-Matroska.is) (λ s text ends.
    noted_answer s text _ (passage g.R.ByteIn.remaining g.R.ByteIn.failures c.args.input.now
    c.look_behind_segment.new.input) c.look_behind_segment.result
    (rw (c.cued.ensures, c.times.ensures) at c.look_behind_segment.ensures.answer) ends)

pub returns-in-Matroska-clause-own : goal.returns-in-Matroska-clause-own
returns-in-Matroska-clause-own g c = rw (← c.self.view_is, c.in-Matroska.is)
    c.look_behind_segment.ensures.own
