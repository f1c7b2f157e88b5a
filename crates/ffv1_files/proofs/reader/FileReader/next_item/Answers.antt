-- Reads the next frame of a file that may be damaged, or tells a fault that is passed, or answers
-- that nothing more comes.
use Rattle.ffv1_wire.specs.Passage.{passage}
use Rattle.ffv1_files.proofs.ItemNexts.{chunk_uncued}
use Rattle.ffv1_files.specs.Places.{InAvi}
use Rattle.ffv1_files.proofs.reader.FileReader.next_item.Goals as goal
use Rattle.ffv1_files.proofs.reader.FileReader.next_item.Goals.{in-Avi, in-Matroska}

pub returns-clause-answer : goal.returns-clause-answer
returns-clause-answer g c = elim c.match-self.branch [
  | in-Avi w ↦
      rw (
        ← c.self.view_is,
        w.in-Avi.is,
        w.result-is,
        w.frame-is,
        w.input-is,
        w.course-is,
        w.self-inside-is,
      )
      w.read_chunk_item.ensures.answer
  | in-Matroska w ↦
      rw (
        ← c.self.view_is,
        w.in-Matroska.is,
        w.result-is,
        w.frame-is,
        w.input-is,
        w.course-is,
        w.self-inside-is,
      )
      (λ none. w.read_element_item.ensures.answer)
]

pub returns-clause-cued : goal.returns-clause-cued
returns-clause-cued g c = elim c.match-self.branch [
  | in-Avi w ↦
      rw (
        ← c.self.view_is,
        w.in-Avi.is,
        w.result-is,
        w.input-is,
        w.cued-is,
      )
      (λ none. chunk_uncued w.in-Avi.reader.place c.args.course.now c.args.cued.now
      (passage g.R.ByteIn.remaining g.R.ByteIn.failures c.args.input.now
      w.read_chunk_item.new.input) w.read_chunk_item.result w.read_chunk_item.new.frame.items
      (InAvi w.read_chunk_item.new.reader.place) w.read_chunk_item.new.course
      (w.read_chunk_item.ensures.answer none))
  | in-Matroska w ↦
      rw (
        ← c.self.view_is,
        w.in-Matroska.is,
        w.result-is,
        w.input-is,
        w.cued-is,
      )
      (λ none. w.read_element_item.ensures.cued)
]

pub returns-clause-ended : goal.returns-clause-ended
returns-clause-ended g c = elim c.match-self.branch [
  | in-Avi w ↦
      rw (
        ← c.self.view_is,
        w.in-Avi.is,
        w.result-is,
        w.input-is,
        w.course-is,
      )
      (λ none avi. w.read_chunk_item.ensures.ended none)
  | in-Matroska w ↦
      rw (
        ← c.self.view_is,
        w.in-Matroska.is,
      )
      (λ none avi. absurd (cc (avi)))
]

pub returns-clause-room : goal.returns-clause-room
returns-clause-room g c = elim c.match-self.branch [
  | in-Avi w ↦ rw w.frame-is w.read_chunk_item.ensures.room
  | in-Matroska w ↦ rw w.frame-is w.read_element_item.ensures.room
]

pub returns-clause-held : goal.returns-clause-held
returns-clause-held g c = elim c.match-self.branch [
  | in-Avi w ↦ rw (w.result-is, w.frame-is) w.read_chunk_item.ensures.held
  | in-Matroska w ↦ rw (w.result-is, w.frame-is) w.read_element_item.ensures.held
]
