-- Reads the next frame in place of what the vector has, and answers true; or false at the end,
-- where the vector is then empty, as `AviReader::next_frame` and `MatroskaReader::next_frame` do,
-- with their faults and their room.
use Rattle.std.proofs.Common.{refl}
use Rattle.ffv1_wire.specs.Passage.{passage}
use Rattle.ffv1_files.proofs.Behinds.{lists_end}
use Rattle.ffv1_files.proofs.Locations.{avi_located, matroska_located}
use Rattle.ffv1_files.proofs.Noted.{avi_noted, segment_noted}
use Rattle.ffv1_files.proofs.Nexts.{avi_next, matroska_stands}
use Rattle.ffv1_files.proofs.reader.FileReader.next_frame.Goals as goal
use Rattle.ffv1_files.proofs.reader.FileReader.next_frame.Goals.{in-Avi, in-Matroska}

pub returns-clause-answer : goal.returns-clause-answer
returns-clause-answer g c = elim c.match-self.branch [
  | in-Avi w ↦
      rw (← c.self.view_is, w.in-Avi.is, w.result-is, w.frame-is, w.input-is, w.self-inside-is)
      (λ none. avi_next w.in-Avi.reader.place w.next_frame.new.self.place
      w.next_frame.new.frame.items
      (passage g.R.ByteIn.remaining g.R.ByteIn.failures c.args.input.now w.next_frame.new.input)
      w.next_frame.result (w.next_frame.ensures.answer none))
  | in-Matroska w ↦
      rw (← c.self.view_is, w.in-Matroska.is, w.result-is, w.frame-is, w.input-is, w.self-inside-is)
      (λ none. matroska_stands w.in-Matroska.reader w.next_frame-in-Matroska.new.self
      w.next_frame-in-Matroska.new.frame.items
      (passage g.R.ByteIn.remaining g.R.ByteIn.failures c.args.input.now
      w.next_frame-in-Matroska.new.input) w.next_frame-in-Matroska.result
      w.next_frame-in-Matroska.ensures.stands (w.next_frame-in-Matroska.ensures.answer none))
]

pub returns-clause-room : goal.returns-clause-room
returns-clause-room g c = elim c.match-self.branch [
  | in-Avi w ↦ rw (w.result-is, w.frame-is) w.next_frame.ensures.room
  | in-Matroska w ↦ rw (w.result-is, w.frame-is) w.next_frame-in-Matroska.ensures.room
]

pub returns-clause-located : goal.returns-clause-located
returns-clause-located g c = elim c.match-self.branch [
  | in-Avi w ↦
      rw (← c.self.view_is, w.in-Avi.is, w.result-is, w.input-is, w.self-inside-is)
      (λ none s text reached. avi_located s text w.in-Avi.reader w.next_frame.new.self
      (passage g.R.ByteIn.remaining g.R.ByteIn.failures c.args.input.now w.next_frame.new.input)
      w.next_frame.result w.next_frame.ensures.stands (w.next_frame.ensures.offset none)
      reached)
  | in-Matroska w ↦
      rw (← c.self.view_is, w.in-Matroska.is, w.result-is, w.input-is, w.self-inside-is)
      (λ none s text reached. matroska_located s text w.in-Matroska.reader
      w.next_frame-in-Matroska.new.self
      (passage g.R.ByteIn.remaining g.R.ByteIn.failures c.args.input.now
      w.next_frame-in-Matroska.new.input) w.next_frame-in-Matroska.result
      w.next_frame-in-Matroska.ensures.stands
      (w.next_frame-in-Matroska.ensures.offset none)
      (λ ends. (w.next_frame-in-Matroska.ensures.over none ends).0) reached)
]

pub returns-clause-ends : goal.returns-clause-ends
returns-clause-ends g c = elim c.match-self.branch [
  | in-Avi w ↦
      rw (← c.self.view_is, w.in-Avi.is, w.result-is, w.self-inside-is)
      (λ there. lists_end w.next_frame.result)
  | in-Matroska w ↦
      rw (← c.self.view_is, w.in-Matroska.is, w.result-is, w.self-inside-is)
      w.next_frame-in-Matroska.ensures.ends
]

pub returns-clause-cued : goal.returns-clause-cued
returns-clause-cued g c = elim c.match-self.branch [
  | in-Avi w ↦
      rw (← c.self.view_is, w.in-Avi.is) (λ none. tt)
  | in-Matroska w ↦
      rw (← c.self.view_is, w.in-Matroska.is, w.self-inside-is, w.result-is, w.input-is)
      w.next_frame-in-Matroska.ensures.cued
]

pub returns-clause-behind : goal.returns-clause-behind
returns-clause-behind g c = elim c.match-self.branch [
  | in-Avi w ↦
      rw (← c.self.view_is, w.in-Avi.is, w.self-inside-is, w.result-is, w.input-is)
      w.next_frame.ensures.behind
  | in-Matroska w ↦
      rw (← c.self.view_is, w.in-Matroska.is, w.self-inside-is) (λ none. refl)
]

pub returns-clause-open_ended : goal.returns-clause-open_ended
returns-clause-open_ended g c = elim c.match-self.branch [
  | in-Avi w ↦
      rw (← c.self.view_is, w.in-Avi.is, w.self-inside-is, w.result-is, w.input-is)
      w.next_frame.ensures.open_ended
  | in-Matroska w ↦
      rw (← c.self.view_is, w.in-Matroska.is, w.self-inside-is) (λ none. refl)
]

pub returns-clause-repeats : goal.returns-clause-repeats
returns-clause-repeats g c = elim c.match-self.branch [
  | in-Avi w ↦
      rw (← c.self.view_is, w.in-Avi.is, w.self-inside-is, w.result-is, w.frame-is)
      w.next_frame.ensures.repeats
  | in-Matroska w ↦
      rw (← c.self.view_is, w.in-Matroska.is, w.self-inside-is) refl
]

pub returns-clause-stays : goal.returns-clause-stays
returns-clause-stays g c = elim c.match-self.branch [
  | in-Avi w ↦
      rw (← c.self.view_is, w.in-Avi.is) tt
  | in-Matroska w ↦
      rw (← c.self.view_is, w.in-Matroska.is, w.self-inside-is)
      w.next_frame-in-Matroska.ensures.behind
]

pub returns-clause-noted : goal.returns-clause-noted
returns-clause-noted g c = elim c.match-self.branch [
  | in-Avi w ↦
      rw (← c.self.view_is, w.in-Avi.is, w.self-inside-is, w.result-is, w.input-is)
      (λ none s text. (let p = passage g.R.ByteIn.remaining g.R.ByteIn.failures c.args.input.now
      w.next_frame.new.input in avi_noted s text w.in-Avi.reader w.next_frame.new.self
      w.next_frame.new.frame.items p w.next_frame.result (record {
        answer = w.next_frame.ensures.answer none;
        stands = w.next_frame.ensures.stands;
        least = w.next_frame.ensures.least;
        sized = w.next_frame.ensures.sized;
        counted = w.next_frame.ensures.repeats;
        streams = w.next_frame.ensures.others;
      })
      w.next_frame.ensures.same (w.next_frame.ensures.behind none)
      (w.next_frame.ensures.open_ended none)))
  | in-Matroska w ↦
      rw (← c.self.view_is, w.in-Matroska.is, w.self-inside-is, w.result-is, w.input-is)
      (λ none s text reached. segment_noted s text w.in-Matroska.reader
      w.next_frame-in-Matroska.new.self (passage g.R.ByteIn.remaining g.R.ByteIn.failures
      c.args.input.now w.next_frame-in-Matroska.new.input) w.next_frame-in-Matroska.result
      w.next_frame-in-Matroska.ensures.stands w.next_frame-in-Matroska.ensures.behind
      (w.next_frame-in-Matroska.ensures.cued none) (w.next_frame-in-Matroska.ensures.timed none))
]
