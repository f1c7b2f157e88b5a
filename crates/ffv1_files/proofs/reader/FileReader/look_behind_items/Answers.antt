-- Looks at what stands after a file that may be damaged.
use Rattle.std.proofs.Common.{◌≡◌, ℕ, Bool, Option, Ok, None, Result, false, refl}
use Rattle.ffv1_wire.specs.Passage.{Passage, passage}
use Rattle.ffv1_reads.specs.declared.fault.FileFault.{FileFault}
use Rattle.ffv1_matroska.specs.declared.place.Place.{Place as MatroskaPlace}
use Rattle.ffv1_matroska.specs.declared.track.TrackNumbers.{TrackNumbers}
use Rattle.ffv1_files.specs.Answers.{FileAnswers, ReadsAs}
use Rattle.ffv1_files.specs.Behind.{any_value, avi_noted, items_noted, notes_read, notes_told}
use Rattle.ffv1_files.specs.Places.{InAvi, InMatroska}
use Rattle.ffv1_files.specs.Readers.{Standing}
use Rattle.ffv1_files.specs.declared.course.Course.{Course}
use Rattle.ffv1_files.specs.declared.course.Course.TheVariants as course
use Rattle.ffv1_files.specs.declared.notes.Notes.{Notes}
use Rattle.ffv1_avi.specs.Readers as avi_reader
use Rattle.ffv1_files.proofs.Behinds.{lists_noted}
use Rattle.ffv1_files.proofs.Locations.{in_avi, in_matroska}
use Rattle.ffv1_files.proofs.Noted.{noted_answer}
use Rattle.ffv1_files.proofs.reader.FileReader.look_behind_items.Goals as goal

-- of an AVI, by its course
listed : (s : Standing) (r : avi_reader.Standing) (d : Course) (cued : Bool) (p : Passage) →
    s.place ≡ InAvi r.place → s.after ≡ r.after → s.repeated ≡ r.repeated → s.others ≡ r.others →
    s.open_ended ≡ r.open_ended → p.new ≡ p.old → p.after ≡ p.before →
    ReadsAs (items_noted s d cued) p (avi_noted r.open_ended r.others r.repeated r.after d)
unfolding notes_read
listed s r course.Plain cued p is after repeated others open_ended same counted =
    rw (is, after, repeated, others, open_ended) (lists_noted None r.place s.end cued r.after
    r.repeated r.others r.open_ended p same counted)
listed s r (course.Avi c count) cued p is after repeated others open_ended same counted =
    rw (is, others) (lists_noted None r.place s.end cued c.after count r.others c.open_ended p same
    counted)
listed s r (course.Matroska c) cued p is after repeated others open_ended same counted =
    rw (is, after, repeated, others, open_ended) (lists_noted None r.place s.end cued r.after
    r.repeated r.others r.open_ended p same counted)

-- a Segment, whatever the course
segment_by : (s : Standing) (segment : Option ℕ) (track : TrackNumbers) (place : MatroskaPlace)
    (d : Course) (cued : Bool) (p : Passage) (result : Result Notes FileFault) →
    s.place ≡ InMatroska segment track place →
    FileAnswers any_value (λ (n : Notes). n)
    (notes_told None (InMatroska segment track place) s.end cued None 0 0 false) p result →
    FileAnswers any_value (λ (n : Notes). n) (items_noted s d cued) p result
unfolding notes_read notes_told
segment_by s segment track place course.Plain cued p result is h = rw is h
segment_by s segment track place (course.Avi c count) cued p result is h = rw is h
segment_by s segment track place (course.Matroska c) cued p result is h = rw is h

pub returns-in-Avi-clause-answer : goal.returns-in-Avi-clause-answer
returns-in-Avi-clause-answer g c = rw (← c.self.view_is, c.in-Avi.is, c.course_notes.ensures)
    (listed (in_avi c.in-Avi.reader) c.in-Avi.reader c.args.course c.args.cued (passage g.R.ByteIn.remaining
    g.R.ByteIn.failures c.args.input.now c.args.input.now) refl refl refl refl refl refl refl)

pub returns-in-Avi-clause-told : goal.returns-in-Avi-clause-told
returns-in-Avi-clause-told g c = rw (← c.self.view_is, c.in-Avi.is, c.course_notes.ensures)
    (λ avi. refl)

pub returns-in-Matroska-clause-told : goal.returns-in-Matroska-clause-told
returns-in-Matroska-clause-told g c = rw (← c.self.view_is, c.in-Matroska.is)
    (λ avi. absurd (cc (avi)))

pub returns-in-Avi-clause-noted : goal.returns-in-Avi-clause-noted
returns-in-Avi-clause-noted g c =
    let rest = passage g.R.ByteIn.remaining g.R.ByteIn.failures c.args.input.now c.args.input.now in
    rw (← c.self.view_is, c.in-Avi.is, c.course_notes.ensures) (λ avi plain s text ends. rw plain
    (noted_answer s text _ rest (Ok _) (lists_noted None _ 0 false _ _ _ _ rest refl refl) ends))

pub returns-in-Matroska-clause-noted : goal.returns-in-Matroska-clause-noted
returns-in-Matroska-clause-noted g c = rw (← c.self.view_is, c.in-Matroska.is)
    (λ avi plain s text ends. absurd (cc (avi)))

pub returns-in-Matroska-clause-answer : goal.returns-in-Matroska-clause-answer
returns-in-Matroska-clause-answer g c = rw (← c.self.view_is, c.in-Matroska.is)
    (segment_by (in_matroska c.in-Matroska.reader) _ _ _ c.args.course c.args.cued
    _ _ refl c.look_behind_segment.ensures.answer)

pub returns-in-Matroska-clause-own : goal.returns-in-Matroska-clause-own
returns-in-Matroska-clause-own g c = rw (← c.self.view_is, c.in-Matroska.is)
    c.look_behind_segment.ensures.own
