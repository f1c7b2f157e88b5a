-- The next frame of a file, of either container.
use Rattle.std.proofs.Common.{◌≡◌, refl, ap, ◌∙◌, ℕ, Bool, true, false, Option, Some, None, Result, Ok, Err, List, subst, sym}
use Rattle.ffv1_wire.specs.Passage.{Passage}
use Rattle.ffv1_reads.specs.Ends.{AnswersOrNone}
use Rattle.ffv1_reads.specs.Reads.{Reading}
use Rattle.ffv1_reads.specs.declared.fault.FileFault.{FileFault}
use Rattle.ffv1_avi.specs.Extents.{AnswersBy, AnswersFrom}
use Rattle.ffv1_avi.specs.Files as avi
use Rattle.ffv1_avi.specs.Places.{extent_of}
use Rattle.ffv1_avi.specs.Readers as avi_reader
use Rattle.ffv1_avi.specs.declared.place.Extent.{Extent}
use Rattle.ffv1_avi.specs.declared.place.Extent.TheVariants.{FirstMovi, EveryRiff}
use Rattle.ffv1_avi.specs.declared.place.Place.{Place as AviPlace}
use Rattle.ffv1_matroska.specs.Files as matroska
use Rattle.ffv1_matroska.specs.Readers as matroska_reader
use Rattle.ffv1_matroska.specs.Tracks.{Track}
use Rattle.ffv1_matroska.specs.declared.place.Place.{Place as MatroskaPlace}
use Rattle.ffv1_files.specs.Answers.{FileAnswers, ReadsAs, StopsReading, no_ending, nothing_more}
use Rattle.ffv1_files.specs.Endings.{avi_endings, endings_from}
use Rattle.ffv1_files.specs.Files.{avi_place, frame_read, matroska_place}
use Rattle.ffv1_files.specs.Places.{InAvi, InMatroska}
use Rattle.ffv1_files.specs.Readers.{next_of}
use Rattle.ffv1_files.proofs.Answering.{just_read, made_reads, made_stops, none_known, none_stops, refused_stops}
use Rattle.ffv1_matroska.specs.declared.track.TrackNumbers.{TrackNumbers}

module _ {X Y : Type 0} (reading : Reading (Option X)) (view : Y → Option X) (p : Passage) where
  pub by_reads : (e : Extent) (y : Y) → AnswersBy e view reading p (Ok y) → ReadsAs reading p (view y)
  by_reads FirstMovi y h = (h.0, just_read reading p.old p.new (view y) h.1)
  by_reads EveryRiff y h = (h.0, none_known reading p (view y) h.1)

  pub by_stops : (e : Extent) (f : FileFault) → AnswersBy e view reading p (Err f) → StopsReading (avi_endings e) reading p f
  by_stops FirstMovi f h = refused_stops reading p no_ending f h
  by_stops EveryRiff f h = none_stops reading p f h

-- what the end of an AVI may be, of what is made of that
module _ {X Y : Type 0} (make : Option X → Option Y) (nothing : make None ≡ None) where
  pub avi_over : (e : Extent) (o : Option X) → (avi_endings e).values o → (avi_endings e).values (make o)
  avi_over FirstMovi o none = none
  avi_over EveryRiff o none = ap make none ∙ nothing

  pub avi_no_fault : (e : Extent) (f : FileFault) → (avi_endings {X = X} e).faults f → (avi_endings {X = Y} e).faults f
  avi_no_fault FirstMovi f none = none
  avi_no_fault EveryRiff f none = none

pub avi_next : (place after : AviPlace) (bytes : List ℕ) (p : Passage) (r : Result Bool FileFault) → AnswersFrom place (λ more. avi_reader.next_of more bytes after) (avi.frame_read place) p r →
    FileAnswers (endings_from (InAvi place)) (λ more. next_of more bytes (InAvi after)) (frame_read (InAvi place)) p r
unfolding frame_read
avi_next place after bytes p (Ok true) h = made_reads (avi.frame_read place) avi_place p (Some (bytes, after)) (by_reads (avi.frame_read place) (λ (more : Bool). avi_reader.next_of more bytes after) p (extent_of place) true h)
avi_next place after bytes p (Ok false) h = made_reads (avi.frame_read place) avi_place p None (by_reads (avi.frame_read place) (λ (more : Bool). avi_reader.next_of more bytes after) p (extent_of place) false h)
avi_next place after bytes p (Err f) h =
    made_stops (avi.frame_read place) avi_place p (avi_endings (extent_of place)) (endings_from (InAvi place)) (avi_over avi_place refl (extent_of place)) (avi_no_fault avi_place refl (extent_of place)) f (by_stops (avi.frame_read place) (λ (more : Bool). avi_reader.next_of more bytes after) p (extent_of place) f h)

pub matroska_next : (segment : Option ℕ) (track : TrackNumbers) (place after : MatroskaPlace) (bytes : List ℕ) (p : Passage) (r : Result Bool FileFault) →
    AnswersOrNone (λ more. matroska_reader.next_of more bytes after) (matroska.frame_read track place) p r →
    FileAnswers (endings_from (InMatroska segment track place)) (λ more. next_of more bytes (InMatroska segment track after)) (frame_read (InMatroska segment track place)) p r
unfolding frame_read
matroska_next segment track place after bytes p (Ok true) h =
    made_reads (matroska.frame_read track place) (matroska_place segment track) p (Some (bytes, after)) (h.0, none_known (matroska.frame_read track place) p (Some (bytes, after)) h.1)
matroska_next segment track place after bytes p (Ok false) h =
    made_reads (matroska.frame_read track place) (matroska_place segment track) p None (h.0, none_known (matroska.frame_read track place) p None h.1)
matroska_next segment track place after bytes p (Err f) h = made_stops (matroska.frame_read track place) (matroska_place segment track) p nothing_more nothing_more (λ o over. ap (matroska_place segment track) over) (λ e over. over) f (none_stops (matroska.frame_read track place) p f h)

-- the same of a reader, which stays in its Segment and at its track
pub matroska_stands : (old new : matroska_reader.Standing) (bytes : List ℕ) (p : Passage) (r : Result Bool FileFault) → matroska_reader.StandsAfter old r new →
    AnswersOrNone (λ more. matroska_reader.next_of more bytes new.place) (matroska.frame_read old.track.numbers old.place) p r →
    FileAnswers nothing_more (λ more. next_of more bytes (InMatroska new.segment new.track.numbers new.place)) (frame_read (InMatroska old.segment old.track.numbers old.place)) p r
matroska_stands old new bytes p (Ok more) stands h =
    let reading = frame_read (InMatroska old.segment old.track.numbers old.place) in
    subst (λ s. FileAnswers nothing_more (λ more. next_of more bytes (InMatroska s new.track.numbers new.place)) reading p (Ok more)) (sym stands.3)
    (subst (λ (t : Track). FileAnswers nothing_more (λ more. next_of more bytes (InMatroska old.segment t.numbers new.place)) reading p (Ok more)) (sym stands.2)
    (matroska_next old.segment old.track.numbers old.place new.place bytes p (Ok more) h))
matroska_stands old new bytes p (Err f) stands h = matroska_next old.segment old.track.numbers old.place new.place bytes p (Err f) h
