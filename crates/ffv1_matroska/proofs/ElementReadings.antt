-- Elements that are read, by the calls of which each is made.
use Rattle.std.proofs.Common.{◌≡◌, ℕ, List, Option, Some, None, true, false, refl, ap}
use Rattle.ffv1_reads.specs.declared.fault.FileFault.{FileFault}
use Rattle.ffv1_reads.specs.declared.fault.FileFault.TheVariants as fault
use Rattle.ffv1_reads.specs.Ends.{RefusedOrEnds, RefusedOrNone}
use Rattle.ffv1_reads.specs.Reads.{Read, Reading, Refused, given, read_on, refused}
use Rattle.ffv1_reads.proofs.EndRefusals.{ends_refused, ends_refused_none, refused_ends}
use Rattle.ffv1_reads.proofs.Reading.{Goes, faults_here, goes_fault, goes_given, goes_none, goes_read, goes_same}
use Rattle.ffv1_ebml.specs.Sums.{kept_summed}
use Rattle.ffv1_ebml.specs.declared.sum.Sum.{Sum}
use Rattle.ffv1_matroska.specs.Offsets.{element_taken, frame_taken, step_taken}
use Rattle.ffv1_matroska.specs.Places.{closed, frame_at, is_sound, summed_at}
use Rattle.ffv1_matroska.specs.Segments.{step_read}
use Rattle.ffv1_matroska.specs.declared.place.Place.{Place}
use Rattle.ffv1_matroska.specs.declared.place.Step.{Step}
use Rattle.ffv1_matroska.specs.declared.track.TrackNumbers.{TrackNumbers}

-- without a frame
on_frame : (track : TrackNumbers) (place now : Place) (frame time : Option ℕ) (a b : Option (List ℕ)) → frame ≡ None → Read (step_read track place) a b (Some (record { frame = frame; time = time; place = now })) → Read (element_taken track place) a b now
unfolding element_taken
on_frame track place now None time a b is read = record { bytes = read.bytes; consumed = read.consumed; is = λ rest. ap (λ z. read_on z (step_taken place)) (read.is rest) }
on_frame track place now (Some n) time a b is read = absurd (cc)

pub element_read : (track : TrackNumbers) (place : Place) (s : Step) (a b : Option (List ℕ)) → s.frame ≡ None → Read (step_read track place) a b (Some s) → Read (element_taken track place) a b s.place
element_read track place s a b is read = on_frame track place s.place s.frame s.time a b is read

-- that was refused
pub element_refused : (track : TrackNumbers) (place : Place) (old new : Option (List ℕ)) (before last : ℕ) (f : FileFault) → RefusedOrNone (step_read track place) old new before last f → RefusedOrEnds (element_taken track place) old new before last f
unfolding element_taken
element_refused track place old new before last f why = ends_refused_none (step_read track place) (step_taken place) place new last f (λ text. refl) (goes_none (element_taken track place) old before) why

-- up to its frame
frame_reached : (track : TrackNumbers) (place after : Place) (time : Option ℕ) (size : ℕ) (old now : Option (List ℕ)) (before : ℕ) → Read (step_read track place) old now (Some (frame_at time size after)) → Goes (element_taken track place) old before (frame_taken after (Some size)) now before
unfolding element_taken
frame_reached track place after time size old now before read = goes_read (step_read track place) (step_taken place) now before (Some (frame_at time size after)) (goes_none (element_taken track place) old before) (refl, read)

abbrev behind : Place → List ℕ × Sum → Reading Place
behind after p = closed (summed_at after p.1) (summed_at after p.1)

pub frame_refused : (track : TrackNumbers) (place after : Place) (time : Option ℕ) (size : ℕ) (old now new : Option (List ℕ)) (before last : ℕ) (f : FileFault) → Read (step_read track place) old now (Some (frame_at time size after)) → Refused (kept_summed size after.sum) now new before last f →
    RefusedOrEnds (element_taken track place) old new before last f
frame_refused track place after time size old now new before last f read why = ends_refused (kept_summed size after.sum) (behind after) new last f (frame_reached track place after time size old now before read) why

-- with its frame
frame_read : (track : TrackNumbers) (place after : Place) (time : Option ℕ) (size : ℕ) (old now new : Option (List ℕ)) (before last : ℕ) (p : List ℕ × Sum) → Read (step_read track place) old now (Some (frame_at time size after)) → (last ≡ before) × Read (kept_summed size after.sum) now new p →
    Goes (element_taken track place) old before (behind after p) new last
frame_read track place after time size old now new before last p read kept = goes_read (kept_summed size after.sum) (behind after) new last p (frame_reached track place after time size old now before read) kept

pub frame_whole : (track : TrackNumbers) (place after : Place) (time : Option ℕ) (size : ℕ) (old now new : Option (List ℕ)) (before last : ℕ) (p : List ℕ × Sum) → is_sound (summed_at after p.1) ≡ true → Read (step_read track place) old now (Some (frame_at time size after)) →
    (last ≡ before) × Read (kept_summed size after.sum) now new p → Read (element_taken track place) old new (summed_at after p.1)
frame_whole track place after time size old now new before last p sound read kept = (goes_given (summed_at after p.1) (goes_same _ (given (summed_at after p.1)) (λ text. rw sound refl) (frame_read track place after time size old now new before last p read kept))).1

pub frame_differs : (track : TrackNumbers) (place after : Place) (time : Option ℕ) (size : ℕ) (old now new : Option (List ℕ)) (before last : ℕ) (p : List ℕ × Sum) → is_sound (summed_at after p.1) ≡ false → Read (step_read track place) old now (Some (frame_at time size after)) →
    (last ≡ before) × Read (kept_summed size after.sum) now new p → RefusedOrEnds (element_taken track place) old new before last fault.Checksum
frame_differs track place after time size old now new before last p differs read kept =
    refused_ends (element_taken track place) old new before last fault.Checksum
    (goes_fault fault.Checksum (goes_same _ (refused fault.Checksum) (λ text. rw differs refl) (frame_read track place after time size old now new before last p read kept)) (refl, faults_here Place fault.Checksum _))
