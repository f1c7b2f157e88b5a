-- The next payload is read; or there is none, and what stands behind the end is looked at.
use Rattle.std.proofs.Common.{◌≡◌, refl, ℕ, true, false, Option, None, Ok, List, inl, inr, ap, subst, ◌∙◌}
use Rattle.ffv1_wire.specs.Failures.{one_more}
use Rattle.ffv1_wire.specs.Passage.{Passage, between}
use Rattle.ffv1_reads.specs.Known.{Known}
use Rattle.ffv1_reads.specs.declared.fault.FileFault.{FileFault}
use Rattle.ffv1_reads.specs.declared.fault.FileFault.TheVariants as file_fault
use Rattle.ffv1_files.specs.Answers.{ReadsAs, StopsReading}
use Rattle.ffv1_files.specs.Behind.{EndStays, any_value, is_behind_fault, notes_of}
use Rattle.ffv1_files.specs.Endings.{endings_from}
use Rattle.ffv1_files.specs.Files.{frame_read}
use Rattle.ffv1_files.specs.Places.{InAvi, InMatroska, Place, container_of}
use Rattle.ffv1_files.specs.Readers.{Standing}
use Rattle.ffv1_files.specs.declared.notes.Notes.{Notes}
use Rattle.ffv1_video.specs.declared.fault.Fault.{Fault}
use Rattle.ffv1_video.specs.declared.fault.Fault.TheVariants as fault
use Rattle.ffv1_video.specs.Faults.{Cause, cause_of, of_avi}
use Rattle.ffv1_video.specs.Faults.Cause.{Reading, Writing, Memory, Content}
use Rattle.ffv1_video.proofs.KnownTexts.{known_map, known_then}
use Rattle.ffv1_unpack.specs.Behind.{EndsThen, IsNoted, Looks}
use Rattle.ffv1_unpack.specs.Internal.Located.{LocatedAfter}
use Rattle.ffv1_unpack.specs.Internal.Play.{ReadsEnd}
use Rattle.ffv1_unpack.specs.Internal.Told.{FileStopsBy, StopsFrom, StopsFromBy}
use Rattle.ffv1_unpack.specs.Plays.{BehindHasFault, BehindReadFails, FrameHasFault, FrameReadFails, NextHasFault, NextReadFails}
use Rattle.ffv1_unpack.proofs.FileSteps.{file_stops}

-- why a frame is not read
stops_by : (from : Place) (p : Passage) (f : Fault) (why : Cause) → FileStopsBy (endings_from from) (frame_read from) p f why → StopsFromBy from p f why
stops_by from p f Reading h = (h.0, known_map p.old p.new (FrameReadFails from) (NextReadFails from) (λ text rest fails. inl fails) h.1)
stops_by from p f Writing h = h
stops_by from p f Memory h = h
stops_by from p f Content h = (h.0, known_map p.old p.new (FrameHasFault f from) (NextHasFault f from) (λ text rest faulty. inl faulty) h.1)

pub frame_stops : (from : Place) (p : Passage) (f : FileFault) → StopsReading (endings_from from) (frame_read from) p f → StopsFrom from p (of_avi f)
frame_stops from p f h = stops_by from p (of_avi f) (cause_of (of_avi f)) (file_stops (frame_read from) (endings_from from) p f h)

-- there is no further frame, and then a reader that came to the end, in that container, looks behind
module _ (old reader : Standing) (i0 i1 i2 : Option (List ℕ)) (ib im ia : ℕ) (over : ReadsAs (frame_read old.place) (between i0 i1 ib im) None) (same : container_of reader.place ≡ container_of old.place) where
  ends_then : (Looked : Looks) → Known i1 i2 (Looked (notes_of reader)) → Known i0 i2 (EndsThen Looked old.place)
  ends_then Looked looks =
      known_map i0 i2 (λ text rest. (left : List ℕ) × (frame_read old.place text ≡ Ok (None, left)) × Looked (notes_of reader) left rest) (EndsThen Looked old.place)
      (λ text rest p. (p.0, (p.1, reader, same, p.2)))
      (known_then i0 i1 i2 (λ text rest. frame_read old.place text ≡ Ok (None, rest)) (Looked (notes_of reader)) over.1 looks)

  -- what it notes
  pub reads_end : (notes : Notes) → ReadsAs (notes_of reader) (between i1 i2 im ia) notes → ReadsEnd old.place notes (between i0 i2 ib ia)
  reads_end notes h = record { kept = h.0 ∙ over.0; over = ends_then (IsNoted notes) h.1 }

  -- or why it does not
  stops_behind : (place : Place) (f : FileFault) → is_behind_fault place f ≡ true → StopsReading any_value (notes_of reader) (between i1 i2 im ia) f → StopsFrom old.place (between i0 i2 ib ia) (of_avi f)
  stops_behind (InAvi place) f own h = absurd (let no : false ≡ true = own in cc)
  stops_behind (InMatroska segment track place) file_fault.Read own h =
      (h.0 ∙ ap one_more over.0, known_map i0 i2 (EndsThen BehindReadFails old.place) (NextReadFails old.place) (λ text rest fails. inr fails) (ends_then BehindReadFails h.1))
  stops_behind (InMatroska segment track place) file_fault.Another own h =
      let stops = file_stops (notes_of reader) any_value (between i1 i2 im ia) file_fault.Another h in
      (stops.0 ∙ over.0, known_map i0 i2 (EndsThen (BehindHasFault (fault.File file_fault.Another)) old.place) (NextHasFault (fault.File file_fault.Another) old.place) (λ text rest faulty. inr faulty) (ends_then (BehindHasFault (fault.File file_fault.Another)) stops.1))
  stops_behind (InMatroska segment track place) f own h = absurd (let no : false ≡ true = own in cc)

  pub behind_stops : (f : FileFault) → is_behind_fault reader.place f ≡ true → StopsReading any_value (notes_of reader) (between i1 i2 im ia) f → StopsFrom old.place (between i0 i2 ib ia) (of_avi f)
  behind_stops f own h = stops_behind reader.place f own h

  -- and where
  pub behind_located : (f : FileFault) → EndStays old reader → StopsReading any_value (notes_of reader) (between i1 i2 im ia) f → LocatedAfter old (between i0 i2 ib ia) (of_avi f) reader.end
  behind_located f stays h = λ scope text stands own. (
    f,
    refl,
    inr (record {
      last = old;
      between = i0;
      stands = stands;
      behind = i1;
      over = over.1;
      reader = reader;
      same = same;
      stays = stays;
      refused = subst (λ z. StopsReading any_value (notes_of reader) (between i1 i2 z ia) f) over.0 h;
      offset_is = refl;
    }),
  )
