-- Where in a file a fault is: in the element, of those one after the other, that could not be read.
-- The CRC-32 of a Cluster is known with its last element, and is a fault of that.
use Rattle.std.specs.Prelude.{◌≡◌, ◌⊎◌, ◌+◌, ◌==◌, if◌then◌else◌, ℕ, suc, zero, Bool, true, false}
use Rattle.std.specs.Prelude.{List}
use Rattle.std.specs.Prelude.{Option, Some, None, Result, Ok, Err, ⊤}
use Rattle.ffv1_wire.specs.Passage.{Passage}
use Rattle.ffv1_reads.specs.Ends.{ReadOrNone, RefusedOrFaults}
use Rattle.ffv1_reads.specs.declared.fault.FileFault.TheVariants as fault
use Rattle.ffv1_matroska.specs.Internal.{track_kept}
use Rattle.ffv1_matroska.specs.declared.track.Numbers.{Numbers}
use Rattle.ffv1_reads.specs.Offsets.{ReadsWhole, StopsAfter, offset_after}
use Rattle.ffv1_reads.specs.Reads.{Read, Reading, given, refused, ◌>>=◌}
use Rattle.ffv1_reads.specs.declared.fault.FileFault.{FileFault}
use Rattle.ffv1_ebml.specs.Sums.{kept_summed}
use Rattle.ffv1_ebml.specs.declared.element.Element.{Element}
use Rattle.ffv1_matroska.specs.Opened.{begun_at, ebml_read, in_cluster, tracks_or_passed}
use Rattle.ffv1_matroska.specs.Opening.{most_elements, root_read, segment_begun}
use Rattle.ffv1_matroska.specs.Places.{amount, closed, ended, frame_at, segment_at, summed_at}
use Rattle.ffv1_matroska.specs.Readers.{Standing}
use Rattle.ffv1_matroska.specs.Segments.{cluster, header_read, step_read}
use Rattle.ffv1_matroska.specs.Tracks.{Track}
use Rattle.ffv1_matroska.specs.declared.place.Place.{Place}
use Rattle.ffv1_matroska.specs.declared.place.Step.{Step}
use Rattle.ffv1_matroska.specs.declared.track.TrackNumbers.{TrackNumbers}

-- a frame after the beginning of its element, if it has one
abbrev pub frame_taken : Place → Option ℕ → Reading Place
frame_taken place None = given place
frame_taken place (Some size) = kept_summed size place.sum >>= λ p.
    closed (summed_at place p.1) (summed_at place p.1)

abbrev pub step_taken : Place → Option Step → Reading Place
step_taken place None = given place
step_taken place (Some s) = frame_taken s.place s.frame

-- an element from its first byte on, of a Segment, a Cluster or a BlockGroup: all of it, with its
-- frame if it is a block of the track; of a Cluster the header alone, since its elements come next;
-- of a BlockGroup all up to its first Block and with that. At the end nothing is read
unfoldable pub element_taken : TrackNumbers → Place → Reading Place
element_taken track place = step_read track place >>= step_taken place

-- where a reader stands before the frames: before the file; before its Segment, which is one of so
-- many elements; before an element of that, if these Tracks were before; or before the frames
pub data Spot : Type 0 where
  Start : Spot
  BeforeSegment : ℕ → Spot
  InSegment : Option Track → Place → Spot
  BeforeFrames : Track → Place → Spot

abbrev pub frames_begun : Option Track → Place → Reading Spot
frames_begun found place = begun_at found place >>= λ p. given (BeforeFrames p.0 p.1)

-- an element of the Segment before the frames; of the first Cluster the header alone. If the
-- Segment ends before any Tracks, the fault is at its end
abbrev pub beginning_taken : Option Track → Place → Option Element → Reading Spot
beginning_taken found place None = frames_begun found ended
beginning_taken found place (Some e) =
    if e.ident == cluster
    then frames_begun found (in_cluster (segment_at place false e.left) e.size)
    else (tracks_or_passed found e.ident e.size >>= λ now.
    given (InSegment now (segment_at place false e.left)))

-- after a Void, and after the header of the Segment
abbrev pub spot_behind : ℕ → Option (Option ℕ) → Spot
spot_behind most None = BeforeSegment most
spot_behind most (Some size) = InSegment None (segment_begun size)

-- an element from its first byte on, before the frames: the header of EBML; a Void, or of the
-- Segment the header alone; and its elements. Before the frames nothing is read
unfoldable pub spot_taken : Spot → Reading Spot
spot_taken Start = ebml_read >>= λ _. given (BeforeSegment most_elements)
spot_taken (BeforeSegment zero) = refused fault.NotMatroska
spot_taken (BeforeSegment (suc most)) = root_read >>= λ root. given (spot_behind most root)
spot_taken (InSegment found place) = header_read place >>= beginning_taken found place
spot_taken (BeforeFrames track place) = given (BeforeFrames track place)

-- elements of so many bytes were read whole before the frames, and the one that comes next was
-- refused
pub record OpeningStops (from : Spot) (p : Passage) (f : FileFault) (to : Spot) (count : ℕ)
    : Type 0 where
  pub between : Option (List ℕ)
  pub before : ReadsWhole spot_taken from p.old between to count
  pub refused : RefusedOrFaults fault.NoTracks (λ _. Unit {0}) (spot_taken to)
      between p.new p.before p.after f

-- elements of so many bytes were read whole, Tracks among them, and no element of the Segment comes
-- next
pub record EndsBeforeFrames (from : Spot) (old new : Option (List ℕ)) (track : Track) (count : ℕ)
    : Type 0 where
  pub here : Place
  pub between : Option (List ℕ)
  pub before : ReadsWhole spot_taken from old between (InSegment (Some track) here) count
  pub none : ReadOrNone (header_read here) between new None

-- the frames of a file begin after elements of so many bytes; or it ends after these, before any
abbrev pub FramesBegin : Spot → Passage → Track → Place → ℕ → Type 0
FramesBegin from p track place count =
    ReadsWhole spot_taken from p.old p.new (BeforeFrames track place) count
    ⊎ ((place ≡ ended) × EndsBeforeFrames from p.old p.new track count)

-- an offset that has counted all bytes before counts so many more
abbrev pub CountsOn : ℕ → ℕ → ℕ → Type 0
CountsOn before after count =
    (n : ℕ) → before ≡ offset_after 0 n → after ≡ offset_after 0 (n + count)

-- elements before the Segment were read whole and are counted: with the header of the Segment, of
-- this size; or up to the element that was refused
abbrev pub EntersFrom : Passage → Result (Option ℕ) FileFault → ℕ → ℕ → Type 0
EntersFrom p (Ok size) before after =
    (count : ℕ) × ReadsWhole spot_taken (BeforeSegment most_elements) p.old p.new
    (InSegment None (segment_begun size)) count × CountsOn before after count
EntersFrom p (Err f) before after =
    (most count : ℕ) × OpeningStops (BeforeSegment most_elements) p f (BeforeSegment most) count
    × CountsOn before after count

-- the elements of a Segment before the frames, if these Tracks were before: if the frames begin,
-- `here` is the place where they do; if an element was refused, it is the place before that
abbrev pub BeginsFrom : Option Track → Place → Passage → List ℕ →
    Result (Numbers × Place) FileFault → Place → Type 0
BeginsFrom known place p bytes (Ok n) here =
    (count : ℕ) × FramesBegin (InSegment known place) p (track_kept n.0 bytes) n.1 count
    × (place.cluster + place.group ≡ 0 → count + amount here ≡ amount place)
BeginsFrom known place p bytes (Err f) here =
    (found : Option Track) × (count : ℕ)
    × OpeningStops (InSegment known place) p f (InSegment found here) count
    × (place.cluster + place.group ≡ 0 → count + amount here ≡ amount place)

-- a file up to its frames: the offset of what comes next; or of the element that was refused
abbrev pub OpensFrom : Passage → List ℕ → Result (Option ℕ × Numbers × Place) FileFault → ℕ → Type 0
OpensFrom p bytes (Ok n) offset =
    (count : ℕ) × FramesBegin Start p (track_kept n.1 bytes) n.2 count
    × (offset ≡ offset_after 0 count)
OpensFrom p bytes (Err f) offset =
    (to : Spot) × (count : ℕ) × OpeningStops Start p f to count × (offset ≡ offset_after 0 count)

-- the same of a reader that was opened
abbrev pub OffsetOpened : Passage → Result Standing FileFault → ℕ → Type 0
OffsetOpened p (Ok r) offset =
    (count : ℕ) × FramesBegin Start p r.track r.place count × (r.offset ≡ offset_after 0 count)
OffsetOpened p (Err f) offset =
    (to : Spot) × (count : ℕ) × OpeningStops Start p f to count × (offset ≡ offset_after 0 count)

-- the offset after a call for a frame: after the frame that it gives; after a fault, where the
-- element begins that could not be read
abbrev pub OffsetAfter : Standing → Passage → Result Bool FileFault → Standing → Type 0
OffsetAfter old p (Ok true) new =
    (count : ℕ) × ReadsWhole (element_taken old.track.numbers) old.place p.old p.new new.place count
    × (new.offset ≡ offset_after old.offset count)
OffsetAfter old p (Ok false) new = new.offset ≡ old.offset
OffsetAfter old p (Err f) new =
    (to : Place) × (count : ℕ)
    × StopsAfter (element_taken old.track.numbers) old.place p f to count
    × (new.offset ≡ offset_after old.offset count)

-- the element of the frame that was found begins at a position; or the one does that was refused
abbrev pub FindsFrom : TrackNumbers → Place → Passage → Result (Option (ℕ × Place)) FileFault →
    Place → Type 0
FindsFrom track place p (Ok None) to = ⊤
FindsFrom track place p (Ok (Some found)) to =
    (between : Option (List ℕ)) × (count : ℕ)
    × ReadsWhole (element_taken track) place p.old between to count
    × (time : Option ℕ)
    × Read (step_read track to) between p.new (Some (frame_at time found.0 found.1))
FindsFrom track place p (Err f) to =
    (count : ℕ) × StopsAfter (element_taken track) place p f to count

-- a frame was read; or its element begins at a position, or another one does, which was refused
abbrev pub ReadsFrom : TrackNumbers → Place → Passage → Result (Option Place) FileFault → Place →
    Type 0
ReadsFrom track place p (Ok None) to = ⊤
ReadsFrom track place p (Ok (Some after)) to =
    (count : ℕ) × ReadsWhole (element_taken track) place p.old p.new after count
ReadsFrom track place p (Err f) to =
    (count : ℕ) × StopsAfter (element_taken track) place p f to count
