-- What a call answers that reads a file from its beginning again, since Tracks stand behind its
-- first Cluster; and where in the file a fault is.
use Rattle.std.specs.Prelude.{◌≡◌, ◌⊎◌, ◌+◌, ◌≤◌, ◌==◌, if◌then◌else◌, ℕ, List, Option, Some, None}
use Rattle.std.specs.Prelude.{false, Result, Ok, Err, ⊤}
use Rattle.ffv1_wire.specs.Failures.{one_more}
use Rattle.ffv1_wire.specs.Passage.{Passage}
use Rattle.ffv1_reads.specs.Ends.{ReadOrOver, RefusedOrFaults}
use Rattle.ffv1_reads.specs.Offsets.{ReadsWhole, offset_after}
use Rattle.ffv1_reads.specs.Reads.{Read, Reading, given, refused, ◌>>=◌}
use Rattle.ffv1_reads.specs.Room.{RoomRead}
use Rattle.ffv1_reads.specs.declared.fault.FileFault.{FileFault}
use Rattle.ffv1_reads.specs.declared.fault.FileFault.TheVariants as fault
use Rattle.ffv1_ebml.specs.declared.element.Element.{Element}
use Rattle.ffv1_matroska.specs.Internal.{track_kept}
use Rattle.ffv1_matroska.specs.Late.{passed_over, reopened, track_read}
use Rattle.ffv1_matroska.specs.Offsets.{FramesBegin, InSegment, OpeningStops, Spot, Start}
use Rattle.ffv1_matroska.specs.Offsets.{spot_taken}
use Rattle.ffv1_matroska.specs.Opened.{Opened, tracks, tracks_read}
use Rattle.ffv1_matroska.specs.Opening.{segment_begun}
use Rattle.ffv1_matroska.specs.Places.{amount, segment_at}
use Rattle.ffv1_matroska.specs.Readers.{HasEnded, Standing}
use Rattle.ffv1_matroska.specs.Segments.{header_read}
use Rattle.ffv1_matroska.specs.Tracks.{Track}
use Rattle.ffv1_matroska.specs.declared.place.Place.{Place}
use Rattle.ffv1_matroska.specs.declared.track.Numbers.{Numbers}

-- ---- what it answers: `here` is what was left when it was called, and the passage is from the
-- beginning of the file on

-- it could not be begun again: at once, or after its first Tracks were read
abbrev pub NotAgain : Option (List ℕ) → Passage → FileFault → Type 0
NotAgain here p f =
    (f ≡ fault.Read) × (p.after ≡ one_more p.before)
    × ((p.new ≡ here) ⊎ ((track : Track) × Read track_read p.old p.new track))

-- why it was not opened: its first Tracks were refused, or there are none; or they were read, and
-- then it was refused with their track; or it could not be begun again
abbrev pub StopsAgain : Option (List ℕ) → Passage → FileFault → Type 0
StopsAgain here p f =
    RefusedOrFaults fault.NoTracks (λ (track : Track). ⊥) track_read p.old p.new p.before p.after f
    ⊎ (((track : Track) × (between : Option (List ℕ)) × Read track_read p.old between track
    × RefusedOrFaults fault.NoTracks HasEnded (reopened track) p.old p.new p.before p.after f)
    ⊎ NotAgain here p f)

-- the answer: its first Tracks were read, and then it was opened with their track
abbrev pub AnswersAgain : {Y : Type 0} → (Y → Opened) → Option (List ℕ) → Passage →
    Result Y FileFault → Type 0
AnswersAgain view here p (Ok y) =
    (p.after ≡ p.before)
    × ((track : Track) × (between : Option (List ℕ)) × Read track_read p.old between track
    × ReadOrOver HasEnded (reopened track) p.old p.new (view y))
AnswersAgain view here p (Err f) = StopsAgain here p f

-- bytes were read twice, and room became greater by at most as many
pub record RoomTwice (old new : Option (List ℕ)) (before after : ℕ) : Type 0 where
  pub between : Option (List ℕ)
  pub room : ℕ
  pub first : RoomRead old between before room
  pub second : RoomRead old new room after

-- ---- where it stops

-- an element of the Segment from its first byte on, while its first Tracks are sought; of a Cluster
-- of unknown size the header alone, since its elements come next
abbrev pub sought_step : Place → Option Element → Reading Place
sought_step place None = refused fault.NoTracks
sought_step place (Some e) =
    if e.ident == tracks then (tracks_read e.size >>= λ _. given (segment_at place false e.left))
    else (passed_over place.loose e.ident e.size >>= λ loose.
    given (segment_at place loose e.left))

unfoldable pub sought_taken : Place → Reading Place
sought_taken place = header_read place >>= sought_step place

-- elements of so many bytes were read whole, and the one that comes next was refused
pub record SeekStops (from : Place) (p : Passage) (f : FileFault) (to : Place) (count : ℕ)
    : Type 0 where
  pub between : Option (List ℕ)
  pub before : ReadsWhole sought_taken from p.old between to count
  pub refused : RefusedOrFaults fault.NoTracks (λ (place : Place). Unit {0}) (sought_taken to)
      between p.new p.before p.after f

-- the first Tracks of a Segment are sought from a position on: `here` is their place, or that of
-- the element that was refused
abbrev pub SeeksFrom : Place → Passage → Result Numbers FileFault → Place → Type 0
SeeksFrom place p (Ok n) here = place.cluster + place.group ≡ 0 → amount here ≤ amount place
SeeksFrom place p (Err f) here =
    (count : ℕ) × SeekStops place p f here count
    × (place.cluster + place.group ≡ 0 → count + amount here ≡ amount place)

-- elements before the Segment and its header were read whole, and then this stands of its size, of
-- what was left there and of how many bytes more; the offset has counted all of them
pub record Enters (p : Passage) (Then : Option ℕ → Passage → ℕ → Type 0) (offset : ℕ)
    : Type 0 where
  pub size : Option ℕ
  pub between : Option (List ℕ)
  pub before : ℕ
  pub after : ℕ
  pub entered : ReadsWhole spot_taken Start p.old between (InSegment None (segment_begun size))
      before
  pub goes : Then size (record p { old = between }) after
  pub offset_is : offset ≡ offset_after 0 (before + after)

-- before the Segment, or in its header
abbrev pub StopsBefore : Passage → FileFault → ℕ → Type 0
StopsBefore p f offset =
    (to : Spot) × (count : ℕ) × OpeningStops Start p f to count × (offset ≡ offset_after 0 count)

-- in an element of the Segment, while its first Tracks are sought
abbrev pub StopsSeeking : Passage → FileFault → ℕ → Type 0
StopsSeeking p f offset = Enters p (λ size q count.
    (to : Place) × SeekStops (segment_begun size) q f to count) offset

-- in one of those up to where its frames begin, when its track is known
abbrev pub StopsKnown : Passage → FileFault → ℕ → Type 0
StopsKnown p f offset = Enters p (λ size q count. (track : Track) × (to : Spot)
    × OpeningStops (InSegment (Some track) (segment_begun size)) q f to count) offset

-- the frames of the track begin there
abbrev pub ReachesKnown : Passage → Track → Place → ℕ → Type 0
ReachesKnown p track place offset = Enters p (λ size q count. (known : Track)
    × FramesBegin (InSegment (Some known) (segment_begun size)) q track place count) offset

-- where it was refused; at the beginning if it could not be begun again
abbrev pub StopsTwice : Passage → FileFault → ℕ → Type 0
StopsTwice p f offset =
    StopsBefore p f offset
    ⊎ (StopsSeeking p f offset
    ⊎ (StopsKnown p f offset
    ⊎ ((f ≡ fault.Read) × (p.after ≡ one_more p.before) × (offset ≡ 0))))

abbrev pub TrackFrom : Passage → Result Numbers FileFault → ℕ → Type 0
TrackFrom p (Ok n) offset = ⊤
TrackFrom p (Err f) offset = StopsBefore p f offset ⊎ StopsSeeking p f offset

abbrev pub ReopensFrom : Passage → List ℕ → Result (Option ℕ × Numbers × Place) FileFault → ℕ →
    Type 0
ReopensFrom p bytes (Ok n) offset = ReachesKnown p (track_kept n.1 bytes) n.2 offset
ReopensFrom p bytes (Err f) offset = StopsBefore p f offset ⊎ StopsKnown p f offset

abbrev pub TwiceFrom : Passage → List ℕ → Result (Option ℕ × Numbers × Place) FileFault → ℕ →
    Type 0
TwiceFrom p bytes (Ok n) offset = ReachesKnown p (track_kept n.1 bytes) n.2 offset
TwiceFrom p bytes (Err f) offset = StopsTwice p f offset

-- the same of a reader that was opened so
abbrev pub TwiceOpened : Passage → Result Standing FileFault → ℕ → Type 0
TwiceOpened p (Ok r) offset = ReachesKnown p r.track r.place r.offset
TwiceOpened p (Err f) offset = StopsTwice p f offset
