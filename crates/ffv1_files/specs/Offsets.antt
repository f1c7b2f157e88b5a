-- Where in a file a reader stands, and where one is refused: a number of bytes from its beginning.
-- Before the frames, and from there on, elements of a Matroska file or chunks of an AVI come one
-- after the other.
use Rattle.std.specs.Prelude.{◌≡◌, ◌⊎◌, ◌+◌, ℕ, Bool, true, false, List, Option, Some, None}
use Rattle.std.specs.Prelude.{Result, Ok, Err, ⊤}
use Rattle.ffv1_wire.specs.Passage.{Passage, between}
use Rattle.ffv1_reads.specs.Head.{Head}
use Rattle.ffv1_reads.specs.Offsets.{ReadsWhole, StopsAfter, offset_after}
use Rattle.ffv1_reads.specs.Reads.{Reading}
use Rattle.ffv1_reads.specs.declared.fault.FileFault.{FileFault}
use Rattle.ffv1_reads.specs.declared.fault.FileFault.TheVariants as fault
use Rattle.ffv1_avi.specs.Offsets as avi
use Rattle.ffv1_avi.specs.declared.place.Extent.{Extent}
use Rattle.ffv1_avi.specs.declared.place.Extent.TheVariants.{FirstMovi, EveryRiff}
use Rattle.ffv1_avi.specs.declared.place.Place.{Place as AviPlace}
use Rattle.ffv1_matroska.specs.Again.{Enters, StopsTwice}
use Rattle.ffv1_matroska.specs.Offsets as matroska
use Rattle.ffv1_matroska.specs.Opening.{segment_begun}
use Rattle.ffv1_matroska.specs.Places.{ended}
use Rattle.ffv1_matroska.specs.Tracks.{Track}
use Rattle.ffv1_matroska.specs.declared.place.Place.{Place as MatroskaPlace}
use Rattle.ffv1_matroska.specs.declared.track.TrackNumbers.{TrackNumbers}
use Rattle.ffv1_files.specs.declared.container.Scope.{Scope}
use Rattle.ffv1_files.specs.declared.container.Scope.TheVariants as scope
use Rattle.ffv1_files.specs.Again.{lacks_tracks}
use Rattle.ffv1_files.specs.Places.{InAvi, InMatroska, Place}
use Rattle.ffv1_files.specs.Readers.{Standing}

-- how a file is laid out: elements of its opening one after the other from a start, and from the
-- place where the frames begin those among the frames
pub record Layout (S T : Type 0) : Type 0 where
  pub opening : S → Reading S
  pub start : S
  pub frames : T → Reading T
  pub begun : T → S

-- from the beginning of a file elements were read whole up to the frames, and others from there on,
-- of as many bytes as the offset says
pub record ReadsThrough {S T : Type 0} (layout : Layout S T) (text left : Option (List ℕ))
    (place : T) (offset : ℕ) : Type 0 where
  pub first : T
  pub between : Option (List ℕ)
  pub before : ℕ
  pub after : ℕ
  pub opened : ReadsWhole layout.opening layout.start text between (layout.begun first) before
  pub framed : ReadsWhole layout.frames first between left place after
  pub offset_is : offset ≡ offset_after 0 (before + after)

-- the same, and the element that comes next was refused
pub record StopsThrough {S T : Type 0} (layout : Layout S T) (p : Passage) (f : FileFault)
    (offset : ℕ) : Type 0 where
  pub first : T
  pub between : Option (List ℕ)
  pub before : ℕ
  pub to : T
  pub after : ℕ
  pub opened : ReadsWhole layout.opening layout.start p.old between (layout.begun first) before
  pub stops : StopsAfter layout.frames first (record p { old = between }) f to after
  pub offset_is : offset ≡ offset_after 0 (before + after)

-- an AVI
abbrev pub avi_layout : Extent → Head → Layout avi.Spot AviPlace
avi_layout extent head = record {
  opening = avi.spot_taken extent;
  start = avi.Start;
  frames = avi.chunk_taken;
  begun = λ first. avi.BeforeFrames head first;
}

abbrev pub AviReached : Extent → Option (List ℕ) → Option (List ℕ) → Head → AviPlace → ℕ → Type 0
AviReached extent text left head place offset =
    ReadsThrough (avi_layout extent head) text left place offset

-- which may be refused before its frames
abbrev pub AviStops : Extent → Passage → FileFault → ℕ → Type 0
AviStops extent p f offset =
    ((to : avi.Spot) × (count : ℕ) × StopsAfter (avi.spot_taken extent) avi.Start p f to count
    × (offset ≡ offset_after 0 count))
    ⊎ ((head : Head) × StopsThrough (avi_layout extent head) p f offset)

-- a Matroska file
abbrev pub matroska_layout : Track → Layout matroska.Spot MatroskaPlace
matroska_layout track = record {
  opening = matroska.spot_taken;
  start = matroska.Start;
  frames = matroska.element_taken track.numbers;
  begun = λ first. matroska.BeforeFrames track first;
}

-- its Segment ended before any Cluster, after elements of as many bytes as the offset says
abbrev pub EndsEarly : Option (List ℕ) → Option (List ℕ) → Track → ℕ → Type 0
EndsEarly text left track offset =
    (count : ℕ) × matroska.EndsBeforeFrames matroska.Start text left track count
    × (offset ≡ offset_after 0 count)

-- a file that was begun again, with the track of its first Tracks: elements were read whole up to
-- its Segment, from there up to its frames, and from these on
pub record ReadsKnown (text left : Option (List ℕ)) (track : Track) (place : MatroskaPlace)
    (offset : ℕ) : Type 0 where
  pub size : Option ℕ
  pub known : Track
  pub first : MatroskaPlace
  pub between : Option (List ℕ)
  pub begun : Option (List ℕ)
  pub before : ℕ
  pub count : ℕ
  pub after : ℕ
  pub entered : ReadsWhole matroska.spot_taken matroska.Start text between
      (matroska.InSegment None (segment_begun size)) before
  pub opened : ReadsWhole matroska.spot_taken
      (matroska.InSegment (Some known) (segment_begun size)) between begun
      (matroska.BeforeFrames track first) count
  pub framed : ReadsWhole (matroska.element_taken track.numbers) first begun left place after
  pub offset_is : offset ≡ offset_after 0 (before + (count + after))

-- the same, and the element that comes next was refused
pub record StopsKnown (p : Passage) (f : FileFault) (offset : ℕ) : Type 0 where
  pub track : Track
  pub between : Option (List ℕ)
  pub place : MatroskaPlace
  pub before : ℕ
  pub reads : ReadsKnown p.old between track place before
  pub to : MatroskaPlace
  pub after : ℕ
  pub stops : StopsAfter (matroska.element_taken track.numbers) place (record p { old = between })
      f to after
  pub offset_is : offset ≡ offset_after before after

-- its Segment ended before any Cluster
abbrev pub EndsKnown : Option (List ℕ) → Option (List ℕ) → Track → ℕ → Type 0
EndsKnown text left track offset =
    Enters (between text left 0 0) (λ size q count. (known : Track)
    × matroska.EndsBeforeFrames (matroska.InSegment (Some known) (segment_begun size)) q.old q.new
    track count) offset

abbrev pub MatroskaReached : Option (List ℕ) → Option (List ℕ) → TrackNumbers → MatroskaPlace → ℕ →
    Type 0
MatroskaReached text left numbers place offset =
    ((head : Head)
    × ReadsThrough (matroska_layout (record { numbers = numbers; head = head })) text left place
    offset)
    ⊎ (((place ≡ ended) × (head : Head)
    × EndsEarly text left (record { numbers = numbers; head = head }) offset)
    ⊎ (((head : Head)
    × ReadsKnown text left (record { numbers = numbers; head = head }) place offset)
    ⊎ ((place ≡ ended) × (head : Head)
    × EndsKnown text left (record { numbers = numbers; head = head }) offset)))

-- read once, up to its frames
abbrev pub StopsOnce : Passage → FileFault → ℕ → Type 0
StopsOnce p f offset =
    (to : matroska.Spot) × (count : ℕ) × matroska.OpeningStops matroska.Start p f to count
    × (offset ≡ offset_after 0 count)

-- it has no Tracks: it was read again for these, up to what is left now, and it stops where the
-- first reading did, at its first Cluster or at its end
abbrev pub StopsWithout : Passage → FileFault → ℕ → Type 0
StopsWithout p f offset =
    (f ≡ fault.NoTracks) × (left : Option (List ℕ)) × StopsOnce (record p { new = left }) f offset

abbrev pub MatroskaStops : Passage → FileFault → ℕ → Type 0
MatroskaStops p f offset =
    StopsOnce p f offset
    ⊎ (((track : Track) × StopsThrough (matroska_layout track) p f offset)
    ⊎ (((lacks_tracks f ≡ false) × StopsTwice p f offset)
    ⊎ (StopsKnown p f offset ⊎ StopsWithout p f offset)))

-- what was read before a position; up to its first movi a file is read as AVI alone
abbrev pub PlaceReached : Scope → Option (List ℕ) → Option (List ℕ) → Head → Place → ℕ → Type 0
PlaceReached scope.FirstMovi text left head (InAvi place) offset =
    AviReached FirstMovi text left head place offset
PlaceReached scope.FirstMovi text left head (InMatroska segment track place) offset = ⊥
PlaceReached scope.Whole text left head (InAvi place) offset =
    AviReached EveryRiff text left head place offset
PlaceReached scope.Whole text left head (InMatroska segment track place) offset =
    MatroskaReached text left track place offset

abbrev pub FileStops : Scope → Passage → FileFault → ℕ → Type 0
FileStops scope.FirstMovi p f offset = AviStops FirstMovi p f offset
FileStops scope.Whole p f offset = AviStops EveryRiff p f offset ⊎ MatroskaStops p f offset

-- elements and chunks of as many bytes as the reader's offset says were read whole
pub record Reached (scope : Scope) (text left : Option (List ℕ)) (r : Standing) : Type 0 where
  pub whole : PlaceReached scope text left r.head r.place r.offset

-- elements and chunks of so many bytes were read whole, and the one that comes next was refused
pub record StopsAt (scope : Scope) (p : Passage) (f : FileFault) (offset : ℕ) : Type 0 where
  pub whole : FileStops scope p f offset

-- the same of a call for the next frame
abbrev pub LocatedNext : Scope → Option (List ℕ) → Passage → Result Bool FileFault → Standing →
    Type 0
LocatedNext scope text p (Ok true) r = Reached scope text p.new r
LocatedNext scope text p (Ok false) r = ⊤
LocatedNext scope text p (Err f) r = StopsAt scope (record p { old = text }) f r.offset
