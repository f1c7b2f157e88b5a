-- What is seen of elements beside their frames: whether Cues came after the last Cluster, and when
-- frames come.
use Rattle.std.specs.Prelude.{◌≡◌, ℕ, ◌++◌, List, Option, Some, None, Result, Ok, Err}
use Rattle.std.specs.Io.KnownBytes.{Consumes}
use Rattle.ffv1_wire.specs.Passage.{Passage}
use Rattle.ffv1_reads.specs.Offsets.{ReadsWhole}
use Rattle.ffv1_reads.specs.Reads.{Reading}
use Rattle.ffv1_reads.specs.declared.fault.FileFault.{FileFault}
use Rattle.ffv1_matroska.specs.Carried.{EndsCarried, carried}
use Rattle.ffv1_matroska.specs.Cues.{cued_behind}
use Rattle.ffv1_matroska.specs.Places.{frame_at}
use Rattle.ffv1_matroska.specs.Segments.{step_read}
use Rattle.ffv1_matroska.specs.Times.{timed_behind}
use Rattle.ffv1_matroska.specs.declared.place.Place.{Place}
use Rattle.ffv1_matroska.specs.declared.place.Step.{Step}
use Rattle.ffv1_matroska.specs.declared.times.Seen.{Seen}
use Rattle.ffv1_matroska.specs.declared.track.TrackNumbers.{TrackNumbers}

-- behind the element that these bytes begin with
unfoldable pub seen_behind : TrackNumbers → Place → List ℕ → Seen → Seen
seen_behind track place text seen =
    record {
      cued = cued_behind place text seen.cued;
      times = timed_behind track place text seen.times;
    }

-- an element from its first byte on, and what was seen behind it
unfoldable pub seen_taken : TrackNumbers → Place × Seen → Reading (Place × Seen)
seen_taken track from text = carried (seen_behind track) track from text

-- bytes were read as this step, and this was seen, whatever comes after them
pub record SeenStep (track : TrackNumbers) (from : Place × Seen) (old new : Option (List ℕ))
    (to : Step) (seen : Seen) : Type 0 where
  pub bytes : List ℕ
  pub consumed : Consumes old new bytes
  pub is : (rest : List ℕ) → step_read track from.0 (bytes ++ rest) ≡ Ok (Some to, rest)
  pub seen_is : (rest : List ℕ) → seen_behind track from.0 (bytes ++ rest) from.1 ≡ seen

-- elements were read whole up to the one of the frame that was found, of which the beginning was
-- read; or up to the end
abbrev pub FindsSeen : TrackNumbers → Place × Seen → Passage →
    Result (Option (ℕ × Place)) FileFault → Place × Seen → Type 0
FindsSeen track from p (Ok None) to = EndsCarried (seen_taken track) track from p to
FindsSeen track from p (Ok (Some found)) to =
    (between : Option (List ℕ)) × (count : ℕ) × (last : Seen) × (time : Option ℕ)
    × ReadsWhole (seen_taken track) from p.old between (to.0, last) count
    × SeenStep track (to.0, last) between p.new (frame_at time found.0 found.1) to.1
FindsSeen track from p (Err f) to = Unit {0}

-- elements were read whole up to a frame and with that; or up to the end
abbrev pub ReadsSeen : TrackNumbers → Place × Seen → Passage → Result (Option Place) FileFault →
    Place × Seen → Type 0
ReadsSeen track from p (Ok None) to = EndsCarried (seen_taken track) track from p to
ReadsSeen track from p (Ok (Some after)) to =
    (count : ℕ) × ReadsWhole (seen_taken track) from p.old p.new (after, to.1) count
ReadsSeen track from p (Err f) to = Unit {0}
