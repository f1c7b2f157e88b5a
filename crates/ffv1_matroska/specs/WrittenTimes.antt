-- When the frames of a file come, and how its Segment ends, by its elements from where its frames
-- begin.
use Rattle.std.specs.Prelude.{◌≡◌, ℕ, Bool, false, List, [], Option, Some, None, Ok}
use Rattle.ffv1_reads.specs.Offsets.{ReadsWhole}
use Rattle.ffv1_matroska.specs.Cues.{cued_taken}
use Rattle.ffv1_matroska.specs.Late.{again_read}
use Rattle.ffv1_matroska.specs.Opened.{Opened}
use Rattle.ffv1_matroska.specs.Scales.{tick_in}
use Rattle.ffv1_matroska.specs.Segments.{step_read}
use Rattle.ffv1_matroska.specs.Times.{timed_taken, times_begun}
use Rattle.ffv1_matroska.specs.declared.place.Place.{Place}
use Rattle.ffv1_matroska.specs.declared.times.Times.{Times}

-- its elements are read whole up to any place, and none of the frames before that comes too early
-- or too late
abbrev pub ComeInTime : List ℕ → Type 0
ComeInTime file =
    (opened : Opened) (begun left : List ℕ) (place : Place) (times : Times) (count : ℕ) →
    again_read file ≡ Ok (opened, begun) →
    ReadsWhole (timed_taken opened.track.numbers) (opened.place, times_begun (tick_in file))
    (Some begun) (Some left) (place, times) count → times.off ≡ None

-- its elements are read whole up to a place where no further one comes: then the Segment has this
-- size, no further track is FFV1 video, Cues came after the last Cluster or not, and no bytes are
-- left
abbrev pub EndsWhole : List ℕ → Option ℕ → Bool → Type 0
EndsWhole file size cued =
    (opened : Opened) (begun left : List ℕ) (place : Place) (came : Bool) (count : ℕ) →
    again_read file ≡ Ok (opened, begun) →
    ReadsWhole (cued_taken opened.track.numbers) (opened.place, false) (Some begun) (Some left)
    (place, came) count →
    step_read opened.track.numbers place left ≡ Ok (None, left) →
    (opened.segment ≡ size) × (opened.track.numbers.others ≡ 0) × (came ≡ cued) × (left ≡ [])
