-- The frames of a file, one after the other.
use Rattle.std.specs.Prelude.{ℕ, suc, zero, List, [], ◌∷◌, Option, Some, None}
use Rattle.ffv1_reads.specs.Reads.{Reading, given, ◌>>=◌}
use Rattle.ffv1_ebml.specs.Sums.{kept_summed}
use Rattle.ffv1_matroska.specs.Places.{amount, closed, summed_at}
use Rattle.ffv1_matroska.specs.Segments.{step_read}
use Rattle.ffv1_matroska.specs.declared.place.Place.{Place}
use Rattle.ffv1_matroska.specs.declared.place.Step.{Step}
use Rattle.ffv1_matroska.specs.declared.track.TrackNumbers.{TrackNumbers}

-- the frame that was found; or else the first one after the step
abbrev pub frame_or_on : (Place → Reading (Option (ℕ × Place))) → Place → Option ℕ →
    Reading (Option (ℕ × Place))
frame_or_on on place None = on place
frame_or_on on place (Some size) = given (Some (size, place))

abbrev pub found_or_on : (Place → Reading (Option (ℕ × Place))) → Option Step →
    Reading (Option (ℕ × Place))
found_or_on on None = given None
found_or_on on (Some s) = frame_or_on on s.place s.frame

-- the next frame, in at most so many steps
unfoldable pub frame_found_up_to : ℕ → TrackNumbers → Place → Reading (Option (ℕ × Place))
frame_found_up_to zero track place = given None
frame_found_up_to (suc most) track place =
    step_read track place >>= found_or_on (frame_found_up_to most track)

-- the size of a track's next frame, and the place after it, except its sum; none at the end. Each
-- step leaves less, and one more comes to the end
abbrev pub frame_found : TrackNumbers → Place → Reading (Option (ℕ × Place))
frame_found track place = frame_found_up_to (suc (amount place)) track place

-- a frame that was found; if it is the last of its Cluster, the CRC-32 of that is judged
abbrev pub found_read : Option (ℕ × Place) → Reading (Option (List ℕ × Place))
found_read None = given None
found_read (Some p) = kept_summed p.0 p.1.sum >>= λ q.
    closed (Some (q.0, summed_at p.1 q.1)) (summed_at p.1 q.1)

-- the next frame, and the place after it
abbrev pub frame_read : TrackNumbers → Place → Reading (Option (List ℕ × Place))
frame_read track place = frame_found track place >>= found_read

-- the frames, one after the other
abbrev pub more_frames : (Place → Reading (List (List ℕ))) → Option (List ℕ × Place) →
    Reading (List (List ℕ))
more_frames on None = given []
more_frames on (Some p) = on p.1 >>= λ frames. given (p.0 ∷ frames)

unfoldable pub frames_up_to : ℕ → TrackNumbers → Place → Reading (List (List ℕ))
frames_up_to zero track place = given []
frames_up_to (suc most) track place =
    frame_read track place >>= more_frames (frames_up_to most track)

-- all frames of a track from a position on
abbrev pub frames_read : TrackNumbers → Place → Reading (List (List ℕ))
frames_read track place = frames_up_to (suc (amount place)) track place
