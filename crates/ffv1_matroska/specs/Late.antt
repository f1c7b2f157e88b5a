-- Tracks that stand behind Clusters (RFC 9559, 5.1). A file whose first Cluster comes before any
-- Tracks is read again from its beginning up to the first Tracks, and then once more, with the
-- track that they say.
use Rattle.std.specs.Prelude.{ℕ, suc, zero, ◌==◌, ◌&&◌, Bool, true, false, if◌then◌else◌, List}
use Rattle.std.specs.Prelude.{Option, Some, None, Result, Ok, Err}
use Rattle.ffv1_reads.specs.Head.{Head}
use Rattle.ffv1_reads.specs.Reads.{Met, Reading, Short, Stop, given, passed, refused, ◌>>=◌}
use Rattle.ffv1_reads.specs.declared.fault.FileFault.TheVariants as fault
use Rattle.ffv1_ebml.specs.declared.element.Element.{Element}
use Rattle.ffv1_matroska.specs.Files.{frames_read}
use Rattle.ffv1_matroska.specs.Opened.{Opened, begin_from, ebml_read, element_passed, open_read}
use Rattle.ffv1_matroska.specs.Opened.{tracks, tracks_read}
use Rattle.ffv1_matroska.specs.Opening.{segment_begun, segment_entered}
use Rattle.ffv1_matroska.specs.Places.{amount, segment_at}
use Rattle.ffv1_matroska.specs.Segments.{cluster, header_read, is_filler, is_of_cluster}
use Rattle.ffv1_matroska.specs.Tracks.{Track}
use Rattle.ffv1_matroska.specs.declared.place.Place.{Place}

-- a Cluster after its header: one of known size is passed whole; of one of unknown size the header
-- alone, and then its elements one by one
abbrev pub cluster_passed : Option ℕ → Reading Bool
cluster_passed None = given true
cluster_passed (Some size) = passed size >>= λ _. given false

-- an element of a Cluster of unknown size after its header: its size must be known
abbrev pub loose_passed : Option ℕ → Reading Bool
loose_passed None = refused fault.BadElement
loose_passed (Some size) = passed size >>= λ _. given true

-- an element of the Segment other than Tracks, after its header, and whether what comes next is in
-- a Cluster of unknown size, as what came before it was or not
unfoldable pub passed_over : Bool → ℕ → Option ℕ → Reading Bool
passed_over loose ident size =
    if ident == cluster then cluster_passed size
    else if loose && is_of_cluster ident then loose_passed size
    else (element_passed ident size >>= λ _. given (loose && is_filler ident))

-- the first Tracks, or the next element of the Segment and those after it
abbrev pub tracks_or_on : (Place → Reading Track) → Place → Option Element → Reading Track
tracks_or_on on place None = refused fault.NoTracks
tracks_or_on on place (Some e) =
    if e.ident == tracks then tracks_read e.size
    else (passed_over place.loose e.ident e.size >>= λ loose. on (segment_at place loose e.left))

-- the track of the first Tracks, among at most so many elements
unfoldable pub sought_up_to : ℕ → Place → Reading Track
sought_up_to zero place = refused fault.NoTracks
sought_up_to (suc most) place = header_read place >>= tracks_or_on (sought_up_to most) place

-- the same from a place of the Segment on. Each element leaves less, and one more comes to the end
abbrev pub track_sought : Place → Reading Track
track_sought place = sought_up_to (suc (amount place)) place

-- the first Tracks of a file, wherever they stand in its Segment
unfoldable pub track_read : Reading Track
track_read = ebml_read >>= λ _. (segment_entered >>= λ size. track_sought (segment_begun size))

-- a Segment of this size, up to where the frames of a track begin that is known
abbrev pub segment_reopened : Track → Option ℕ → Reading Opened
segment_reopened track size = begin_from (Some track) (segment_begun size) >>= λ p.
    given (record { track = p.0; segment = size; place = p.1 })

-- a file up to there
unfoldable pub reopened : Track → Reading Opened
reopened track = ebml_read >>= λ _. (segment_entered >>= segment_reopened track)

-- the bytes are read with the track that they say
abbrev pub opened_with : List ℕ → Result (Track × List ℕ) Stop → Result (Opened × List ℕ) Stop
opened_with text (Ok p) = reopened p.0 text
opened_with text (Err why) = Err why

-- a file up to where its frames begin, if its first Tracks are sought before that
abbrev pub late_read : Reading Opened
late_read text = opened_with text (track_read text)

-- they are sought if none come before the first Cluster
abbrev pub opened_again : List ℕ → Result (Opened × List ℕ) Stop → Result (Opened × List ℕ) Stop
opened_again text (Ok p) = Ok p
opened_again text (Err (Short w)) = Err (Short w)
opened_again text (Err (Met fault.NoTracks rest)) = late_read text
opened_again text (Err (Met f rest)) = Err (Met f rest)

-- a file up to where its frames begin, wherever its Tracks stand
unfoldable pub again_read : Reading Opened
again_read text = opened_again text (open_read text)

-- its head and its frames
unfoldable pub file_again_read : Reading (Head × List (List ℕ))
file_again_read = again_read >>= λ o. (frames_read o.track.numbers o.place >>= λ frames.
    given (o.track.head, frames))
