-- What comes before the frames: the header of EBML, and the elements of the Segment up to its first
-- Cluster, of which the first Tracks say which frames are read (RFC 9559, 5.1).
use Rattle.std.specs.Prelude.{ℕ, suc, zero, ◌==◌, true, false, if◌then◌else◌, List, Option, Some}
use Rattle.std.specs.Prelude.{None, Result, Ok, Err}
use Rattle.ffv1_reads.specs.Head.{Head}
use Rattle.ffv1_reads.specs.Reads.{Reading, given, passed, refused, ◌>>=◌}
use Rattle.ffv1_reads.specs.declared.fault.FileFault.{FileFault}
use Rattle.ffv1_reads.specs.declared.fault.FileFault.TheVariants as fault
use Rattle.ffv1_ebml.specs.Elements.{content_passed}
use Rattle.ffv1_ebml.specs.declared.element.Element.{Element}
use Rattle.ffv1_matroska.specs.Files.{frames_read}
use Rattle.ffv1_matroska.specs.Opening.{content_kept, header_in, ident_read, segment_begun}
use Rattle.ffv1_matroska.specs.Opening.{segment_entered, top_size}
use Rattle.ffv1_matroska.specs.Places.{amount, cluster_entered, ended, segment_at}
use Rattle.ffv1_matroska.specs.Segments.{cluster, header_read, is_filler, is_section}
use Rattle.ffv1_matroska.specs.Tracks.{Track, track_in}
use Rattle.ffv1_matroska.specs.declared.place.Place.{Place}

-- the IDs of EBML and of Tracks
abbrev pub ebml : ℕ
ebml = 0x1A45DFA3

abbrev pub tracks : ℕ
tracks = 0x1654AE6B

-- what was kept says this, or has a fault, which is met after all of it
abbrev pub told : {X : Type 0} → Result X FileFault → Reading X
told (Ok x) = given x
told (Err f) = refused f

-- Tracks are kept, and say their track
unfoldable pub tracks_read : Option ℕ → Reading Track
tracks_read size = content_kept size >>= λ content. told (track_in content)

-- the frames of a track begin at a position; there is none if no Tracks were before it
unfoldable pub begun_at : Option Track → Place → Reading (Track × Place)
begun_at None place = refused fault.NoTracks
begun_at (Some track) place = given (track, place)

-- in a Cluster after its header
abbrev pub in_cluster : Place → Option ℕ → Place
in_cluster place None = segment_at place true place.segment
in_cluster place (Some size) = cluster_entered place size

-- an element that holds no frames is passed, with its CRC-32 judged if it has one; any other may
-- not stand there, and no unknown size
unfoldable pub element_passed : ℕ → Option ℕ → Reading (Unit {0})
element_passed ident None = refused fault.BadElement
element_passed ident (Some size) =
    if is_section ident then content_passed size
    else if is_filler ident then passed size
    else refused fault.BadElement

-- Tracks if there were none yet; after the first ones others are passed
abbrev pub tracks_or_passed : Option Track → ℕ → Option ℕ → Reading (Option Track)
tracks_or_passed None ident size =
    if ident == tracks then (tracks_read size >>= λ track. given (Some track))
    else (element_passed ident size >>= λ _. given None)
tracks_or_passed (Some track) ident size = element_passed ident size >>= λ _. given (Some track)

-- an element of the Segment after its header, and those after it: the first Cluster ends what comes
-- before the frames, and so does the end of the Segment
abbrev pub element_or_begun : (Option Track → Place → Reading (Track × Place)) → Option Track →
    Place → Option Element → Reading (Track × Place)
element_or_begun on found place None = begun_at found ended
element_or_begun on found place (Some e) =
    if e.ident == cluster then begun_at found (in_cluster (segment_at place false e.left) e.size)
    else (tracks_or_passed found e.ident e.size >>= λ now. on now (segment_at place false e.left))

-- where the frames begin, after at most so many elements, if these Tracks were before
unfoldable pub begin_up_to : ℕ → Option Track → Place → Reading (Track × Place)
begin_up_to zero found place = refused fault.NoTracks
begin_up_to (suc most) found place =
    header_read place >>= element_or_begun (begin_up_to most) found place

-- the track and the place where its frames begin, if these Tracks were before. Each element leaves
-- less, and one more comes to the end
abbrev pub begin_from : Option Track → Place → Reading (Track × Place)
begin_from found place = begin_up_to (suc (amount place)) found place

-- the same of a Segment from its beginning on
abbrev pub begin_read : Place → Reading (Track × Place)
begin_read place = begin_from None place

-- what is known of a file when its frames begin: its track, the size of its Segment and the place
pub record Opened : Type 0 where
  pub track : Track
  pub segment : Option ℕ
  pub place : Place

-- the header of EBML
unfoldable pub ebml_read : Reading (Unit {0})
ebml_read = ident_read ebml >>= λ _. (top_size >>= λ size.
    (content_kept size >>= λ content. told (header_in content)))

-- a Segment of this size, up to where its frames begin
abbrev pub segment_opened : Option ℕ → Reading Opened
segment_opened size = begin_read (segment_begun size) >>= λ p.
    given (record { track = p.0; segment = size; place = p.1 })

-- a file up to where its frames begin
unfoldable pub open_read : Reading Opened
open_read = ebml_read >>= λ _. (segment_entered >>= segment_opened)

-- a file: its head and its frames
unfoldable pub file_read : Reading (Head × List (List ℕ))
file_read = open_read >>= λ o. (frames_read o.track.numbers o.place >>= λ frames.
    given (o.track.head, frames))
