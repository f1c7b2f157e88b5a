-- Tracks that stand behind Clusters of a file that may be damaged before its frames. It is read
-- from its beginning up to the first Tracks, wherever these stand, and nothing is told; and then
-- once more, with the track that they say, and what is told then is told.
use Rattle.std.specs.Prelude.{ℕ, suc, zero, ◌==◌, ◌&&◌, Bool, if◌then◌else◌, List, [], Option}
use Rattle.std.specs.Prelude.{Some, None, Result, Ok, Err}
use Rattle.ffv1_reads.specs.Reads.{Reading, Stop, given, refused, ◌>>=◌}
use Rattle.ffv1_reads.specs.declared.fault.FileFault.TheVariants as fault
use Rattle.ffv1_ebml.specs.declared.element.Element.{Element}
use Rattle.ffv1_matroska.specs.Late.{cluster_passed, loose_passed}
use Rattle.ffv1_matroska.specs.Opened.{told, tracks}
use Rattle.ffv1_matroska.specs.Opening.{segment_begun, segment_entered}
use Rattle.ffv1_matroska.specs.Places.{amount, segment_at}
use Rattle.ffv1_matroska.specs.Salvaged.{Begun, Salvaged, ebml_salvaged, element_salvaged}
use Rattle.ffv1_matroska.specs.Salvaged.{salvage_up_to, salvaged_as, told_more, tracks_salvaged}
use Rattle.ffv1_matroska.specs.Segments.{cluster, header_read, is_filler, is_of_cluster}
use Rattle.ffv1_matroska.specs.Tracks.{Track}
use Rattle.ffv1_matroska.specs.declared.place.Place.{Place}
use Rattle.ffv1_matroska.specs.declared.told.ToldFault.{ToldFault}

-- ---- up to the first Tracks

-- an element of the Segment other than Tracks, after its header, whatever would be told of it; and
-- whether what comes next is in a Cluster of unknown size
unfoldable pub salvaged_over : Bool → ℕ → Option ℕ → Reading Bool
salvaged_over loose ident size =
    if ident == cluster then cluster_passed size
    else if loose && is_of_cluster ident then loose_passed size
    else (element_salvaged ident size >>= λ _. given (loose && is_filler ident))

-- what the first Tracks say, or the next element of the Segment and those after it
abbrev pub salvaged_or_on : (Place → Reading Track) → Place → Option Element → Reading Track
salvaged_or_on on place None = refused fault.NoTracks
salvaged_or_on on place (Some e) =
    if e.ident == tracks then (tracks_salvaged e.size >>= λ p. given p.0)
    else (salvaged_over place.loose e.ident e.size >>= λ loose.
    on (segment_at place loose e.left))

-- the track of the first Tracks, among at most so many elements
unfoldable pub salvage_sought_up_to : ℕ → Place → Reading Track
salvage_sought_up_to zero place = refused fault.NoTracks
salvage_sought_up_to (suc most) place =
    header_read place >>= salvaged_or_on (salvage_sought_up_to most) place

-- the same from a place of the Segment on
abbrev pub salvage_sought : Place → Reading Track
salvage_sought place = salvage_sought_up_to (suc (amount place)) place

-- the first Tracks of a file, wherever they stand in its Segment
unfoldable pub salvage_track : Reading Track
salvage_track = ebml_salvaged >>= λ _. (segment_entered >>= λ size.
    salvage_sought (segment_begun size))

-- ---- with their track

-- a Segment of this size, up to where the frames of a track begin that is known
abbrev pub known_from : Track → Place → List ToldFault → Reading Begun
known_from track begin faults = salvage_up_to (suc (amount begin)) begin (Some track) begin faults

abbrev pub segment_known : Track → List ToldFault → Option ℕ → Reading Salvaged
segment_known track faults size = known_from track (segment_begun size) faults >>= λ b.
    given (salvaged_as size b)

-- a file up to there
unfoldable pub salvage_known : Track → Reading Salvaged
salvage_known track = ebml_salvaged >>= λ f. (told (told_more [] f None) >>= λ faults.
    (segment_entered >>= segment_known track faults))

-- ---- the one and then the other

-- the bytes are read with the track that they say
abbrev pub salvaged_with : List ℕ → Result (Track × List ℕ) Stop → Result (Salvaged × List ℕ) Stop
salvaged_with text (Ok p) = salvage_known p.0 text
salvaged_with text (Err why) = Err why

-- a file that may be damaged, up to where its frames begin, if its first Tracks are sought before
abbrev pub late_salvaged : Reading Salvaged
late_salvaged text = salvaged_with text (salvage_track text)
