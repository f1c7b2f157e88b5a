-- Where in a file that may be damaged a fault ends the reading before the frames: in the element,
-- of those one after the other, that is refused; those before it were read whole, with what is told
-- of them.
use Rattle.std.specs.Prelude.{◌≡◌, ◌⊎◌, ◌+◌, ◌==◌, false, if◌then◌else◌, ℕ, List, Option}
use Rattle.std.specs.Prelude.{Some, None}
use Rattle.ffv1_reads.specs.Ends.{RefusedOrFaults}
use Rattle.ffv1_reads.specs.Offsets.{ReadsWhole, offset_after}
use Rattle.ffv1_reads.specs.Reads.{Read, Reading, given, ◌>>=◌}
use Rattle.ffv1_reads.specs.declared.fault.FileFault.{FileFault}
use Rattle.ffv1_reads.specs.declared.fault.FileFault.TheVariants as fault
use Rattle.ffv1_ebml.specs.declared.element.Element.{Element}
use Rattle.ffv1_matroska.specs.Offsets.{BeforeFrames, BeforeSegment, InSegment, Spot, Start}
use Rattle.ffv1_matroska.specs.Offsets.{frames_begun, spot_taken}
use Rattle.ffv1_matroska.specs.Opened.{in_cluster}
use Rattle.ffv1_matroska.specs.Opening.{most_elements}
use Rattle.ffv1_matroska.specs.Places.{amount, ended, segment_at}
use Rattle.ffv1_matroska.specs.Salvaged.{ebml_salvaged, tracks_or_salvaged}
use Rattle.ffv1_matroska.specs.Segments.{cluster, header_read}
use Rattle.ffv1_matroska.specs.Tracks.{Track}
use Rattle.ffv1_matroska.specs.declared.place.Place.{Place}

-- an element of the Segment before the frames, whatever is told of it; of the first Cluster the
-- header alone
abbrev pub beginning_salvaged : Option Track → Place → Option Element → Reading Spot
beginning_salvaged found place None = frames_begun found ended
beginning_salvaged found place (Some e) =
    if e.ident == cluster
    then frames_begun found (in_cluster (segment_at place false e.left) e.size)
    else (tracks_or_salvaged found e.ident e.size >>= λ p.
    given (InSegment p.0 (segment_at place false e.left)))

-- an element from its first byte on, before the frames, whatever is told of it; those between the
-- header of EBML and the Segment, of which nothing is told, as plainly
unfoldable pub salvaged_taken : Spot → Reading Spot
salvaged_taken Start = ebml_salvaged >>= λ _. given (BeforeSegment most_elements)
salvaged_taken (BeforeSegment most) = spot_taken (BeforeSegment most)
salvaged_taken (InSegment found place) = header_read place >>= beginning_salvaged found place
salvaged_taken (BeforeFrames track place) = given (BeforeFrames track place)

-- what is told of it
abbrev pub beginning_told : Option Track → Place → Option Element → Reading (Option FileFault)
beginning_told found place None = given None
beginning_told found place (Some e) =
    if e.ident == cluster then given None
    else (tracks_or_salvaged found e.ident e.size >>= λ p. given p.1)

unfoldable pub spot_told : Spot → Reading (Option FileFault)
spot_told Start = ebml_salvaged
spot_told (BeforeSegment most) = given None
spot_told (InSegment found place) = header_read place >>= beginning_told found place
spot_told (BeforeFrames track place) = given None

-- why an element ends it: it is refused with this fault, or the one is that would be told of it
abbrev pub StopsThere : Spot → Option (List ℕ) → Option (List ℕ) → FileFault → Type 0
StopsThere to old new f =
    ((before after : ℕ)
    × RefusedOrFaults fault.NoTracks (λ _. Unit {0}) (salvaged_taken to) old new before after f)
    ⊎ Read (spot_told to) old new (Some f)

-- elements of so many bytes were read whole, and the one that comes next ends it
pub record SalvageStops (from : Spot) (old new : Option (List ℕ)) (f : FileFault) (to : Spot)
    (count : ℕ) : Type 0 where
  pub between : Option (List ℕ)
  pub before : ReadsWhole salvaged_taken from old between to count
  pub stops : StopsThere to between new f

-- the elements of a Segment from its beginning on: `here` is the place before the one that ends it
abbrev pub SalvageStopsFrom : Place → Option (List ℕ) → Option (List ℕ) → FileFault → Place → Type 0
SalvageStopsFrom begin old new f here =
    (found : Option Track) × (count : ℕ)
    × SalvageStops (InSegment None begin) old new f (InSegment found here) count
    × (begin.cluster + begin.group ≡ 0 → count + amount here ≡ amount begin)

-- a file whose reading ends with this fault, after so many bytes: those of elements that were read
-- whole from its beginning on, one after the other
pub record FileStops (old new : Option (List ℕ)) (f : FileFault) (offset : ℕ) : Type 0 where
  pub to : Spot
  pub count : ℕ
  pub stops : SalvageStops Start old new f to count
  pub offset_is : offset ≡ offset_after 0 count
