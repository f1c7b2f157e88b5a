-- Whether Cues stand behind the last Cluster (RFC 9559, 5.1.5). Who writes a Segment of unknown
-- size to its end may write them last; one that was broken off has none there.
use Rattle.std.specs.Prelude.{◌≡◌, ℕ, ◌==◌, ◌||◌, ◌++◌, Bool, false, if◌then◌else◌, nat_lt, List}
use Rattle.std.specs.Prelude.{Option, Some, None, Result, Ok, Err}
use Rattle.std.specs.Io.KnownBytes.{Consumes}
use Rattle.ffv1_wire.specs.Passage.{Passage}
use Rattle.ffv1_reads.specs.Reads.{Reading, Stop}
use Rattle.ffv1_reads.specs.declared.fault.FileFault.{FileFault}
use Rattle.ffv1_ebml.specs.declared.element.Element.{Element}
use Rattle.ffv1_matroska.specs.Carried.{CarriedNext, carried}
use Rattle.ffv1_matroska.specs.Readers.{Standing}
use Rattle.ffv1_matroska.specs.Segments.{cluster, header_read, step_read}
use Rattle.ffv1_matroska.specs.declared.place.Place.{Place}
use Rattle.ffv1_matroska.specs.declared.place.Step.{Step}
use Rattle.ffv1_matroska.specs.declared.track.TrackNumbers.{TrackNumbers}

-- the ID of Cues
abbrev pub cues : ℕ
cues = 0x1C53BB6B

-- whether Cues came after the last Cluster, behind an element of the Segment with this ID: a
-- Cluster comes after all Cues before it
unfoldable pub cued_by : ℕ → Bool → Bool
cued_by ident cued = if ident == cluster then false else (cued || ident == cues)

abbrev pub cued_by_header : Option Element → Bool → Bool
cued_by_header None cued = cued
cued_by_header (Some e) cued = cued_by e.ident cued

abbrev pub cued_by_read : Result (Option Element × List ℕ) Stop → Bool → Bool
cued_by_read (Ok p) cued = cued_by_header p.0 cued
cued_by_read (Err why) cued = cued

-- the same behind the element that these bytes begin with: one in a Cluster of known size, or in a
-- BlockGroup, changes nothing
unfoldable pub cued_behind : Place → List ℕ → Bool → Bool
cued_behind place text cued =
    if nat_lt 0 place.group || nat_lt 0 place.cluster then cued
    else cued_by_read (header_read place text) cued

-- an element from its first byte on, and whether Cues came after the last Cluster
unfoldable pub cued_taken : TrackNumbers → Place × Bool → Reading (Place × Bool)
cued_taken track from text = carried cued_behind track from text

-- bytes were read as this step, and whether Cues came after the last Cluster, whatever comes after
-- them
pub record CuedStep (track : TrackNumbers) (from : Place × Bool) (old new : Option (List ℕ))
    (to : Step) (cued : Bool) : Type 0 where
  pub bytes : List ℕ
  pub consumed : Consumes old new bytes
  pub is : (rest : List ℕ) → step_read track from.0 (bytes ++ rest) ≡ Ok (Some to, rest)
  pub cued_is : (rest : List ℕ) → cued_behind from.0 (bytes ++ rest) from.1 ≡ cued

-- whether Cues came after the last Cluster, after a call for a frame: up to the frame that it
-- gives, or up to the end
abbrev pub CuedNext : TrackNumbers → Place × Bool → Passage → Result Bool FileFault → Place × Bool →
    Type 0
CuedNext track from p result to = CarriedNext (cued_taken track) track from p result to

abbrev pub CuedAfter : Standing → Passage → Result Bool FileFault → Standing → Type 0
CuedAfter old p result new =
    CuedNext old.track.numbers (old.place, old.cued) p result (new.place, new.cued)
