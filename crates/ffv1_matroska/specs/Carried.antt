-- What is told beside the elements of a Segment that are read, one after the other, and changes
-- nothing of how they are read.
use Rattle.std.specs.Prelude.{◌≡◌, ℕ, Bool, true, false, List, Option, None, Result, Ok, Err}
use Rattle.ffv1_wire.specs.Passage.{Passage}
use Rattle.ffv1_reads.specs.Ends.{ReadOrNone}
use Rattle.ffv1_reads.specs.Offsets.{ReadsWhole}
use Rattle.ffv1_reads.specs.Reads.{Reading, given, read_on}
use Rattle.ffv1_reads.specs.declared.fault.FileFault.{FileFault}
use Rattle.ffv1_matroska.specs.Offsets.{element_taken}
use Rattle.ffv1_matroska.specs.Segments.{step_read}
use Rattle.ffv1_matroska.specs.declared.place.Place.{Place}
use Rattle.ffv1_matroska.specs.declared.track.TrackNumbers.{TrackNumbers}

-- an element from its first byte on, and what is told behind it
abbrev pub carried : {X : Type 0} → (Place → List ℕ → X → X) → TrackNumbers → Place × X →
    Reading (Place × X)
carried behind track from text =
    read_on (element_taken track from.0 text)
    (λ place. given (place, behind from.0 text from.1))

-- such elements were read whole up to a place at which the Segment has ended
abbrev pub EndsCarried : {X : Type 0} → (Place × X → Reading (Place × X)) → TrackNumbers →
    Place × X → Passage → Place × X → Type 0
EndsCarried taken track from p to =
    (between : Option (List ℕ)) × (count : ℕ)
    × ReadsWhole taken from p.old between to count
    × ReadOrNone (step_read track to.0) between p.new None

-- what is told after a call for a frame: up to the frame that it gives, or up to the end; after a
-- fault what was told before
abbrev pub CarriedNext : {X : Type 0} → (Place × X → Reading (Place × X)) → TrackNumbers →
    Place × X → Passage → Result Bool FileFault → Place × X → Type 0
CarriedNext taken track from p (Ok true) to =
    (count : ℕ) × ReadsWhole taken from p.old p.new to count
CarriedNext taken track from p (Ok false) to =
    (place : Place) × EndsCarried taken track from p (place, to.1)
CarriedNext taken track from p (Err f) to = to.1 ≡ from.1
