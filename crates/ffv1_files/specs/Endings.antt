-- What the end of the input may be, in a file of either container.
use Rattle.std.specs.Prelude.{◌≡◌, ℕ, List, Option}
use Rattle.ffv1_reads.specs.Head.{Head}
use Rattle.ffv1_reads.specs.declared.fault.FileFault.TheVariants as fault
use Rattle.ffv1_avi.specs.declared.place.Extent.{Extent}
use Rattle.ffv1_avi.specs.declared.place.Extent.TheVariants.{FirstMovi, EveryRiff}
use Rattle.ffv1_avi.specs.Places as avi
use Rattle.ffv1_matroska.specs.Places.{ended}
use Rattle.ffv1_files.specs.declared.container.Scope.{Scope}
use Rattle.ffv1_files.specs.declared.container.Scope.TheVariants as scope
use Rattle.ffv1_files.specs.Answers.{Endings, no_ending, nothing_more}
use Rattle.ffv1_files.specs.Places.{InAvi, InMatroska, Place}

-- of an AVI, to the reading of its next frame: that there is none, if every RIFF is read
abbrev pub avi_endings : {X : Type 0} → Extent → Endings (Option X)
avi_endings FirstMovi = no_ending
avi_endings EveryRiff = nothing_more

-- to the reading of the next frame
abbrev pub endings_from : Place → Endings (Option (List ℕ × Place))
endings_from (InAvi place) = avi_endings (avi.extent_of place)
endings_from (InMatroska segment track place) = nothing_more

-- a Segment that is over before its first frame
abbrev pub HasNoCluster : Head × Place → Type 0
HasNoCluster (head, InAvi place) = ⊥
HasNoCluster (head, InMatroska segment track place) = place ≡ ended

-- to the opening of a file: an open Segment may end before its Tracks, or after them
abbrev pub opening_endings : Scope → Endings (Head × Place)
opening_endings scope.FirstMovi = no_ending
opening_endings scope.Whole = record { values = HasNoCluster; faults = λ f. f ≡ fault.NoTracks }
