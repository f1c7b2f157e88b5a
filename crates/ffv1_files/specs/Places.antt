-- Where a reader stands in a file, of either container.
use Rattle.std.specs.Prelude.{ℕ, Option}
use Rattle.ffv1_avi.specs.declared.place.Extent.{Extent}
use Rattle.ffv1_avi.specs.declared.place.Extent.TheVariants.{FirstMovi, EveryRiff}
use Rattle.ffv1_avi.specs.declared.place.Place.{Place as AviPlace}
use Rattle.ffv1_reads.specs.Head.{frame_limit}
use Rattle.ffv1_avi.specs.Names as names
use Rattle.ffv1_avi.specs.Places as avi
use Rattle.ffv1_files.specs.declared.container.Container.{Container}
use Rattle.ffv1_files.specs.declared.container.Container.TheVariants as container
use Rattle.ffv1_files.specs.declared.container.Scope.{Scope}
use Rattle.ffv1_files.specs.declared.container.Scope.TheVariants as scope
use Rattle.ffv1_matroska.specs.declared.place.Place.{Place as MatroskaPlace}
use Rattle.ffv1_matroska.specs.Places as matroska
use Rattle.ffv1_matroska.specs.declared.track.TrackNumbers.{TrackNumbers}

-- in an AVI; or in a Segment of this size, before blocks of a track
pub data Place : Type 0 where
  InAvi : AviPlace → Place
  InMatroska : Option ℕ → TrackNumbers → MatroskaPlace → Place

-- a number of bytes that no reading from here passes
abbrev pub amount : Place → ℕ
amount (InAvi place) = avi.amount place
amount (InMatroska segment track place) = matroska.amount place

-- the container
abbrev pub container_of : Place → Container
container_of (InAvi place) = container.Avi
container_of (InMatroska segment track place) = container.Matroska segment

-- how far an AVI is read
abbrev pub extent_in : Scope → Extent
extent_in scope.FirstMovi = FirstMovi
extent_in scope.Whole = EveryRiff

-- the most bytes of a frame that are read: from a position on, and of a file
abbrev pub most_bytes : Place → ℕ
most_bytes (InAvi place) = names.most_bytes place.names
most_bytes (InMatroska segment track place) = frame_limit

-- and the fewest; one of none repeats the frame before it
abbrev pub least_bytes : Place → ℕ
least_bytes (InAvi place) = names.least_bytes place.names
least_bytes (InMatroska segment track place) = 1

abbrev pub least_in : Scope → ℕ
least_in scope = names.least_in (extent_in scope)

abbrev pub most_in : Scope → ℕ
most_in scope = names.most_in (extent_in scope)
