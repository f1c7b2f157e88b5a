-- The elements of a Segment before its frames, one after the other.
use Rattle.std.proofs.Common.{◌≡◌, ◌⊎◌, ◌==◌, ℕ, List, Option, Some, None, true, false, inl, inr, refl}
use Rattle.std.specs.Io.KnownBytes.{IsAtEnd}
use Rattle.ffv1_reads.specs.declared.fault.FileFault.TheVariants as fault
use Rattle.ffv1_reads.specs.Ends.{FaultsAtEnd, RefusedOrFaults}
use Rattle.ffv1_reads.specs.Reads.{Faults, Reading, given, refused, ◌>>=◌}
use Rattle.ffv1_reads.proofs.EndFaults.{Closes}
use Rattle.ffv1_ebml.specs.declared.element.Element.{Element}
use Rattle.ffv1_matroska.specs.Opened.{begun_at, element_or_begun, in_cluster, tracks_or_passed}
use Rattle.ffv1_matroska.specs.Places.{ended, segment_at}
use Rattle.ffv1_matroska.specs.Segments.{cluster}
use Rattle.ffv1_matroska.specs.Tracks.{Track}
use Rattle.ffv1_matroska.specs.declared.place.Place.{Place}

-- what comes after one element
abbrev On : Type 0
On = Option Track → Place → Reading (Track × Place)

-- the end of the Segment
pub end_given : (on : On) (track : Track) (place : Place) (text : List ℕ) → element_or_begun on (Some track) place None text ≡ given (track, ended) text
unfolding begun_at
end_given on track place text = refl

pub end_refused : (on : On) (place : Place) (text : List ℕ) → element_or_begun on None place None text ≡ refused fault.NoTracks text
unfolding begun_at
end_refused on place text = refl

-- if a track has no frames
abbrev pub Over : Track × Place → Type 0
Over p = p.1 ≡ ended

pub closes : (on : On) (found : Option Track) (place : Place) → Closes fault.NoTracks Over (element_or_begun on found place)
closes on None place = inr (end_refused on place)
closes on (Some track) place = inl ((track, ended), (refl, end_given on track place))

-- a Cluster
pub cluster_given : (on : On) (track : Track) (place : Place) (e : Element) → (e.ident == cluster) ≡ true → (text : List ℕ) → element_or_begun on (Some track) place (Some e) text ≡ given (track, in_cluster (segment_at place false e.left) e.size) text
unfolding begun_at
cluster_given on track place e is text = rw is refl

pub cluster_refused : (on : On) (place : Place) (e : Element) → (e.ident == cluster) ≡ true → (text : List ℕ) → element_or_begun on None place (Some e) text ≡ refused fault.NoTracks text
unfolding begun_at
cluster_refused on place e is text = rw is refl

-- another element
pub other_element : (on : On) (found : Option Track) (place : Place) (e : Element) → (e.ident == cluster) ≡ false → (text : List ℕ) → element_or_begun on found place (Some e) text ≡ (tracks_or_passed found e.ident e.size >>= λ now. on now (segment_at place false e.left)) text
other_element on found place e is text = rw is refl

-- no Tracks, at the end of the Segment or of the input
pub no_tracks : {X : Type 0} (over : X → Type 0) {whole : Reading X} {old new : Option (List ℕ)} {before last : ℕ} → (last ≡ before) × (Faults whole old new fault.NoTracks ⊎ (FaultsAtEnd whole old new fault.NoTracks × IsAtEnd new)) → RefusedOrFaults fault.NoTracks over whole old new before last fault.NoTracks
no_tracks over (same, inl why) = inl (same, why)
no_tracks over (same, inr why) = inr (same, refl, why)
