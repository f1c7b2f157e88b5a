-- The faults that a file has which is read from its beginning again.
use Rattle.std.proofs.Common.{Bool, ◌≡◌, ◌==◌, ℕ, suc, zero, List, Option, Some, None, true, inl, inr, refl, ap}
use Rattle.ffv1_wire.specs.Passage.{Passage}
use Rattle.ffv1_reads.specs.declared.fault.FileFault.{FileFault}
use Rattle.ffv1_reads.specs.declared.fault.FileFault.TheVariants as fault
use Rattle.ffv1_ebml.specs.declared.element.Element.{Element}
use Rattle.ffv1_matroska.specs.Again.{StopsAgain}
use Rattle.ffv1_matroska.specs.Late.{cluster_passed, loose_passed, passed_over, reopened, sought_up_to, track_read, tracks_or_on}
use Rattle.ffv1_matroska.specs.Opened.{tracks}
use Rattle.ffv1_matroska.specs.Places.{segment_at}
use Rattle.ffv1_matroska.specs.Readers.{HasEnded, is_opening_fault}
use Rattle.ffv1_matroska.specs.Segments.{header_read}
use Rattle.ffv1_matroska.specs.Tracks.{Track}
use Rattle.ffv1_matroska.specs.declared.place.Place.{Place}
use Rattle.ffv1_matroska.proofs.OpeningFaults.{basic, faults_are_own, of_begin, of_ebml, of_element_passed, of_entered, of_tracks}
use Rattle.ffv1_matroska.proofs.ReadingFaults.{of_header}
use Rattle.ffv1_reads.proofs.Made.{Made, made_given, made_if, made_passed, made_refused, made_then, made_wanted}

ruleset made = (made_if, made_then, made_refused, made_wanted, made_given, made_passed)

pub of_cluster : {ends : Bool} (size : Option ℕ) → Made is_opening_fault ends (cluster_passed size)
of_cluster None = made_given true
of_cluster (Some size) = search (made) depth 14

pub of_loose : {ends : Bool} (size : Option ℕ) → Made is_opening_fault ends (loose_passed size)
of_loose None = made_refused fault.BadElement refl
of_loose (Some size) = search (made) depth 14

of_over : {ends : Bool} (loose : Bool) (ident : ℕ) (size : Option ℕ) → Made is_opening_fault ends (passed_over loose ident size)
unfolding passed_over
of_over loose ident size = search (made, of_cluster, of_loose, of_element_passed) depth 14

of_sought : (most : ℕ) (place : Place) → Made is_opening_fault true (sought_up_to most place)
unfolding sought_up_to
of_sought zero place = made_refused fault.NoTracks refl
of_sought (suc most) place = made_then (header_read place) (tracks_or_on (sought_up_to most) place) (of_header basic place) (λ o. on_header (λ p. of_sought most p) o)
  where
    on_header : ((p : Place) → Made is_opening_fault true (sought_up_to most p)) → (o : Option Element) → Made is_opening_fault true (tracks_or_on (sought_up_to most) place o)
    on_header again None = made_refused fault.NoTracks refl
    on_header again (Some e) =
        made_if (e.ident == tracks) _ _ (of_tracks e.size)
        (made_then (passed_over place.loose e.ident e.size) _ (of_over place.loose e.ident e.size) (λ loose. again (segment_at place loose e.left)))

of_track : Made is_opening_fault true track_read
unfolding track_read
of_track = search (made, of_ebml, of_entered, of_sought) depth 14

of_reopened : (track : Track) → Made is_opening_fault true (reopened track)
unfolding reopened
of_reopened track = search (made, of_ebml, of_entered, of_begin) depth 14

pub again_own : (here : Option (List ℕ)) (p : Passage) (f : FileFault) → StopsAgain here p f → is_opening_fault f ≡ true
again_own here p f (inl why) = faults_are_own (λ (track : Track). ⊥) of_track p.old p.new p.before p.after f why
again_own here p f (inr (inl (track, between, read, why))) = faults_are_own HasEnded (of_reopened track) p.old p.new p.before p.after f why
again_own here p f (inr (inr (is, failed, why))) = ap is_opening_fault is
