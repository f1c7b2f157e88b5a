-- The faults that a file has which may be damaged, and is read from its beginning again.
use Rattle.std.proofs.Common.{◌≡◌, ◌==◌, ◌&&◌, true, ℕ, suc, zero, List, [], Bool, Option, Some, None, inl, inr, refl, ap}
use Rattle.ffv1_wire.specs.Passage.{Passage}
use Rattle.ffv1_reads.specs.declared.fault.FileFault.{FileFault}
use Rattle.ffv1_reads.specs.declared.fault.FileFault.TheVariants as fault
use Rattle.ffv1_ebml.specs.declared.element.Element.{Element}
use Rattle.ffv1_matroska.specs.Late.{cluster_passed, loose_passed}
use Rattle.ffv1_matroska.specs.Opened.{told, tracks}
use Rattle.ffv1_matroska.specs.Opening.{segment_begun, segment_entered}
use Rattle.ffv1_matroska.specs.Places.{amount, segment_at}
use Rattle.ffv1_matroska.specs.Readers.{is_opening_fault}
use Rattle.ffv1_matroska.specs.Salvaged.{NeverBegins, ebml_salvaged, element_salvaged, salvage_up_to, salvaged_as, told_more, tracks_salvaged}
use Rattle.ffv1_matroska.specs.SalvagedAgain.{StopsSalvaged}
use Rattle.ffv1_matroska.specs.SalvagedLate.{salvage_known, salvage_sought_up_to, salvage_track, salvaged_or_on, salvaged_over, segment_known}
use Rattle.ffv1_matroska.specs.Segments.{cluster, header_read, is_filler, is_of_cluster}
use Rattle.ffv1_matroska.specs.Tracks.{Track}
use Rattle.ffv1_matroska.specs.declared.place.Place.{Place}
use Rattle.ffv1_matroska.proofs.AgainFaults.{of_cluster, of_loose}
use Rattle.ffv1_matroska.proofs.OpeningFaults.{basic, met_are_own, of_entered}
use Rattle.ffv1_matroska.proofs.ReadingFaults.{of_header}
use Rattle.ffv1_matroska.proofs.SalvageOwn.{Owns, Whatever, ebml_owns, element_owns, more_owns, owns_given, owns_if, owns_made, owns_refused, owns_then, tracks_owns, up_to_owns}

-- ---- up to the first Tracks

over_owns : (loose : Bool) (ident : ℕ) (size : Option ℕ) → Owns Whatever (salvaged_over loose ident size)
unfolding salvaged_over
over_owns loose ident size =
    owns_if (ident == cluster) (cluster_passed size) _ (owns_made (of_cluster size))
    (owns_if (loose && is_of_cluster ident) (loose_passed size) _ (owns_made (of_loose size))
    (owns_then (element_salvaged ident size) _ (element_owns ident size) (λ f may. owns_given (loose && is_filler ident) tt)))

sought_owns : (most : ℕ) (place : Place) → Owns Whatever (salvage_sought_up_to most place)
unfolding salvage_sought_up_to
sought_owns zero place = owns_refused fault.NoTracks refl
sought_owns (suc most) place = owns_then (header_read place) (salvaged_or_on (salvage_sought_up_to most) place) (owns_made (of_header basic place)) (λ o _. on_header (λ at. sought_owns most at) o)
  where
    on_header : ((at : Place) → Owns Whatever (salvage_sought_up_to most at)) → (o : Option Element) → Owns Whatever (salvaged_or_on (salvage_sought_up_to most) place o)
    on_header again None = owns_refused fault.NoTracks refl
    on_header again (Some e) =
        owns_if (e.ident == tracks) _ _ (owns_then (tracks_salvaged e.size) _ (tracks_owns e.size) (λ p may. owns_given p.0 tt))
        (owns_then (salvaged_over place.loose e.ident e.size) _ (over_owns place.loose e.ident e.size) (λ loose _. again (segment_at place loose e.left)))

track_owns : Owns Whatever salvage_track
unfolding salvage_track
track_owns = owns_then ebml_salvaged _ ebml_owns (λ f may. owns_then segment_entered _ (owns_made of_entered) (λ size _. sought_owns (suc (amount (segment_begun size))) (segment_begun size)))

-- ---- with their track

known_owns : (track : Track) → Owns Whatever (salvage_known track)
unfolding salvage_known
known_owns track =
    owns_then ebml_salvaged _ ebml_owns (λ f may. owns_then (told (told_more [] f None)) _ (more_owns [] f None may) (λ faults _. owns_then segment_entered (segment_known track faults) (owns_made of_entered) (λ size _.
    owns_then (salvage_up_to (suc (amount (segment_begun size))) (segment_begun size) (Some track) (segment_begun size) faults) _ (up_to_owns (suc (amount (segment_begun size))) (segment_begun size) (Some track) (segment_begun size) faults) (λ b _. owns_given (salvaged_as size b) tt))))

pub late_own : (here : Option (List ℕ)) (p : Passage) (f : FileFault) → StopsSalvaged here p f → is_opening_fault f ≡ true
late_own here p f (inl why) = met_are_own (λ (track : Track). ⊥) (λ text rest g is. track_owns.meets text rest g is) p.old p.new p.before p.after f why
late_own here p f (inr (inl (track, between, read, why))) = met_are_own NeverBegins (λ text rest g is. (known_owns track).meets text rest g is) p.old p.new p.before p.after f why
late_own here p f (inr (inr (is, failed, why))) = ap is_opening_fault is
