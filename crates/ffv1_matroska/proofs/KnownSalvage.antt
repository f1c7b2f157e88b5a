-- Elements of a Segment that may be damaged, if its track is known: Tracks are passed like others.
use Rattle.std.proofs.Common.{◌≡◌, ℕ, List, Option, Some, None, [], ap}
use Rattle.ffv1_reads.specs.Reads.{Read, Refused, read_on, given}
use Rattle.ffv1_reads.specs.Colour.{unsaid}
use Rattle.ffv1_reads.specs.declared.fault.FileFault.{FileFault}
use Rattle.ffv1_matroska.specs.SalvageTold.{StopsWith, element_fault, place_fault}
use Rattle.ffv1_matroska.specs.Salvaged.{element_salvaged, tracks_or_salvaged}
use Rattle.ffv1_matroska.specs.Tracks.{Track}
use Rattle.ffv1_matroska.proofs.SalvagePlain.{element_refused, element_stops}

pub known_visit : (track : Track) (ident : ℕ) (size : Option ℕ) {old new : Option (List ℕ)} {f : Option FileFault} → Read (element_salvaged ident size) old new f → Read (tracks_or_salvaged (Some track) ident size) old new (Some track, f)
known_visit track ident size h = record { bytes = h.bytes; consumed = h.consumed; is = λ rest. ap (λ z. read_on z (λ g. given {X = Option Track × Option FileFault} (Some track, g))) (h.is rest) }

never_none : (track : Track) {P : Type 0} → ◌≡◌ {A = Option Track} (Some track) None → P
never_none track e = absurd (cc)

pub known_refused : (track : Track) (ident : ℕ) (size : Option ℕ) (old new : Option (List ℕ)) (before after : ℕ) (f : FileFault) → Refused (element_salvaged ident size) old new before after f → Refused (tracks_or_salvaged (Some track) ident size) old new before after f
known_refused track ident size old new before after f why = element_refused ident size old new before after f (Some track) (λ none. never_none track none) why

-- what is told of one that is refused
pub known_stops : (track : Track) (ident : ℕ) (size : Option ℕ) (old new : Option (List ℕ)) (before after : ℕ) (f : FileFault) (other : Option FileFault) → other ≡ place_fault ident size → Refused (element_salvaged ident size) old new before after f → StopsWith (tracks_or_salvaged (Some track) ident size) (element_fault (Some track) ident size) old new other
known_stops track ident size old new before after f other is why = element_stops ident size old new before after f (Some track) other (λ none. never_none track none) is why

-- some track
pub any_track : Track
any_track = record {
  numbers = record { number = 0; known = 0; others = 0; duration = 0 };
  head = record { width = 0; height = 0; rate = 0; scale = 0; colour = unsaid; config_record = [] };
}
