-- Elements of a Segment that may be damaged while its first Tracks are sought, by the calls of
-- which the reading of each is made.
use Rattle.std.proofs.Common.{◌≡◌, ◌≤◌, ◌+◌, ◌==◌, ◌&&◌, ℕ, List, Bool, Option, Some, None, Result, Ok, Err, true, false, inr, refl, subst, arith}
use Rattle.ffv1_reads.specs.declared.fault.FileFault.{FileFault}
use Rattle.ffv1_reads.specs.declared.fault.FileFault.TheVariants as fault
use Rattle.ffv1_reads.specs.Ends.{ReadOrNone, RefusedOrFaults, RefusedOrNone}
use Rattle.ffv1_reads.specs.Offsets.{ReadsCounted, ReadsWhole}
use Rattle.ffv1_reads.specs.Reads.{Read, Refused, given, refused, ◌>>=◌}
use Rattle.ffv1_reads.proofs.EndFaults.{Closes, closes_fault, closes_refused, faults_refused}
use Rattle.ffv1_reads.proofs.OffsetLaws.{counted_given, counted_same, counted_then, reads_counted}
use Rattle.ffv1_reads.proofs.Reading.{goes_none, goes_read, goes_same}
use Rattle.ffv1_reads.proofs.Taking.{Any, Takes, takes_given, takes_if, takes_then}
use Rattle.ffv1_ebml.specs.declared.element.Element.{Element}
use Rattle.ffv1_wire.specs.Passage.{Passage}
use Rattle.ffv1_matroska.specs.SalvagedAgain.{SoughtFrom, SoughtStops, salvaged_sought, salvaged_step}
use Rattle.ffv1_matroska.specs.Internal.{bytes_of}
use Rattle.ffv1_matroska.specs.Opened.{tracks}
use Rattle.ffv1_matroska.specs.Places.{amount, segment_at}
use Rattle.ffv1_matroska.specs.Salvaged.{element_salvaged, tracks_salvaged}
use Rattle.ffv1_matroska.specs.SalvagedLate.{salvaged_or_on, salvaged_over}
use Rattle.ffv1_matroska.specs.Segments.{cluster, header_read, is_filler, is_of_cluster}
use Rattle.ffv1_matroska.specs.Tracks.{Track}
use Rattle.ffv1_matroska.specs.declared.place.Place.{Place}
use Rattle.ffv1_matroska.specs.declared.track.Numbers.{Numbers}
use Rattle.ffv1_matroska.proofs.Beginnings.{no_tracks}
use Rattle.ffv1_matroska.proofs.SalvageTakes.{element_all}
use Rattle.ffv1_matroska.proofs.SoughtReadings.{Ended, On, cluster_takes, loose_takes}
use Rattle.ffv1_matroska.proofs.SpotReadings.{header_bytes, header_counted}

-- the end of the Segment
pub sought_end : (on : On) (place : Place) (text : List ℕ) → salvaged_or_on on place None text ≡ refused fault.NoTracks text
sought_end on place text = refl

pub sought_closes : (on : On) (place : Place) → Closes fault.NoTracks (λ (track : Track). ⊥) (salvaged_or_on on place)
sought_closes on place = inr (sought_end on place)

-- Tracks, or another element
pub sought_tracks : (on : On) (place : Place) (e : Element) → (e.ident == tracks) ≡ true → (text : List ℕ) → salvaged_or_on on place (Some e) text ≡ (tracks_salvaged e.size >>= λ p. given p.0) text
sought_tracks on place e is text = rw is refl

pub sought_other : (on : On) (place : Place) (e : Element) → (e.ident == tracks) ≡ false → (text : List ℕ) → salvaged_or_on on place (Some e) text ≡ (salvaged_over place.loose e.ident e.size >>= λ loose. on (segment_at place loose e.left)) text
sought_other on place e is text = rw is refl

-- how many bytes it has
over_takes : (loose : Bool) (ident : ℕ) (size : Option ℕ) → Takes Any (bytes_of size) (λ _. 0) (salvaged_over loose ident size)
unfolding salvaged_over
over_takes loose ident size =
    takes_if (ident == cluster) _ _ (λ _. cluster_takes size)
    (λ _. takes_if (loose && is_of_cluster ident) _ _ (λ _. loose_takes size)
    (λ _. takes_then (element_salvaged ident size) _ (element_all ident size) (λ _ _. takes_given (loose && is_filler ident) tt refl)))

pub sought_read : (here : Place) (e : Element) (loose : Bool) {a b c : Option (List ℕ)} → (e.ident == tracks) ≡ false → Read (header_read here) a b (Some e) → Read (salvaged_over here.loose e.ident e.size) b c loose →
    ReadsCounted (salvaged_sought here) a c (segment_at here loose e.left) (header_bytes here e + (bytes_of e.size + 0))
unfolding salvaged_sought
sought_read here e loose {c = c} other header read =
    counted_then (header_read here) (salvaged_step here) (header_counted here e header)
    (counted_same (salvaged_over here.loose e.ident e.size >>= λ z. given (segment_at here z e.left)) _ (λ text. rw other refl)
    (counted_then (salvaged_over here.loose e.ident e.size) _ (reads_counted (bytes_of e.size) (over_takes here.loose e.ident e.size) (omega arith) read) (counted_given (segment_at here loose e.left) c)))

-- one that was refused
abbrev pub SalvagedLacks : Place → Option (List ℕ) → Option (List ℕ) → ℕ → ℕ → FileFault → Type 0
SalvagedLacks place old new before after f = RefusedOrFaults fault.NoTracks Ended (salvaged_sought place) old new before after f

closes : (here : Place) → Closes fault.NoTracks Ended (salvaged_step here)
closes here = inr (λ text. refl)

pub seek_header_refused : (here : Place) (old new : Option (List ℕ)) (before after : ℕ) (f : FileFault) → RefusedOrNone (header_read here) old new before after f → SalvagedLacks here old new before after f
unfolding salvaged_sought
seek_header_refused here old new before after f why = closes_refused fault.NoTracks Ended (header_read here) (salvaged_step here) new after f (closes here) (goes_none (salvaged_sought here) old before) why

module _ (here : Place) (e : Element) (old mid new : Option (List ℕ)) (before last after : ℕ) (f : FileFault) (header : (last ≡ before) × Read (header_read here) old mid (Some e)) where
  pub seek_tracks_refused : (e.ident == tracks) ≡ true → Refused (tracks_salvaged e.size) mid new last after f → SalvagedLacks here old new before after f
  unfolding salvaged_sought
  seek_tracks_refused is why =
      faults_refused fault.NoTracks Ended (tracks_salvaged e.size) (λ _. given (segment_at here false e.left)) new after f
      (goes_same _ (tracks_salvaged e.size >>= λ _. given (segment_at here false e.left)) (λ text. rw is refl)
      (goes_read (header_read here) (salvaged_step here) mid last (Some e) (goes_none (salvaged_sought here) old before) header)) why

  pub seek_over_refused : (e.ident == tracks) ≡ false → Refused (salvaged_over here.loose e.ident e.size) mid new last after f → SalvagedLacks here old new before after f
  unfolding salvaged_sought
  seek_over_refused other why =
      faults_refused fault.NoTracks Ended (salvaged_over here.loose e.ident e.size) (λ z. given (segment_at here z e.left)) new after f
      (goes_same _ (salvaged_over here.loose e.ident e.size >>= λ z. given (segment_at here z e.left)) (λ text. rw other refl)
      (goes_read (header_read here) (salvaged_step here) mid last (Some e) (goes_none (salvaged_sought here) old before) header)) why

pub seek_end_refused : (here : Place) (old new : Option (List ℕ)) (before after : ℕ) → (after ≡ before) × ReadOrNone (header_read here) old new None → SalvagedLacks here old new before after fault.NoTracks
unfolding salvaged_sought
seek_end_refused here old new before after header = no_tracks Ended (closes_fault (header_read here) (salvaged_step here) new after fault.NoTracks (λ text. refl) (goes_none (salvaged_sought here) old before) header)

-- the search stops there
pub seek_stops : {from to : Place} {old between new : Option (List ℕ)} {count before now : ℕ} (last : ℕ) (f : FileFault) → now ≡ before → ReadsWhole salvaged_sought from old between to count → SalvagedLacks to between new now last f →
    SoughtStops from (record { old = old; new = new; before = before; after = last }) f to count
seek_stops {to = to} {between = between} {new = new} last f same h why = record { between = between; before = h; refused = subst (λ n. SalvagedLacks to between new n last f) same why }

-- a read that failed is counted from where the first one was
pub seek_from : {from to : Place} {old new : Option (List ℕ)} {count before mid last : ℕ} {f : FileFault} → mid ≡ before → SoughtStops from (record { old = old; new = new; before = mid; after = last }) f to count → SoughtStops from (record { old = old; new = new; before = before; after = last }) f to count
seek_from {from = from} {to = to} {old = old} {new = new} {count = count} {last = last} {f = f} same h = subst (λ n. SoughtStops from (record { old = old; new = new; before = n; after = last }) f to count) same h

-- what is left is no more than what there was
pub seek_within : (place : Place) (p : Passage) (r : Result Numbers FileFault) (here : Place) → place.cluster + place.group ≡ 0 → SoughtFrom place p r here → amount here ≤ amount place
seek_within place p (Ok n) here flat from = from flat
seek_within place p (Err f) here flat from = let all = from.2 flat in omega (arith, all)
