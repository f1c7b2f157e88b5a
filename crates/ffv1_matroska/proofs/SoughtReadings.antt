-- Elements of a Segment while its first Tracks are sought, by the calls of which the reading of
-- each is made.
use Rattle.std.proofs.Common.{◌≡◌, ◌⊎◌, ◌≤◌, ◌+◌, ◌==◌, ◌&&◌, ◌∙◌, ℕ, List, Bool, Option, Some, None, Result, Ok, Err, true, false, inl, inr, refl, subst, arith}
use Rattle.std.specs.Io.KnownBytes.{IsAtEnd}
use Rattle.ffv1_reads.specs.declared.fault.FileFault.{FileFault}
use Rattle.ffv1_reads.specs.declared.fault.FileFault.TheVariants as fault
use Rattle.ffv1_reads.specs.Ends.{AnswersOrFaults, FaultsAtEnd, ReadOrNone, RefusedOrFaults, RefusedOrNone}
use Rattle.ffv1_reads.specs.Offsets.{ReadsCounted, ReadsWhole}
use Rattle.ffv1_reads.specs.Reads.{Read, Reading, Refused, given, passed, refused, ◌>>=◌}
use Rattle.ffv1_reads.proofs.EndFaults.{Closes, closes_fault, closes_refused, faults_last, faults_refused, refused_or_faults}
use Rattle.ffv1_reads.proofs.OffsetLaws.{counted_given, counted_same, counted_then, reads_counted}
use Rattle.ffv1_reads.proofs.Reading.{Goes, goes_last, goes_none, goes_read, goes_same}
use Rattle.ffv1_reads.proofs.Taking.{Any, Takes, takes_given, takes_if, takes_passed, takes_refused, takes_same, takes_then}
use Rattle.ffv1_ebml.specs.declared.element.Element.{Element}
use Rattle.ffv1_wire.specs.Passage.{Passage}
use Rattle.ffv1_matroska.specs.Again.{SeekStops, SeeksFrom, sought_step, sought_taken}
use Rattle.ffv1_matroska.specs.Internal.{bytes_of}
use Rattle.ffv1_matroska.specs.Late.{cluster_passed, loose_passed, passed_over, tracks_or_on}
use Rattle.ffv1_matroska.specs.Offsets.{OpeningStops, Spot}
use Rattle.ffv1_matroska.specs.Opened.{element_passed, tracks, tracks_read}
use Rattle.ffv1_matroska.specs.Places.{amount, segment_at}
use Rattle.ffv1_matroska.specs.Segments.{cluster, header_read, is_filler, is_of_cluster}
use Rattle.ffv1_matroska.specs.Tracks.{Track}
use Rattle.ffv1_matroska.specs.declared.place.Place.{Place}
use Rattle.ffv1_matroska.specs.declared.track.Numbers.{Numbers}
use Rattle.ffv1_matroska.proofs.Beginnings.{no_tracks}
use Rattle.ffv1_matroska.proofs.SpotReadings.{header_bytes, header_counted, passed_takes}

-- no track is found at the end
abbrev pub Found : Track → Type 0
Found track = ⊥

-- the last reading was refused
pub last_refused : {X : Type 0} {whole : Reading X} {old now : Option (List ℕ)} {before after : ℕ} (over : X → Type 0) (r : Reading X) (new : Option (List ℕ)) (last : ℕ) (f : FileFault) → Goes whole old before r now after → Refused r now new after last f → RefusedOrFaults fault.NoTracks over whole old new before last f
last_refused {X = X} {whole = whole} {old = old} {before = before} over r new last f h why =
    refused_or_faults fault.NoTracks over whole old new before last f (goes_last r (λ (x : X). x) new last (Err f) h why)

-- the last reading answers, for which the end of the input may be the fault
pub found_last : {Y : Type 0} {whole : Reading Track} {old now : Option (List ℕ)} {before after : ℕ} (r : Reading Track) (view : Y → Track) (new : Option (List ℕ)) (last : ℕ) (result : Result Y FileFault) → Goes whole old before r now after →
    AnswersOrFaults fault.NoTracks Found view r (record { old = now; new = new; before = after; after = last }) result → AnswersOrFaults fault.NoTracks Found view whole (record { old = old; new = new; before = before; after = last }) result
found_last {Y = Y} {whole = whole} {old = old} {now = now} {before = before} {after = after} r view new last result h = on_result result
  where
    Either : FileFault → Type 0
    Either f = Refused r now new after last f ⊎ ((last ≡ after) × (f ≡ fault.NoTracks) × (FaultsAtEnd r now new fault.NoTracks × IsAtEnd new))

    either : (f : FileFault) → Either f → Refused whole old new before last f ⊎ ((last ≡ before) × (f ≡ fault.NoTracks) × (FaultsAtEnd whole old new fault.NoTracks × IsAtEnd new))
    either f (inl why) = inl (goes_last r (λ (t : Track). t) new last (Err f) h why)
    either f (inr (same, is, (why, at))) = inr (same ∙ h.same, is, (faults_last r new fault.NoTracks h why, at))

    on_fault : (f : FileFault) → RefusedOrFaults fault.NoTracks Found r now new after last f → RefusedOrFaults fault.NoTracks Found whole old new before last f
    on_fault fault.Read (counted, inl wants) = let all = goes_last r (λ (t : Track). t) new last (Err fault.Read) h (counted, wants) in (all.0, inl all.1)
    on_fault fault.Read (counted, inr (inl (track, (stops, never)))) = absurd never
    on_fault fault.Read (counted, inr (inr why)) = (rw (← h.same) counted, inr (inr (faults_last r new fault.NoTracks h why)))
    on_fault f why = either f why

    on_result : (result : Result Y FileFault) → AnswersOrFaults fault.NoTracks Found view r (record { old = now; new = new; before = after; after = last }) result → AnswersOrFaults fault.NoTracks Found view whole (record { old = old; new = new; before = before; after = last }) result
    on_result (Ok y) (same, inl read) = let all = goes_last r view new last (Ok y) h (same, read) in (all.0, inl all.1)
    on_result (Ok y) (same, inr (ends, never)) = absurd never
    on_result (Err f) why = on_fault f why

-- what comes after one element
abbrev pub On : Type 0
On = Place → Reading Track

-- the end of the Segment
pub sought_end : (on : On) (place : Place) (text : List ℕ) → tracks_or_on on place None text ≡ refused fault.NoTracks text
sought_end on place text = refl

pub sought_closes : (on : On) (place : Place) → Closes fault.NoTracks (λ (track : Track). ⊥) (tracks_or_on on place)
sought_closes on place = inr (sought_end on place)

-- Tracks, or another element
pub sought_tracks : (on : On) (place : Place) (e : Element) → (e.ident == tracks) ≡ true → (text : List ℕ) → tracks_or_on on place (Some e) text ≡ tracks_read e.size text
sought_tracks on place e is text = rw is refl

pub sought_other : (on : On) (place : Place) (e : Element) → (e.ident == tracks) ≡ false → (text : List ℕ) → tracks_or_on on place (Some e) text ≡ (passed_over place.loose e.ident e.size >>= λ loose. on (segment_at place loose e.left)) text
sought_other on place e is text = rw is refl

-- how many bytes it has
pub cluster_takes : (size : Option ℕ) → Takes Any (bytes_of size) (λ _. 0) (cluster_passed size)
cluster_takes None = takes_given true tt refl
cluster_takes (Some n) = takes_then (passed n) _ (takes_same _ _ (passed n) (omega arith) (takes_passed n 0)) (λ _ _. takes_given false tt refl)

pub loose_takes : (size : Option ℕ) → Takes Any (bytes_of size) (λ _. 0) (loose_passed size)
loose_takes None = takes_refused fault.BadElement
loose_takes (Some n) = takes_then (passed n) _ (takes_same _ _ (passed n) (omega arith) (takes_passed n 0)) (λ _ _. takes_given true tt refl)

over_takes : (loose : Bool) (ident : ℕ) (size : Option ℕ) → Takes Any (bytes_of size) (λ _. 0) (passed_over loose ident size)
unfolding passed_over
over_takes loose ident size =
    takes_if (ident == cluster) _ _ (λ _. cluster_takes size)
    (λ _. takes_if (loose && is_of_cluster ident) _ _ (λ _. loose_takes size)
    (λ _. takes_then (element_passed ident size) _ (passed_takes ident size) (λ _ _. takes_given (loose && is_filler ident) tt refl)))

pub sought_read : (here : Place) (e : Element) (loose : Bool) {a b c : Option (List ℕ)} → (e.ident == tracks) ≡ false → Read (header_read here) a b (Some e) → Read (passed_over here.loose e.ident e.size) b c loose →
    ReadsCounted (sought_taken here) a c (segment_at here loose e.left) (header_bytes here e + (bytes_of e.size + 0))
unfolding sought_taken
sought_read here e loose {c = c} other header read =
    counted_then (header_read here) (sought_step here) (header_counted here e header)
    (counted_same (passed_over here.loose e.ident e.size >>= λ z. given (segment_at here z e.left)) _ (λ text. rw other refl)
    (counted_then (passed_over here.loose e.ident e.size) _ (reads_counted (bytes_of e.size) (over_takes here.loose e.ident e.size) (omega arith) read) (counted_given (segment_at here loose e.left) c)))

-- one that was refused
abbrev pub Ended : Place → Type 0
Ended place = Unit {0}

abbrev pub SoughtLacks : Place → Option (List ℕ) → Option (List ℕ) → ℕ → ℕ → FileFault → Type 0
SoughtLacks place old new before after f = RefusedOrFaults fault.NoTracks Ended (sought_taken place) old new before after f

closes : (here : Place) → Closes fault.NoTracks Ended (sought_step here)
closes here = inr (λ text. refl)

pub seek_header_refused : (here : Place) (old new : Option (List ℕ)) (before after : ℕ) (f : FileFault) → RefusedOrNone (header_read here) old new before after f → SoughtLacks here old new before after f
unfolding sought_taken
seek_header_refused here old new before after f why = closes_refused fault.NoTracks Ended (header_read here) (sought_step here) new after f (closes here) (goes_none (sought_taken here) old before) why

module _ (here : Place) (e : Element) (old mid new : Option (List ℕ)) (before last after : ℕ) (f : FileFault) (header : (last ≡ before) × Read (header_read here) old mid (Some e)) where
  pub seek_tracks_refused : (e.ident == tracks) ≡ true → Refused (tracks_read e.size) mid new last after f → SoughtLacks here old new before after f
  unfolding sought_taken
  seek_tracks_refused is why =
      faults_refused fault.NoTracks Ended (tracks_read e.size) (λ _. given (segment_at here false e.left)) new after f
      (goes_same _ (tracks_read e.size >>= λ _. given (segment_at here false e.left)) (λ text. rw is refl)
      (goes_read (header_read here) (sought_step here) mid last (Some e) (goes_none (sought_taken here) old before) header)) why

  pub seek_over_refused : (e.ident == tracks) ≡ false → Refused (passed_over here.loose e.ident e.size) mid new last after f → SoughtLacks here old new before after f
  unfolding sought_taken
  seek_over_refused other why =
      faults_refused fault.NoTracks Ended (passed_over here.loose e.ident e.size) (λ z. given (segment_at here z e.left)) new after f
      (goes_same _ (passed_over here.loose e.ident e.size >>= λ z. given (segment_at here z e.left)) (λ text. rw other refl)
      (goes_read (header_read here) (sought_step here) mid last (Some e) (goes_none (sought_taken here) old before) header)) why

pub seek_end_refused : (here : Place) (old new : Option (List ℕ)) (before after : ℕ) → (after ≡ before) × ReadOrNone (header_read here) old new None → SoughtLacks here old new before after fault.NoTracks
unfolding sought_taken
seek_end_refused here old new before after header = no_tracks Ended (closes_fault (header_read here) (sought_step here) new after fault.NoTracks (λ text. refl) (goes_none (sought_taken here) old before) header)

-- the search stops there
pub seek_stops : {from to : Place} {old between new : Option (List ℕ)} {count before now : ℕ} (last : ℕ) (f : FileFault) → now ≡ before → ReadsWhole sought_taken from old between to count → SoughtLacks to between new now last f →
    SeekStops from (record { old = old; new = new; before = before; after = last }) f to count
seek_stops {to = to} {between = between} {new = new} last f same h why = record { between = between; before = h; refused = subst (λ n. SoughtLacks to between new n last f) same why }

-- a read that failed is counted from where the first one was
pub seek_from : {from to : Place} {old new : Option (List ℕ)} {count before mid last : ℕ} {f : FileFault} → mid ≡ before → SeekStops from (record { old = old; new = new; before = mid; after = last }) f to count → SeekStops from (record { old = old; new = new; before = before; after = last }) f to count
seek_from {from = from} {to = to} {old = old} {new = new} {count = count} {last = last} {f = f} same h = subst (λ n. SeekStops from (record { old = old; new = new; before = n; after = last }) f to count) same h

pub known_from : {from to : Spot} {old new : Option (List ℕ)} {count before mid last : ℕ} {f : FileFault} → mid ≡ before → OpeningStops from (record { old = old; new = new; before = mid; after = last }) f to count → OpeningStops from (record { old = old; new = new; before = before; after = last }) f to count
known_from {from = from} {to = to} {old = old} {new = new} {count = count} {last = last} {f = f} same h = subst (λ n. OpeningStops from (record { old = old; new = new; before = n; after = last }) f to count) same h

-- what is left is no more than what there was
pub seek_within : (place : Place) (p : Passage) (r : Result Numbers FileFault) (here : Place) → place.cluster + place.group ≡ 0 → SeeksFrom place p r here → amount here ≤ amount place
seek_within place p (Ok n) here flat from = from flat
seek_within place p (Err f) here flat from = let all = from.2 flat in omega (arith, all)
