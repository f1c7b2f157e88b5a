-- Elements before the frames of which faults are told, by the calls of which the reading of each is made.
use Rattle.std.proofs.Common.{◌≡◌, ◌==◌, ℕ, List, Option, Some, None, Result, Ok, Err, true, false, inl, inr, refl, ap}
use Rattle.ffv1_reads.specs.declared.fault.FileFault.{FileFault}
use Rattle.ffv1_reads.specs.declared.fault.FileFault.TheVariants as fault
use Rattle.ffv1_reads.specs.Reads.{Faults, Lacks, Met, Read, Reading, Refused, Want, given, refused, ◌>>=◌}
use Rattle.ffv1_reads.specs.Ends.{RefusedOrFaults}
use Rattle.ffv1_reads.proofs.Causes.{OfBytes, cause, refused_by}
use Rattle.ffv1_reads.proofs.EndFaults.{Closes, refused_or_faults}
use Rattle.ffv1_reads.proofs.Reading.{Goes, faults_here, goes_fault, goes_same}
use Rattle.ffv1_ebml.specs.Tried.{outcome, tried}
use Rattle.ffv1_ebml.specs.declared.element.Element.{Element}
use Rattle.ffv1_matroska.specs.Opened.{in_cluster, told}
use Rattle.ffv1_matroska.specs.Places.{ended, segment_at}
use Rattle.ffv1_matroska.specs.Salvaged.{Begun, may_be_told, position_at, salvage_begun, salvage_or_begun, told_more, told_then, tracks_or_salvaged}
use Rattle.ffv1_matroska.specs.Segments.{cluster}
use Rattle.ffv1_matroska.specs.Tracks.{Track}
use Rattle.ffv1_matroska.specs.declared.place.Place.{Place}
use Rattle.ffv1_matroska.specs.declared.told.ToldFault.{ToldFault}

-- a reading of which a fault is a value
pub read_tried : {X : Type 0} (r : Reading X) (old new : Option (List ℕ)) (x : X) → Read r old new x → Read (tried r) old new (Ok x)
read_tried r old new x read = record { bytes = read.bytes; consumed = read.consumed; is = λ rest. ap outcome (read.is rest) }

pub fault_tried : {X : Type 0} (r : Reading X) (old new : Option (List ℕ)) (f : FileFault) → Faults r old new f → Read (tried r) old new (Err f)
fault_tried r old new f faults = record { bytes = faults.bytes; consumed = faults.consumed; is = λ rest. ap outcome (faults.is rest) }

-- if it is one that is refused again, what refuses the reading refuses all
module _ {X Y : Type 0} (r : Reading X) (k : Result X FileFault → Reading Y) (old new : Option (List ℕ)) (before after : ℕ) where
  abbrev all : Reading Y
  all = tried r >>= k

  lack : {w : Want} → Lacks r old new w → Lacks all old new w
  lack h = record { bytes = h.bytes; consumed = h.consumed; is = rw h.is refl }

  met : (f : FileFault) → ((text : List ℕ) → k (Err f) text ≡ Err (Met f text)) → Faults r old new f → Faults all old new f
  met f is h = record { bytes = h.bytes; consumed = h.consumed; is = λ rest. rw (h.is rest) (is rest) }

  pub tried_refused : (f : FileFault) → ((text : List ℕ) → k (Err f) text ≡ Err (Met f text)) → Refused r old new before after f → Refused all old new before after f
  tried_refused fault.Read is (counted, (w, lacks)) = (counted, (w, lack lacks))
  tried_refused fault.OutOfMemory is (same, lacks) = (same, lack lacks)
  tried_refused fault.Truncated is (same, inl ((w, lacks), ended)) = (same, inl ((w, lack lacks), ended))
  tried_refused fault.Truncated is (same, inr faults) = (same, inr (met fault.Truncated is faults))
  tried_refused fault.TooLarge is why = absurd why
  tried_refused fault.Write is why = absurd why
  tried_refused fault.Rate is why = absurd why
  tried_refused f is (same, faults) = (same, met f is faults)

-- ---- what comes after one element of the Segment

abbrev On : Type 0
On = Option Track → Place → List ToldFault → Reading Begun

abbrev pub Over : Begun → Type 0
Over b = b.place ≡ ended

module _ (on : On) (begin here : Place) (faults : List ToldFault) where
  pub salvage_end : (track : Track) (text : List ℕ) → salvage_or_begun on begin (Some track) here faults None text ≡ given (record { track = track; place = ended; here = here; told = faults }) text
  unfolding salvage_begun
  salvage_end track text = refl

  pub salvage_none : (text : List ℕ) → salvage_or_begun on begin None here faults None text ≡ refused fault.NoTracks text
  unfolding salvage_begun
  salvage_none text = refl

  pub salvage_closes : (found : Option Track) → Closes fault.NoTracks Over (salvage_or_begun on begin found here faults)
  salvage_closes None = inr salvage_none
  salvage_closes (Some track) = inl (record { track = track; place = ended; here = here; told = faults }, (refl, salvage_end track))

  -- a Cluster
  pub salvage_cluster : (track : Track) (e : Element) → (e.ident == cluster) ≡ true → (text : List ℕ) →
      salvage_or_begun on begin (Some track) here faults (Some e) text
      ≡ given (record { track = track; place = in_cluster (segment_at here false e.left) e.size; here = in_cluster (segment_at here false e.left) e.size; told = faults }) text
  unfolding salvage_begun
  salvage_cluster track e is text = rw is refl

  pub salvage_early : (e : Element) → (e.ident == cluster) ≡ true → (text : List ℕ) → salvage_or_begun on begin None here faults (Some e) text ≡ refused fault.NoTracks text
  unfolding salvage_begun
  salvage_early e is text = rw is refl

  -- another element
  pub salvage_other : (found : Option Track) (e : Element) → (e.ident == cluster) ≡ false → (text : List ℕ) →
      salvage_or_begun on begin found here faults (Some e) text
      ≡ (tracks_or_salvaged found e.ident e.size >>= told_then on (segment_at here false e.left) (position_at begin here) faults) text
  salvage_other found e is text = rw is refl

-- ---- what is told of it

told_bytes : (f : FileFault) → may_be_told f ≡ true → cause f ≡ OfBytes
told_bytes fault.Checksum is = refl
told_bytes fault.BadElement is = refl
told_bytes f is = absurd (cc)

module _ {X : Type 0} {whole : Reading X} {old now : Option (List ℕ)} {before after : ℕ} (faults : List ToldFault) (fault : Option FileFault) (position : Option ℕ) (k : List ToldFault → Reading X) (goes : Goes whole old before (told (told_more faults fault position) >>= k) now after) where
  pub told_goes : (more : List ToldFault) → told_more faults fault position ≡ Ok more → Goes whole old before (k more) now after
  told_goes more is = goes_same _ _ (λ text. rw is refl) goes

  -- as many are told as may be
  pub told_refused : (end : FileFault) (over : X → Type 0) (f : FileFault) → told_more faults fault position ≡ Err f → may_be_told f ≡ true → RefusedOrFaults end over whole old now before after f
  told_refused end over f is may =
      let here = refused_by (refused {X = X} f) now now after after f (rw (told_bytes f may) (refl, faults_here X f now)) in
      refused_or_faults end over whole old now before after f (goes_fault f (goes_same _ (refused f) (λ text. rw is refl) goes) here)
