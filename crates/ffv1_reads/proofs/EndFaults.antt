-- Readings for which the end of the input is an answer or a fault, one after the other.
use Rattle.std.proofs.Common.{◌≡◌, ◌⊎◌, ℕ, Option, None, Ok, Err, List, [], ◌++◌, inl, inr, ap, ◌∙◌}
use Rattle.std.specs.Io.KnownBytes.{IsAtEnd}
use Rattle.ffv1_wire.proofs.Bytes.{consumes_then}
use Rattle.ffv1_reads.specs.declared.fault.FileFault.{FileFault}
use Rattle.ffv1_reads.specs.declared.fault.FileFault.TheVariants as fault
use Rattle.ffv1_reads.specs.Ends.{FaultsAtEnd, Halts, ReadOrNone, ReadOrOver, RefusedOrFaults, RefusedOrNone, Stops}
use Rattle.ffv1_reads.specs.Reads.{Faults, Met, Reading, Refused, given, read_on, ◌>>=◌}
use Rattle.ffv1_reads.proofs.Reading.{Goes, goes_given, goes_read, goes_refused}

-- a refusal
pub refused_or_faults : {X : Type 0} (end : FileFault) (over : X → Type 0) (reading : Reading X) (old new : Option (List ℕ)) (before after : ℕ) (f : FileFault) → Refused reading old new before after f → RefusedOrFaults end over reading old new before after f
refused_or_faults end over reading old new before after fault.Read why = (why.0, inl why.1)
refused_or_faults end over reading old new before after f why = inl why

-- after other readings: bytes of which nothing is left
stops_last : {X : Type 0} {whole : Reading X} {old now : Option (List ℕ)} {before after : ℕ} (r : Reading X) (new : Option (List ℕ)) (x : X) → Goes whole old before r now after → Stops r now new x → Stops whole old new x
stops_last {whole = whole} {old = old} {now = now} r new x h stops =
    record {
      bytes = h.bytes ++ stops.bytes;
      consumed = consumes_then old now new h.bytes stops.bytes h.consumed stops.consumed;
      is = h.leads stops.bytes ∙ stops.is;
    }

pub faults_last : {X : Type 0} {whole : Reading X} {old now : Option (List ℕ)} {before after : ℕ} (r : Reading X) (new : Option (List ℕ)) (f : FileFault) → Goes whole old before r now after → FaultsAtEnd r now new f → FaultsAtEnd whole old new f
faults_last {whole = whole} {old = old} {now = now} r new f h why =
    record {
      bytes = h.bytes ++ why.bytes;
      consumed = consumes_then old now new h.bytes why.bytes h.consumed why.consumed;
      is = h.leads why.bytes ∙ why.is;
    }

-- a reading that was refused, after others
pub faults_refused : {X Y : Type 0} {whole : Reading X} {old now : Option (List ℕ)} {before after : ℕ} (end : FileFault) (over : X → Type 0) (r : Reading Y) (k : Y → Reading X) (new : Option (List ℕ)) (last : ℕ) (f : FileFault) →
    Goes whole old before (r >>= k) now after → Refused r now new after last f → RefusedOrFaults end over whole old new before last f
faults_refused {whole = whole} {old = old} {before = before} end over r k new last f h why = refused_or_faults end over whole old new before last f (goes_refused r k new last f h why)

-- what there being nothing more leads to: an answer, or the fault
abbrev pub Closes : {X Y : Type 0} → FileFault → (X → Type 0) → (Option Y → Reading X) → Type 0
Closes {X = X} end over k = ((x : X) × (over x × ((text : List ℕ) → k None text ≡ Ok (x, text)))) ⊎ ((text : List ℕ) → k None text ≡ Err (Met end text))

halts_stop : {X Y : Type 0} (r : Reading (Option Y)) (k : Option Y → Reading X) (old new : Option (List ℕ)) (x : X) → ((text : List ℕ) → k None text ≡ Ok (x, text)) → Halts r old new → Stops (r >>= k) old new x
halts_stop r k old new x is h = record { bytes = h.bytes; consumed = h.consumed; is = ap (λ z. read_on z k) h.is ∙ is [] }

halts_fault : {X Y : Type 0} (r : Reading (Option Y)) (k : Option Y → Reading X) (old new : Option (List ℕ)) (f : FileFault) → ((text : List ℕ) → k None text ≡ Err (Met f text)) → Halts r old new → FaultsAtEnd (r >>= k) old new f
halts_fault r k old new f is h = record { bytes = h.bytes; consumed = h.consumed; is = ap (λ z. read_on z k) h.is ∙ is [] }

-- a reading that may end was refused
pub closes_refused : {X Y : Type 0} {whole : Reading X} {old now : Option (List ℕ)} {before after : ℕ} (end : FileFault) (over : X → Type 0) (r : Reading (Option Y)) (k : Option Y → Reading X) (new : Option (List ℕ)) (last : ℕ) (f : FileFault) →
    Closes end over k → Goes whole old before (r >>= k) now after → RefusedOrNone r now new after last f → RefusedOrFaults end over whole old new before last f
closes_refused end over r k new last fault.Read closes h (counted, inl wants) = faults_refused end over r k new last fault.Read h (counted, wants)
closes_refused {now = now} end over r k new last fault.Read (inl (x, (is, gives))) h (counted, inr halts) =
    (rw (← h.same) counted, inr (inl (x, (stops_last (r >>= k) new x h (halts_stop r k now new x gives halts), is))))
closes_refused {now = now} end over r k new last fault.Read (inr closes) h (counted, inr halts) =
    (rw (← h.same) counted, inr (inr (faults_last (r >>= k) new end h (halts_fault r k now new end closes halts))))
closes_refused end over r k new last fault.TooLarge closes h why = absurd why
closes_refused end over r k new last fault.Write closes h why = absurd why
closes_refused end over r k new last fault.Rate closes h why = absurd why
closes_refused end over r k new last f closes h why = faults_refused end over r k new last f h why

-- there is nothing more, which is an answer
pub closes_given : {X Y : Type 0} {whole : Reading X} {old now : Option (List ℕ)} {before after : ℕ} (over : X → Type 0) (r : Reading (Option Y)) (k : Option Y → Reading X) (new : Option (List ℕ)) (last : ℕ) (x : X) → over x →
    ((text : List ℕ) → k None text ≡ Ok (x, text)) → Goes whole old before (r >>= k) now after → (last ≡ after) × ReadOrNone r now new None → (last ≡ before) × ReadOrOver over whole old new x
closes_given over r k new last x is gives h (same, inl read) =
    let next = goes_read r k new last None h (same, read) in
    (next.same, inl (record { bytes = next.bytes; consumed = next.consumed; is = λ rest. next.leads rest ∙ gives rest }))
closes_given {now = now} over r k new last x is gives h (same, inr ((halts, ended), none)) = (same ∙ h.same, inr ((stops_last (r >>= k) new x h (halts_stop r k now new x gives halts), ended), is))

-- or a fault
pub closes_fault : {X Y : Type 0} {whole : Reading X} {old now : Option (List ℕ)} {before after : ℕ} (r : Reading (Option Y)) (k : Option Y → Reading X) (new : Option (List ℕ)) (last : ℕ) (f : FileFault) →
    ((text : List ℕ) → k None text ≡ Err (Met f text)) → Goes whole old before (r >>= k) now after → (last ≡ after) × ReadOrNone r now new None →
    (last ≡ before) × (Faults whole old new f ⊎ (FaultsAtEnd whole old new f × IsAtEnd new))
closes_fault r k new last f is h (same, inl read) =
    let next = goes_read r k new last None h (same, read) in
    (next.same, inl (record { bytes = next.bytes; consumed = next.consumed; is = λ rest. next.leads rest ∙ is rest }))
closes_fault {now = now} r k new last f is h (same, inr ((halts, ended), none)) = (same ∙ h.same, inr (faults_last (r >>= k) new f h (halts_fault r k now new f is halts), ended))

-- a value is made of what is read after other readings
made_stops : {X Y : Type 0} (r : Reading Y) (g : Y → X) (old new : Option (List ℕ)) (y : Y) → Stops r old new y → Stops (r >>= λ z. given (g z)) old new (g y)
made_stops r g old new y h = record { bytes = h.bytes; consumed = h.consumed; is = ap (λ z. read_on z (λ z. given (g z))) h.is }

made_faults : {X Y : Type 0} (r : Reading Y) (g : Y → X) (old new : Option (List ℕ)) (f : FileFault) → FaultsAtEnd r old new f → FaultsAtEnd (r >>= λ z. given (g z)) old new f
made_faults r g old new f h = record { bytes = h.bytes; consumed = h.consumed; is = ap (λ z. read_on z (λ z. given (g z))) h.is }

pub made_refused : {X Y : Type 0} {whole : Reading X} {old now : Option (List ℕ)} {before after : ℕ} (end : FileFault) (from : Y → Type 0) (over : X → Type 0) (r : Reading Y) (g : Y → X) (new : Option (List ℕ)) (last : ℕ) (f : FileFault) →
    ((y : Y) → from y → over (g y)) → Goes whole old before (r >>= λ y. given (g y)) now after → RefusedOrFaults end from r now new after last f → RefusedOrFaults end over whole old new before last f
made_refused {Y = Y} {whole = whole} {old = old} {now = now} {before = before} {after = after} end from over r g new last f made h why = on_fault f why
  where
    refused : (f : FileFault) → Refused r now new after last f → Refused whole old new before last f
    refused f why = goes_refused r (λ y. given (g y)) new last f h why

    Either : FileFault → Type 0
    Either f = Refused r now new after last f ⊎ ((last ≡ after) × (f ≡ end) × (FaultsAtEnd r now new end × IsAtEnd new))

    either : (f : FileFault) → Either f → Refused whole old new before last f ⊎ ((last ≡ before) × (f ≡ end) × (FaultsAtEnd whole old new end × IsAtEnd new))
    either f (inl why) = inl (refused f why)
    either f (inr (same, is, (why, ended))) = inr (same ∙ h.same, is, (faults_last (r >>= λ y. given (g y)) new end h (made_faults r g now new end why), ended))

    on_fault : (f : FileFault) → RefusedOrFaults end from r now new after last f → RefusedOrFaults end over whole old new before last f
    on_fault fault.Read (counted, inl wants) = let all = refused fault.Read (counted, wants) in (all.0, inl all.1)
    on_fault fault.Read (counted, inr (inl (y, (stops, is)))) =
        (rw (← h.same) counted, inr (inl (g y, (stops_last (r >>= λ y. given (g y)) new (g y) h (made_stops r g now new y stops), made y is))))
    on_fault fault.Read (counted, inr (inr why)) = (rw (← h.same) counted, inr (inr (faults_last (r >>= λ y. given (g y)) new end h (made_faults r g now new end why))))
    on_fault f why = either f why

pub made_read : {X Y : Type 0} {whole : Reading X} {old now : Option (List ℕ)} {before after : ℕ} (from : Y → Type 0) (over : X → Type 0) (r : Reading Y) (g : Y → X) (new : Option (List ℕ)) (last : ℕ) (y : Y) →
    ((y : Y) → from y → over (g y)) → Goes whole old before (r >>= λ y. given (g y)) now after → (last ≡ after) × ReadOrOver from r now new y → (last ≡ before) × ReadOrOver over whole old new (g y)
made_read from over r g new last y made h (same, inl read) =
    let all = goes_given (g y) (goes_read r (λ y. given (g y)) new last y h (same, read)) in
    (all.0, inl all.1)
made_read {now = now} from over r g new last y made h (same, inr ((stops, ended), is)) = (same ∙ h.same, inr ((stops_last (r >>= λ y. given (g y)) new (g y) h (made_stops r g now new y stops), ended), made y is))
