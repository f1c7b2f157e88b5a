-- Readings that may come to the end of the input, one after the other.
use Rattle.std.proofs.Common.{IsErrAnd, ◌≡◌, append_assoc, ℕ, Option, Some, None, Result, Ok, Err, List, [], ◌++◌, inl, inr, ap, ◌∙◌, refl, sym}
use Rattle.std.specs.Io.KnownBytes.{Consumes, Keeps}
use Rattle.ffv1_wire.proofs.Bytes.{consumes_then}
use Rattle.ffv1_wire.specs.Passage.{Passage}
use Rattle.ffv1_reads.specs.declared.fault.FileFault.{FileFault}
use Rattle.ffv1_reads.specs.declared.fault.FileFault.TheVariants as fault
use Rattle.ffv1_reads.specs.Ends.{AnswersOrNone, Halts, ReadOrNone, RefusedOrNone, Stops}
use Rattle.ffv1_reads.specs.Reads.{Answers, Read, Reading, Refused, Stop, given, read_on, ◌>>=◌}
use Rattle.ffv1_reads.proofs.Reading.{Goes, goes_given, goes_read, goes_refused, goes_same}

-- nothing was read
kept_none : (a b : Option (List ℕ)) → Keeps a b → Consumes a b []
kept_none None b kept = tt
kept_none (Some xs) None kept = absurd kept
kept_none (Some xs) (Some ys) kept = sym kept

pub stops_here : {X : Type 0} (reading : Reading X) (old new : Option (List ℕ)) (x : X) → reading [] ≡ Ok (x, []) → Keeps old new → Stops reading old new x
stops_here reading old new x is kept = record { bytes = []; consumed = kept_none old new kept; is = is }

-- nothing more is there after other readings
pub halts_last : {X : Type 0} {whole : Reading (Option X)} {old now : Option (List ℕ)} {before after : ℕ} (r : Reading (Option X)) (new : Option (List ℕ)) →
    Goes whole old before r now after → Halts r now new → Halts whole old new
halts_last {whole = whole} {old = old} {now = now} r new h stops =
    record {
      bytes = h.bytes ++ stops.bytes;
      consumed = consumes_then old now new h.bytes stops.bytes h.consumed stops.consumed;
      is = h.leads stops.bytes ∙ stops.is;
    }

-- and so there is nothing more in all of them
abbrev pub Stays : {X Y : Type 0} → (Option Y → Reading (Option X)) → Type 0
Stays k = (text : List ℕ) → k None text ≡ Ok (None, text)

halts_then : {X Y : Type 0} (r : Reading (Option Y)) (k : Option Y → Reading (Option X)) (old new : Option (List ℕ)) → Stays k → Halts r old new → Halts (r >>= k) old new
halts_then r k old new stays stops = record { bytes = stops.bytes; consumed = stops.consumed; is = ap (λ z. read_on z k) stops.is ∙ stays [] }

-- a refusal, if there is more
pub refused_none : {X : Type 0} (reading : Reading (Option X)) (old new : Option (List ℕ)) (before after : ℕ) (f : FileFault) → Refused reading old new before after f → RefusedOrNone reading old new before after f
refused_none reading old new before after fault.Read why = (why.0, inl why.1)
refused_none reading old new before after f why = why

-- a reading that was refused, after others
pub none_refused : {X Y : Type 0} {whole : Reading (Option X)} {old now : Option (List ℕ)} {before after : ℕ} (r : Reading Y) (k : Y → Reading (Option X)) (new : Option (List ℕ)) (last : ℕ) (f : FileFault) →
    Goes whole old before (r >>= k) now after → Refused r now new after last f → RefusedOrNone whole old new before last f
none_refused {whole = whole} {old = old} {before = before} r k new last f h why = refused_none whole old new before last f (goes_refused r k new last f h why)

-- a reading that may end was refused
pub none_refused_end : {X Y : Type 0} {whole : Reading (Option X)} {old now : Option (List ℕ)} {before after : ℕ} (r : Reading (Option Y)) (k : Option Y → Reading (Option X)) (new : Option (List ℕ)) (last : ℕ) (f : FileFault) →
    Stays k → Goes whole old before (r >>= k) now after → RefusedOrNone r now new after last f → RefusedOrNone whole old new before last f
none_refused_end {now = now} {after = after} r k new last fault.Read stays h (counted, inl wants) = none_refused r k new last fault.Read h (counted, wants)
none_refused_end {whole = whole} {old = old} {now = now} {before = before} {after = after} r k new last fault.Read stays h (counted, inr halts) =
    (rw (← h.same) counted, inr (halts_last {whole = whole} {old = old} {now = now} {before = before} {after = after} (r >>= k) new h (halts_then r k now new stays halts)))
none_refused_end r k new last fault.TooLarge stays h why = absurd why
none_refused_end r k new last fault.Write stays h why = absurd why
none_refused_end r k new last fault.Rate stays h why = absurd why
none_refused_end r k new last f stays h why = none_refused r k new last f h why

-- a value is answered, and nothing more is read
pub none_given : {X : Type 0} {whole : Reading (Option X)} {old now : Option (List ℕ)} {before after : ℕ} (x : Option X) → Goes whole old before (given x) now after → (after ≡ before) × ReadOrNone whole old now x
none_given x h = let read = goes_given x h in (read.0, inl read.1)

-- a reading answers that there is nothing more
pub none_ends : {X Y : Type 0} {whole : Reading (Option X)} {old now : Option (List ℕ)} {before after : ℕ} (r : Reading (Option Y)) (k : Option Y → Reading (Option X)) (new : Option (List ℕ)) (last : ℕ) →
    Stays k → Goes whole old before (r >>= k) now after → (last ≡ after) × ReadOrNone r now new None → (last ≡ before) × ReadOrNone whole old new None
none_ends r k new last stays h (same, inl read) =
    let next = goes_read r k new last None h (same, read) in
    (next.same, inl (record { bytes = next.bytes; consumed = next.consumed; is = λ rest. next.leads rest ∙ stays rest }))
none_ends {whole = whole} {old = old} {now = now} {before = before} {after = after} r k new last stays h (same, inr ((halts, ended), none)) =
    (same ∙ h.same, inr ((halts_last {whole = whole} {old = old} {now = now} {before = before} {after = after} (r >>= k) new h (halts_then r k now new stays halts), ended), refl))

no_none : {X : Type 0} (x : X) → ◌≡◌ {A = Option X} (Some x) None → ⊥
no_none x e = absurd (cc)

-- or a value
pub none_read : {X Y : Type 0} {whole : Reading X} {old now : Option (List ℕ)} {before after : ℕ} (r : Reading (Option Y)) (k : Option Y → Reading X) (new : Option (List ℕ)) (last : ℕ) (y : Y) →
    Goes whole old before (r >>= k) now after → (last ≡ after) × ReadOrNone r now new (Some y) → Goes whole old before (k (Some y)) new last
none_read r k new last y h (same, inl read) = goes_read r k new last (Some y) h (same, read)
none_read r k new last y h (same, inr (halts, none)) = absurd (no_none y none)

pub some_read : {X : Type 0} (reading : Reading (Option X)) (old new : Option (List ℕ)) (x : X) → ReadOrNone reading old new (Some x) → Read reading old new (Some x)
some_read reading old new x (inl read) = read
some_read reading old new x (inr (halts, none)) = absurd (no_none x none)

-- a call that comes to no end
pub answers_none : {X Y : Type 0} (view : Y → Option X) (reading : Reading (Option X)) (p : Passage) (result : Result Y FileFault) → Answers view reading p result → AnswersOrNone view reading p result
answers_none view reading p (Ok y) read = (read.0, inl read.1)
answers_none view reading p (Err f) why = refused_none reading p.old p.new p.before p.after f why

-- the last reading answers
pub none_last : {X Y : Type 0} {whole : Reading (Option X)} {old now : Option (List ℕ)} {before after : ℕ} (r : Reading (Option X)) (view : Y → Option X) (new : Option (List ℕ)) (last : ℕ) (result : Result Y FileFault) →
    Goes whole old before r now after → AnswersOrNone view r (record { old = now; new = new; before = after; after = last }) result →
    AnswersOrNone view whole (record { old = old; new = new; before = before; after = last }) result
none_last {whole = whole} {old = old} {now = now} r view new last (Ok y) h (same, inl read) =
    (same ∙ h.same, inl (record { bytes = h.bytes ++ read.bytes; consumed = consumes_then old now new h.bytes read.bytes h.consumed read.consumed; is = λ more. both more }))
  where
    both : (more : List ℕ) → whole ((h.bytes ++ read.bytes) ++ more) ≡ Ok (view y, more)
    both more = ap whole (append_assoc h.bytes read.bytes more) ∙ h.leads (read.bytes ++ more) ∙ read.is more
none_last {whole = whole} {old = old} {now = now} {before = before} {after = after} r view new last (Ok y) h (same, inr ((halts, ended), none)) =
    (same ∙ h.same, inr ((halts_last {whole = whole} {old = old} {now = now} {before = before} {after = after} r new h halts, ended), none))
none_last {X = X} {whole = whole} {old = old} {now = now} {before = before} {after = after} r view new last (Err f) h why = none_refused_end r (λ x. given x) new last f (λ text. refl) (through h) why
  where
    again : (z : Result (Option X × List ℕ) Stop) → z ≡ read_on z (λ x. given x)
    again (Ok p) = refl
    again (Err why) = refl

    through : Goes whole old before r now after → Goes whole old before (r >>= λ x. given x) now after
    through h = goes_same r (r >>= λ x. given x) (λ text. again (r text)) h

-- the same after a `?`
pub none_err : {X Y : Type 0} (f : FileFault) (view : Y → Option X) (reading : Reading (Option X)) (p : Passage) (result : Result Y FileFault) → IsErrAnd result (λ e. e ≡ f) → RefusedOrNone reading p.old p.new p.before p.after f → AnswersOrNone view reading p result
none_err f view reading p (Ok y) out why = absurd out
none_err f view reading p (Err e) out why = rw out why
