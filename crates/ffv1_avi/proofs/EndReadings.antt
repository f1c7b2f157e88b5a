-- Readings that may come to the end of the input, one after the other.
use Rattle.std.proofs.Common.{IsErrAnd, ◌≡◌, append_assoc, ℕ, Option, Some, None, Result, Ok, Err, List, [], ◌++◌, inl, inr, ap, ◌∙◌, refl, subst}
use Rattle.ffv1_wire.proofs.Bytes.{consumes_then}
use Rattle.ffv1_wire.specs.Passage.{Passage}
use Rattle.ffv1_reads.specs.declared.fault.FileFault.{FileFault}
use Rattle.ffv1_reads.specs.declared.fault.FileFault.TheVariants as fault
use Rattle.ffv1_avi.specs.declared.place.Extent.{Extent}
use Rattle.ffv1_avi.specs.declared.place.Extent.TheVariants.{FirstMovi, EveryRiff}
use Rattle.ffv1_avi.specs.Extents.{AnswersBy}
use Rattle.ffv1_avi.specs.Internal.Ending.{AnswersOrNone, Halts, ReadOrNone, RefusedOrNone}
use Rattle.ffv1_reads.specs.Reads.{Read, Reading, Refused, Stop, given, read_on, ◌>>=◌}
use Rattle.ffv1_reads.proofs.Reading.{Goes, goes_given, goes_read, goes_refused, goes_same}

-- nothing more is there after other readings
pub halts_last : {X : Type 0} (extent : Extent) {whole : Reading (Option X)} {old now : Option (List ℕ)} {before after : ℕ} (r : Reading (Option X)) (new : Option (List ℕ)) →
    Goes whole old before r now after → Halts extent r now new → Halts extent whole old new
halts_last FirstMovi r new h stops = absurd stops
halts_last EveryRiff {whole = whole} {old = old} {now = now} r new h stops =
    record {
      bytes = h.bytes ++ stops.bytes;
      consumed = consumes_then old now new h.bytes stops.bytes h.consumed stops.consumed;
      is = h.leads stops.bytes ∙ stops.is;
    }

-- and so there is nothing more in all of them
abbrev pub Stays : {X Y : Type 0} → (Option Y → Reading (Option X)) → Type 0
Stays k = (text : List ℕ) → k None text ≡ Ok (None, text)

pub halts_then : {X Y : Type 0} (extent : Extent) (r : Reading (Option Y)) (k : Option Y → Reading (Option X)) (old new : Option (List ℕ)) → Stays k → Halts extent r old new → Halts extent (r >>= k) old new
halts_then FirstMovi r k old new stays stops = absurd stops
halts_then EveryRiff r k old new stays stops = record { bytes = stops.bytes; consumed = stops.consumed; is = ap (λ z. read_on z k) stops.is ∙ stays [] }

-- a refusal, if there is more
pub refused_none : {X : Type 0} (extent : Extent) (reading : Reading (Option X)) (old new : Option (List ℕ)) (before after : ℕ) (f : FileFault) → Refused reading old new before after f → RefusedOrNone extent reading old new before after f
refused_none extent reading old new before after fault.Read why = (why.0, inl why.1)
refused_none extent reading old new before after f why = why

-- a reading that was refused, after others
pub none_refused : {X Y : Type 0} (extent : Extent) {whole : Reading (Option X)} {old now : Option (List ℕ)} {before after : ℕ} (r : Reading Y) (k : Y → Reading (Option X)) (new : Option (List ℕ)) (last : ℕ) (f : FileFault) →
    Goes whole old before (r >>= k) now after → Refused r now new after last f → RefusedOrNone extent whole old new before last f
none_refused extent {whole = whole} {old = old} {before = before} r k new last f h why = refused_none extent whole old new before last f (goes_refused r k new last f h why)

refused_halts : {X Y : Type 0} (extent : Extent) {whole : Reading (Option X)} {old now : Option (List ℕ)} {before after : ℕ} (r : Reading (Option Y)) (k : Option Y → Reading (Option X)) (new : Option (List ℕ)) (last : ℕ) (f : FileFault) →
    Stays k → Goes whole old before (r >>= k) now after → RefusedOrNone extent r now new after last f → RefusedOrNone extent whole old new before last f
refused_halts extent {now = now} {after = after} r k new last fault.Read stays h (counted, inl wants) = none_refused extent r k new last fault.Read h (counted, wants)
refused_halts extent {whole = whole} {old = old} {now = now} {before = before} {after = after} r k new last fault.Read stays h (counted, inr halts) =
    (rw (← h.same) counted, inr (halts_last extent {whole = whole} {old = old} {now = now} {before = before} {after = after} (r >>= k) new h (halts_then extent r k now new stays halts)))
refused_halts extent r k new last fault.TooLarge stays h why = absurd why
refused_halts extent r k new last fault.Write stays h why = absurd why
refused_halts extent r k new last fault.Rate stays h why = absurd why
refused_halts extent r k new last f stays h why = none_refused extent r k new last f h why

-- a reading that may end was refused
pub none_refused_end : {X Y : Type 0} (extent : Extent) {whole : Reading (Option X)} {old now : Option (List ℕ)} {before after : ℕ} (r : Reading (Option Y)) (k : Option Y → Reading (Option X)) (new : Option (List ℕ)) (last : ℕ) (f : FileFault) →
    Stays k → Goes whole old before (r >>= k) now after → RefusedOrNone extent r now new after last f → RefusedOrNone extent whole old new before last f
none_refused_end extent r k new last f stays h why = refused_halts extent r k new last f stays h why

-- a value is answered, and nothing more is read
pub none_given : {X : Type 0} (extent : Extent) {whole : Reading (Option X)} {old now : Option (List ℕ)} {before after : ℕ} (x : Option X) → Goes whole old before (given x) now after → (after ≡ before) × ReadOrNone extent whole old now x
none_given extent x h = let read = goes_given x h in (read.0, inl read.1)

-- a reading answers that there is nothing more
pub none_ends : {X Y : Type 0} (extent : Extent) {whole : Reading (Option X)} {old now : Option (List ℕ)} {before after : ℕ} (r : Reading (Option Y)) (k : Option Y → Reading (Option X)) (new : Option (List ℕ)) (last : ℕ) →
    Stays k → Goes whole old before (r >>= k) now after → (last ≡ after) × ReadOrNone extent r now new None → (last ≡ before) × ReadOrNone extent whole old new None
none_ends extent r k new last stays h (same, inl read) =
    let next = goes_read r k new last None h (same, read) in
    (next.same, inl (record { bytes = next.bytes; consumed = next.consumed; is = λ rest. next.leads rest ∙ stays rest }))
none_ends extent {whole = whole} {old = old} {now = now} {before = before} {after = after} r k new last stays h (same, inr ((halts, ended), none)) =
    (same ∙ h.same, inr ((halts_last extent {whole = whole} {old = old} {now = now} {before = before} {after = after} (r >>= k) new h (halts_then extent r k now new stays halts), ended), refl))

no_none : {X : Type 0} (x : X) → ◌≡◌ {A = Option X} (Some x) None → ⊥
no_none x e = absurd (cc)

-- or a value
pub none_read : {X Y : Type 0} (extent : Extent) {whole : Reading (Option X)} {old now : Option (List ℕ)} {before after : ℕ} (r : Reading (Option Y)) (k : Option Y → Reading (Option X)) (new : Option (List ℕ)) (last : ℕ) (y : Y) →
    Goes whole old before (r >>= k) now after → (last ≡ after) × ReadOrNone extent r now new (Some y) → Goes whole old before (k (Some y)) new last
none_read extent r k new last y h (same, inl read) = goes_read r k new last (Some y) h (same, read)
none_read extent r k new last y h (same, inr (halts, none)) = absurd (no_none y none)

pub some_read : {X : Type 0} (extent : Extent) (reading : Reading (Option X)) (old new : Option (List ℕ)) (x : X) → ReadOrNone extent reading old new (Some x) → Read reading old new (Some x)
some_read extent reading old new x (inl read) = read
some_read extent reading old new x (inr (halts, none)) = absurd (no_none x none)

-- the last reading answers
pub none_last : {X Y : Type 0} (extent : Extent) {whole : Reading (Option X)} {old now : Option (List ℕ)} {before after : ℕ} (r : Reading (Option X)) (view : Y → Option X) (new : Option (List ℕ)) (last : ℕ) (result : Result Y FileFault) →
    Goes whole old before r now after → AnswersOrNone extent view r (record { old = now; new = new; before = after; after = last }) result →
    AnswersOrNone extent view whole (record { old = old; new = new; before = before; after = last }) result
none_last extent {whole = whole} {old = old} {now = now} r view new last (Ok y) h (same, inl read) =
    (same ∙ h.same, inl (record { bytes = h.bytes ++ read.bytes; consumed = consumes_then old now new h.bytes read.bytes h.consumed read.consumed; is = λ more. both more }))
  where
    both : (more : List ℕ) → whole ((h.bytes ++ read.bytes) ++ more) ≡ Ok (view y, more)
    both more = ap whole (append_assoc h.bytes read.bytes more) ∙ h.leads (read.bytes ++ more) ∙ read.is more
none_last extent {whole = whole} {old = old} {now = now} {before = before} {after = after} r view new last (Ok y) h (same, inr ((halts, ended), none)) =
    (same ∙ h.same, inr ((halts_last extent {whole = whole} {old = old} {now = now} {before = before} {after = after} r new h halts, ended), none))
none_last {X = X} extent {whole = whole} {old = old} {now = now} {before = before} {after = after} r view new last (Err f) h why = none_refused_end extent r (λ x. given x) new last f (λ text. refl) (through h) why
  where
    again : (z : Result (Option X × List ℕ) Stop) → z ≡ read_on z (λ x. given x)
    again (Ok p) = refl
    again (Err why) = refl

    through : Goes whole old before r now after → Goes whole old before (r >>= λ x. given x) now after
    through h = goes_same r (r >>= λ x. given x) (λ text. again (r text)) h

-- what a call answers that may come to the end, by how far a file is read
pub answers_by : {X Y : Type 0} (extent : Extent) (view : Y → Option X) (reading : Reading (Option X)) (p : Passage) (result : Result Y FileFault) → AnswersOrNone extent view reading p result → AnswersBy extent view reading p result
answers_by FirstMovi view reading p (Ok y) (same, inl read) = (same, read)
answers_by FirstMovi view reading p (Ok y) (same, inr ((halts, ended), none)) = absurd halts
answers_by FirstMovi view reading p (Err fault.Read) (counted, inl wants) = (counted, wants)
answers_by FirstMovi view reading p (Err fault.Read) (counted, inr halts) = absurd halts
answers_by EveryRiff view reading p (Ok y) (same, inl read) = (same, inl read)
answers_by EveryRiff view reading p (Ok y) (same, inr over) = (same, inr over)
answers_by EveryRiff view reading p (Err fault.Read) (counted, inl wants) = (counted, inl wants)
answers_by EveryRiff view reading p (Err fault.Read) (counted, inr halts) = (counted, inr halts)
answers_by FirstMovi view reading p (Err f) why = why
answers_by EveryRiff view reading p (Err f) why = why

-- a refusal says nothing of a value
pub refused_by : {X Y Z : Type 0} (extent : Extent) (view : Y → Option X) (other : Z → Option X) (reading : Reading (Option X)) (p : Passage) (f : FileFault) → AnswersBy extent view reading p (Err f) → AnswersBy extent other reading p (Err f)
refused_by FirstMovi view other reading p f why = why
refused_by EveryRiff view other reading p f why = why

-- the same, said of an extent that is equal
pub refused_extent : {X : Type 0} (d e : Extent) (reading : Reading (Option X)) (old new : Option (List ℕ)) (before after : ℕ) (f : FileFault) → d ≡ e → RefusedOrNone d reading old new before after f → RefusedOrNone e reading old new before after f
refused_extent d e reading old new before after f is h = let P : Extent → Type 0 = λ z. RefusedOrNone z reading old new before after f in subst P is h

pub read_extent : {X : Type 0} (d e : Extent) (reading : Reading (Option X)) (old new : Option (List ℕ)) (x : Option X) → d ≡ e → ReadOrNone d reading old new x → ReadOrNone e reading old new x
read_extent d e reading old new x is h = let P : Extent → Type 0 = λ z. ReadOrNone z reading old new x in subst P is h

-- after a `?`
pub none_err : {X Y : Type 0} (extent : Extent) (f : FileFault) (view : Y → Option X) (reading : Reading (Option X)) (p : Passage) (result : Result Y FileFault) → IsErrAnd result (λ e. e ≡ f) → RefusedOrNone extent reading p.old p.new p.before p.after f → AnswersOrNone extent view reading p result
none_err extent f view reading p (Ok y) out why = absurd out
none_err extent f view reading p (Err e) out why = rw out why

-- a reading that does not end with the input was refused, or answers, as the last one
pub refused_whole : {X : Type 0} (extent : Extent) {whole : Reading (Option X)} {old now : Option (List ℕ)} {before after : ℕ} (r : Reading (Option X)) (new : Option (List ℕ)) (last : ℕ) (f : FileFault) →
    Goes whole old before r now after → Refused r now new after last f → RefusedOrNone extent whole old new before last f
refused_whole {X = X} extent {whole = whole} {old = old} {now = now} {before = before} {after = after} r new last f h why = none_refused extent r (λ x. given x) new last f (goes_same r (r >>= λ x. given x) (λ text. again (r text)) h) why
  where
    again : (z : Result (Option X × List ℕ) Stop) → z ≡ read_on z (λ x. given x)
    again (Ok p) = refl
    again (Err why) = refl

pub whole_read : {X : Type 0} (extent : Extent) {whole : Reading (Option X)} {old now : Option (List ℕ)} {before after : ℕ} (r : Reading (Option X)) (new : Option (List ℕ)) (last : ℕ) (x : Option X) →
    Goes whole old before r now after → (last ≡ after) × Read r now new x → (last ≡ before) × ReadOrNone extent whole old new x
whole_read extent {whole = whole} {old = old} {now = now} r new last x h (same, read) =
    (same ∙ h.same, inl (record { bytes = h.bytes ++ read.bytes; consumed = consumes_then old now new h.bytes read.bytes h.consumed read.consumed; is = λ more. ap whole (append_assoc h.bytes read.bytes more) ∙ h.leads (read.bytes ++ more) ∙ read.is more }))
