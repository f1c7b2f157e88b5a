-- Refusals if the end of the input may be an answer.
use Rattle.std.proofs.Common.{◌≡◌, ℕ, Option, None, Ok, List, [], ◌++◌, inl, inr, ap, ◌∙◌}
use Rattle.ffv1_reads.specs.declared.fault.FileFault.{FileFault}
use Rattle.ffv1_reads.specs.declared.fault.FileFault.TheVariants as fault
use Rattle.ffv1_reads.specs.Ends.{RefusedOrEnds, RefusedOrNone}
use Rattle.ffv1_reads.specs.Reads.{Reading, Refused, read_on, ◌>>=◌}
use Rattle.ffv1_reads.proofs.Reading.{Goes, goes_refused}
use Rattle.ffv1_wire.proofs.Bytes.{consumes_then}

-- a refusal, if there is more
pub refused_ends : {X : Type 0} (reading : Reading X) (old new : Option (List ℕ)) (before after : ℕ) (f : FileFault) → Refused reading old new before after f → RefusedOrEnds reading old new before after f
refused_ends reading old new before after fault.Read why = (why.0, inl why.1)
refused_ends reading old new before after f why = why

-- a reading that was refused, after others
pub ends_refused : {X Y : Type 0} {whole : Reading X} {old now : Option (List ℕ)} {before after : ℕ} (r : Reading Y) (k : Y → Reading X) (new : Option (List ℕ)) (last : ℕ) (f : FileFault) →
    Goes whole old before (r >>= k) now after → Refused r now new after last f → RefusedOrEnds whole old new before last f
ends_refused {whole = whole} {old = old} {before = before} r k new last f h why = refused_ends whole old new before last f (goes_refused r k new last f h why)

-- a reading that may end was refused; if it ends, so does the whole
pub ends_refused_none : {X Y : Type 0} {whole : Reading X} {old now : Option (List ℕ)} {before after : ℕ} (r : Reading (Option Y)) (k : Option Y → Reading X) (x : X) (new : Option (List ℕ)) (last : ℕ) (f : FileFault) →
    ((text : List ℕ) → k None text ≡ Ok (x, text)) → Goes whole old before (r >>= k) now after → RefusedOrNone r now new after last f → RefusedOrEnds whole old new before last f
ends_refused_none r k x new last fault.Read stays h (counted, inl wants) = ends_refused r k new last fault.Read h (counted, wants)
ends_refused_none {whole = whole} {old = old} {now = now} r k x new last fault.Read stays h (counted, inr halts) = (
  rw (← h.same) counted,
  inr (
    x,
    record {
      bytes = h.bytes ++ halts.bytes;
      consumed = consumes_then old now new h.bytes halts.bytes h.consumed halts.consumed;
      is = h.leads halts.bytes ∙ ap (λ z. read_on z k) halts.is ∙ stays [];
    },
  ),
)
ends_refused_none r k x new last fault.TooLarge stays h why = absurd why
ends_refused_none r k x new last fault.Write stays h why = absurd why
ends_refused_none r k x new last fault.Rate stays h why = absurd why
ends_refused_none r k x new last f stays h why = ends_refused r k new last f h why
