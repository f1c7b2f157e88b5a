-- What is told of a file whose track is known, up to where its frames begin.
use Rattle.std.proofs.Common.{◌≡◌, ◌∙◌, ◌+◌, ◌-◌, ◌++◌, ℕ, List, [], Option, None, Ok, Err, length, length-append, refl, sym, ap, arith}
use Rattle.ffv1_wire.proofs.Bytes.{consumes_then}
use Rattle.ffv1_reads.specs.Offsets.{ReadsCounted, offset_after}
use Rattle.ffv1_reads.specs.Reads.{Read, Refused, Stop, read_on}
use Rattle.ffv1_reads.specs.declared.fault.FileFault.{FileFault}
use Rattle.ffv1_matroska.specs.Opening.{segment_begun, segment_entered}
use Rattle.ffv1_matroska.specs.SalvageTold.{StopsWith, ToldBy, ebml_kept, kept_fault, read_or, told_too}
use Rattle.ffv1_matroska.specs.SalvagedAgain.{TellsKnown, known_told, known_told_from, segment_known_told}
use Rattle.ffv1_matroska.specs.Salvaged.{ebml_salvaged, told_more}
use Rattle.ffv1_matroska.specs.Tracks.{Track}
use Rattle.ffv1_matroska.specs.declared.told.ToldFault.{ToldFault}
use Rattle.ffv1_matroska.proofs.SalvagePending.{no_data, refused_with, some_data}

-- the header of EBML is refused
pub known_ebml_tells : (track : Track) (old new : Option (List ℕ)) (other : Option FileFault) (behind : List ToldFault) → StopsWith ebml_salvaged (λ text. kept_fault (ebml_kept text)) old new other → behind ≡ told_too [] other None → TellsKnown track old new 0 behind
unfolding known_told
known_ebml_tells track old new other behind h tells =
    record {
      bytes = h.bytes;
      consumed = h.consumed;
      is = tells ∙ ap (λ z. told_too [] z None) h.is ∙ sym (there h.bytes h.why h.refused);
      start_is = sym (ap (λ n. offset_after 0 n) (no_data h.bytes h.why (ap (λ z. read_on z (λ _. segment_entered)) h.refused)));
    }
  where
    there : (bytes : List ℕ) (why : Stop) → ebml_salvaged bytes ≡ Err why → known_told track bytes ≡ told_too [] (kept_fault (ebml_kept bytes)) None
    there bytes why is = rw is refl

module _ (track : Track) (o : Option FileFault) (faults : List ToldFault) (kept : told_more [] o None ≡ Ok faults) where
  from_ebml : (bytes mid : List ℕ) → ebml_salvaged bytes ≡ Ok (o, mid) → known_told track bytes ≡ segment_known_told track faults mid
  unfolding known_told
  from_ebml bytes mid is = rw (is, kept) refl

  -- what comes up to the Segment is refused
  pub known_entered_tells : (old between new : Option (List ℕ)) (before after : ℕ) (f : FileFault) → Read ebml_salvaged old between o → Refused segment_entered between new before after f → TellsKnown track old new 0 faults
  known_entered_tells old between new before after f ebml why =
      let stops = refused_with segment_entered (λ bytes. faults) between new faults (λ bytes why is. refl) before after f why in
      let at = ebml.is stops.bytes in
      record {
        bytes = ebml.bytes ++ stops.bytes;
        consumed = consumes_then old between new ebml.bytes stops.bytes ebml.consumed stops.consumed;
        is = sym (from_ebml (ebml.bytes ++ stops.bytes) stops.bytes at ∙ ap (λ z. read_or faults (λ size more. known_told_from track (segment_begun size) faults more) z) stops.refused);
        start_is = sym (ap (λ n. offset_after 0 n) (no_data (ebml.bytes ++ stops.bytes) stops.why (ap (λ z. read_on z (λ _. segment_entered)) at ∙ stops.refused)));
      }

  -- the Segment is
  pub known_segment_tells : (old between now new : Option (List ℕ)) (size : Option ℕ) (m n start : ℕ) (behind : List ToldFault) → ReadsCounted ebml_salvaged old between o m → ReadsCounted segment_entered between now size n → start ≡ offset_after 0 (m + n) →
      ToldBy (known_told_from track (segment_begun size) faults) now new behind → TellsKnown track old new start behind
  known_segment_tells old between now new size m n start behind ebml entered counted told =
      let later = entered.bytes ++ told.bytes in
      let all = ebml.bytes ++ later in
      let at = ebml.is later in
      let two = entered.is told.bytes in
      let long : length all - length told.bytes ≡ m + n = omega (arith, length-append ebml.bytes later, length-append entered.bytes told.bytes, ebml.counted, entered.counted) in
      record {
        bytes = all;
        consumed = consumes_then old between new ebml.bytes later ebml.consumed (consumes_then between now new entered.bytes told.bytes entered.consumed told.consumed);
        is = told.is ∙ sym (from_ebml all later at ∙ ap (λ z. read_or faults (λ size more. known_told_from track (segment_begun size) faults more) z) two);
        start_is = counted ∙ sym (ap (λ n. offset_after 0 n) (some_data all told.bytes size (ap (λ z. read_on z (λ _. segment_entered)) at ∙ two) ∙ long));
      }
