-- Reads a file that may be damaged from its beginning up to where the frames of a track begin.
use Rattle.std.proofs.Common.{◌≡◌, ◌∙◌, ◌-◌, ◌^◌, List, [], Option, None, Some, inl, inr, min, refl, rules, sym}
use Rattle.std.proofs.lemmas.Result.{err_from_is_err_and}
use Rattle.ffv1_reads.specs.Reads.{Reading, ◌>>=◌}
use Rattle.ffv1_reads.specs.declared.fault.FileFault.{FileFault}
use Rattle.ffv1_reads.specs.declared.fault.FileFault.TheVariants as fault
use Rattle.ffv1_reads.proofs.EndFaults.{faults_refused, made_read, made_refused}
use Rattle.ffv1_reads.proofs.OffsetLaws.{reads_none, reads_then}
use Rattle.ffv1_reads.proofs.Reading.{goes_none, goes_read}
use Rattle.ffv1_matroska.specs.Offsets.{BeforeSegment, InSegment, Start}
use Rattle.ffv1_matroska.specs.Opened.{told}
use Rattle.ffv1_matroska.specs.Opening.{segment_begun, segment_entered}
use Rattle.ffv1_matroska.specs.Places.{amount}
use Rattle.ffv1_matroska.specs.SalvageStops.{salvaged_taken}
use Rattle.ffv1_matroska.specs.SalvagedLate.{known_from, salvage_known, segment_known}
use Rattle.ffv1_matroska.specs.Salvaged.{NeverBegins, Salvaged, ebml_salvaged, salvaged_as, told_more}
use Rattle.ffv1_matroska.specs.Tracks.{Track}
use Rattle.ffv1_matroska.specs.declared.told.ToldFault.{ToldFault}
use Rattle.ffv1_matroska.proofs.KnownSalvage.{any_track}
use Rattle.ffv1_matroska.proofs.KnownTold.{known_ebml_tells, known_entered_tells, known_segment_tells}
use Rattle.ffv1_matroska.proofs.SalvagedOffsets.{data_known}
use Rattle.ffv1_matroska.proofs.SalvagedReadings.{Over, told_goes}
use Rattle.ffv1_matroska.proofs.SalvagePending.{never_most}
use Rattle.ffv1_matroska.proofs.SalvageSpots.{ebml_stops_there, ebml_whole, opening_same, stops_then, whole_same}
use Rattle.ffv1_matroska.proofs.SpotReadings.{begun_flat, entered_offset, last_offset}
use Rattle.ffv1_matroska.proofs.late_salvage.reopen_salvaged.Goals as goal

abbrev behind_told : Track → List ToldFault → Reading Salvaged
behind_told track faults = segment_entered >>= segment_known track faults

abbrev behind_ebml : Track → Option FileFault → Reading Salvaged
behind_ebml track f = told (told_more [] f None) >>= behind_told track

pub returns-in-Err-clause-answer : goal.returns-in-Err-clause-answer
unfolding salvage_known
returns-in-Err-clause-answer g c = λ track. faults_refused fault.NoTracks NeverBegins _ _ _ _ _
    (goes_none (salvage_known track) _ _) c.in-Err.ensures.answer

pub returns-in-Err-clause-stopped : goal.returns-in-Err-clause-stopped
returns-in-Err-clause-stopped g c = λ track. inl (record {
  to = Start;
  count = 0;
  stops = record {
    between = _;
    before = reads_none salvaged_taken Start _;
    stops = ebml_stops_there _ _ _ _ c.in-Err.fault c.in-Err.ensures.answer;
  };
  offset_is = refl;
})

pub returns-in-Err-clause-told : goal.returns-in-Err-clause-told
returns-in-Err-clause-told g c =
    let none : c.clear.new.self.items ≡ [] = search rules in
    let told = rw none at c.tell_pending.ensures.too in
    λ track. known_ebml_tells track _ _ c.salvage_ebml.new.other c.tell_pending.new.faults.items
    c.in-Err.ensures.other told

pub returns-in_err-size-clause-told : goal.returns-in_err-size-clause-told
returns-in_err-size-clause-told g c =
    let p = err_from_is_err_and c.from_residual-in_err-size.result
    c.from_residual-in_err-size.ensures.1 in
    let none : c.clear.new.self.items ≡ [] = search rules in
    let kept = rw none at c.in_ok-tell.ensures.told in
    rw p.1 (λ track. known_entered_tells track c.in-Ok.fault c.tell.new.faults.items (sym kept) _ _ _ _ _
    c.in_err-size.field-0.0 c.in-Ok.ensures.answer.1 c.in_err-size.ensures.answer)

pub returns-in_err-place-clause-told : goal.returns-in_err-place-clause-told
returns-in_err-place-clause-told g c =
    let p = err_from_is_err_and c.from_residual-in_err-place.result
    c.from_residual-in_err-place.ensures.1 in
    let none : c.clear.new.self.items ≡ [] = search rules in
    let kept = rw none at c.in_ok-tell.ensures.told in
    let first = c.in-Ok.ensures.counted in
    let second = c.in_ok-size.ensures.counted in
    let told = rw c.begin_segment-begin.ensures at c.in_err-place.ensures.told in
    rw p.1 (λ track. known_segment_tells track c.in-Ok.fault c.tell.new.faults.items (sym kept) _ _ _ _
    c.in_ok-size.size first.0 second.0 _ c.salvage_known-read.new.faults.items first.1 second.1
    (second.2 first.0 first.2) (told track))

pub returns-in_err-tell : goal.returns-in_err-tell
returns-in_err-tell g c =
    let none : c.clear.new.self.items ≡ [] = search rules in
    let told = rw none at c.in_err-tell.ensures.told in
    never_most c.in-Ok.fault None c.in_err-tell.field-0.0 (sym told)

pub returns-in_err-size-clause-answer : goal.returns-in_err-size-clause-answer
unfolding salvage_known
returns-in_err-size-clause-answer g c =
    let p = err_from_is_err_and c.from_residual-in_err-size.result
    c.from_residual-in_err-size.ensures.1 in
    let sum = c.in-Ok.fault in
    let none : c.clear.new.self.items ≡ [] = search rules in
    let kept = rw none at c.in_ok-tell.ensures.told in
    rw (p.1, p.2) (λ track.
    (let next = goes_read ebml_salvaged (behind_ebml track) _ _ sum (goes_none (salvage_known track) _ _) c.in-Ok.ensures.answer in
    let told = told_goes [] sum None (behind_told track) next _ (sym kept) in
    faults_refused fault.NoTracks NeverBegins _ _ _ _ _ told c.in_err-size.ensures.answer))

pub returns-in_err-size-clause-stopped : goal.returns-in_err-size-clause-stopped
returns-in_err-size-clause-stopped g c =
    let p = err_from_is_err_and c.from_residual-in_err-size.result
    c.from_residual-in_err-size.ensures.1 in
    let first = c.in-Ok.ensures.counted in
    let from = c.in_err-size.ensures.from in
    rw (p.1, p.2) (λ track. inl (record {
      to = BeforeSegment from.0;
      count = _;
      stops = stops_then (ebml_whole first.1) (opening_same from.2);
      offset_is = from.3 first.0 first.2 ∙ entered_offset first.0 from.1 (2 ^ 64 - 1);
    }))

pub returns-in_err-place-clause-answer : goal.returns-in_err-place-clause-answer
unfolding salvage_known
returns-in_err-place-clause-answer g c =
    let p = err_from_is_err_and c.from_residual-in_err-place.result
    c.from_residual-in_err-place.ensures.1 in
    let sum = c.in-Ok.fault in
    let size = c.in_ok-size.size in
    let faults = c.tell.new.faults.items in
    let none : c.clear.new.self.items ≡ [] = search rules in
    let kept = rw none at c.in_ok-tell.ensures.told in
    let why = rw c.begin_segment-begin.ensures at c.in_err-place.ensures.answer in
    rw (p.1, p.2) (λ track.
    (let next = goes_read ebml_salvaged (behind_ebml track) _ _ sum (goes_none (salvage_known track) _ _) c.in-Ok.ensures.answer in
    let told = told_goes [] sum None (behind_told track) next faults (sym kept) in
    let entered = goes_read _ (segment_known track faults) _ _ size told c.in_ok-size.ensures.answer in
    made_refused fault.NoTracks Over NeverBegins (known_from track (segment_begun size) faults)
    (salvaged_as size) _ _ c.in_err-place.field-0.0 (λ b is. is) entered (why track)))

pub returns-in_err-place-clause-stopped : goal.returns-in_err-place-clause-stopped
returns-in_err-place-clause-stopped g c =
    let p = err_from_is_err_and c.from_residual-in_err-place.result
    c.from_residual-in_err-place.ensures.1 in
    let size = c.in_ok-size.size in
    let first = c.in-Ok.ensures.counted in
    let second = c.in_ok-size.ensures.from in
    let here = c.salvage_known-read.new.here in
    let stopped = rw c.begin_segment-begin.ensures at c.in_err-place.ensures.stopped in
    let passed : c.passed-told.result ≡ min (amount (segment_begun size) - amount here) (2 ^ 64 - 1) =
    rw c.begin_segment-begin.ensures at c.passed-told.ensures in
    rw (p.1, p.2) (λ track. inr (let from = stopped track in
    let left = from.2 (begun_flat size) in
    record {
      size = size;
      between = _;
      before = _;
      after = from.0;
      entered = reads_then (ebml_whole first.1) (whole_same second.1);
      goes = (InSegment (Some track) here, from.1);
      offset_is = c.saturating_add-noted.ensures ∙ rw (passed, second.2 first.0 first.2)
          (last_offset first.0 second.0 from.0 _ _ (2 ^ 64 - 1) left);
    }))

pub passed-told-requires : goal.passed-told-requires
passed-told-requires g c = c.salvage_known-read.ensures.within

pub returns-clause-answer : goal.returns-clause-answer
unfolding salvage_known
returns-clause-answer g c =
    let sum = c.in-Ok.fault in
    let size = c.in_ok-size.size in
    let faults = c.tell.new.faults.items in
    let none : c.clear.new.self.items ≡ [] = search rules in
    let kept = rw none at c.in_ok-tell.ensures.told in
    let read = rw c.begin_segment-begin.ensures at c.in_ok-place.ensures.answer in
    rw (c.passed-told.ensures, c.begin_segment-begin.ensures) (λ track.
    (let next = goes_read ebml_salvaged (behind_ebml track) _ _ sum (goes_none (salvage_known track) _ _) c.in-Ok.ensures.answer in
    let told = told_goes [] sum None (behind_told track) next faults (sym kept) in
    let entered = goes_read _ (segment_known track faults) _ _ size told c.in_ok-size.ensures.answer in
    made_read Over NeverBegins (known_from track (segment_begun size) faults) (salvaged_as size) _ _
    _ (λ b is. is) entered (read track)))

pub returns-clause-data : goal.returns-clause-data
returns-clause-data g c = data_known Over _ _ c.in-Ok.fault c.in_ok-size.size _ _ _ _ _ _ 0 0 c.in-Ok.ensures.counted
    c.in_ok-size.ensures.answer.1 c.in_ok-size.ensures.from (c.in_ok-place.ensures.answer any_track).1
