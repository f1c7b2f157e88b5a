-- Reads a file from its beginning up to the end of its first Tracks, wherever these stand.
use Rattle.std.proofs.Common.{◌≡◌, ◌-◌, ◌^◌, ◌∙◌, ℕ, min, Option, Ok, Err, inl, inr, refl}
use Rattle.std.proofs.lemmas.Result.{err_from_is_err_and}
use Rattle.ffv1_reads.specs.Reads.{Reading, ◌>>=◌}
use Rattle.ffv1_reads.specs.declared.fault.FileFault.{FileFault}
use Rattle.ffv1_reads.specs.declared.fault.FileFault.TheVariants as fault
use Rattle.ffv1_reads.proofs.EndFaults.{faults_refused}
use Rattle.ffv1_reads.proofs.OffsetLaws.{reads_none, reads_then}
use Rattle.ffv1_reads.proofs.Reading.{goes_none, goes_read}
use Rattle.ffv1_reads.proofs.Rooms.{room_kept, room_then}
use Rattle.ffv1_matroska.specs.Internal.{track_kept}
use Rattle.ffv1_matroska.specs.SalvagedLate.{salvage_track, salvage_sought}
use Rattle.ffv1_matroska.specs.Offsets.{BeforeSegment, Start}
use Rattle.ffv1_matroska.specs.SalvageStops.{salvaged_taken}
use Rattle.ffv1_matroska.specs.Salvaged.{ebml_salvaged}
use Rattle.ffv1_matroska.specs.Opening.{segment_begun, segment_entered}
use Rattle.ffv1_matroska.specs.Places.{amount}
use Rattle.ffv1_matroska.specs.Tracks.{Track}
use Rattle.ffv1_matroska.proofs.SoughtReadings.{Found, found_last}
use Rattle.ffv1_matroska.proofs.SoughtSalvaged.{seek_from, seek_within}
use Rattle.ffv1_matroska.proofs.SalvageSpots.{ebml_stops_there, ebml_whole, opening_same, stops_then, whole_same}
use Rattle.ffv1_matroska.proofs.SpotReadings.{begun_flat, entered_offset, last_offset}
use Rattle.ffv1_matroska.proofs.late_salvage.find_salvaged.Goals as goal

abbrev sought : Option ℕ → Reading Track
sought size = salvage_sought (segment_begun size)

abbrev behind : Option FileFault → Reading Track
behind _ = segment_entered >>= sought

pub returns-in_err-salvage_ebml-clause-answer : goal.returns-in_err-salvage_ebml-clause-answer
unfolding salvage_track
returns-in_err-salvage_ebml-clause-answer g c =
    let p = err_from_is_err_and c.from_residual.result c.from_residual.ensures.1 in
    rw (p.1, p.2) (faults_refused fault.NoTracks Found ebml_salvaged behind _ _ _
    (goes_none salvage_track _ _) c.in_err-salvage_ebml.ensures.answer)

pub returns-in_err-size-clause-answer : goal.returns-in_err-size-clause-answer
unfolding salvage_track
returns-in_err-size-clause-answer g c =
    let p = err_from_is_err_and c.from_residual-in_err-size.result
    c.from_residual-in_err-size.ensures.1 in
    rw (p.1, p.2) (faults_refused fault.NoTracks Found segment_entered sought _ _ _
    (goes_read ebml_salvaged behind _ _ _ (goes_none salvage_track _ _) c.in_ok-salvage_ebml.ensures.answer)
    c.in_err-size.ensures.answer)

pub returns-in_err-numbers-clause-answer : goal.returns-in_err-numbers-clause-answer
unfolding salvage_track
returns-in_err-numbers-clause-answer g c =
    let p = err_from_is_err_and c.from_residual-in_err-numbers.result
    c.from_residual-in_err-numbers.ensures.1 in
    let size = c.in_ok-size.size in
    let next = goes_read ebml_salvaged behind _ _ _ (goes_none salvage_track _ _)
    c.in_ok-salvage_ebml.ensures.answer in
    let entered = goes_read segment_entered sought _ _ size next c.in_ok-size.ensures.answer in
    let why = rw c.begin_segment-begin.ensures at c.in_err-numbers.ensures.answer in
    rw (p.1, p.2) (found_last (sought size) (λ (t : Track). t) _ _
    (Err c.in_err-numbers.field-0.0) entered why)

pub passed-requires : goal.passed-requires
passed-requires g c =
    let size = c.in_ok-size.size in
    let from = rw c.begin_segment-begin.ensures at c.seek_salvaged-found.ensures.from in
    rw c.begin_segment-begin.ensures (seek_within (segment_begun size) _
    c.seek_salvaged-found.result _ (begun_flat size) from)

pub returns-clause-answer : goal.returns-clause-answer
unfolding salvage_track
returns-clause-answer g c =
    let size = c.in_ok-size.size in
    let next = goes_read ebml_salvaged behind _ _ _ (goes_none salvage_track _ _)
    c.in_ok-salvage_ebml.ensures.answer in
    let entered = goes_read segment_entered sought _ _ size next c.in_ok-size.ensures.answer in
    let read = rw c.begin_segment-begin.ensures at c.in_ok-numbers.ensures.answer in
    found_last (sought size) (λ (t : Track). t) _ _
    (Ok (track_kept c.in_ok-numbers.numbers c.seek_salvaged-found.new.config.items)) entered read

pub returns-clause-grown : goal.returns-clause-grown
returns-clause-grown g c = room_then (room_kept _ c.in_ok-salvage_ebml.ensures.answer.1)
    (room_then (room_kept _ c.in_ok-size.ensures.answer.1) c.in_ok-numbers.ensures.grown)

pub returns-in_err-salvage_ebml-clause-from : goal.returns-in_err-salvage_ebml-clause-from
returns-in_err-salvage_ebml-clause-from g c =
    let p = err_from_is_err_and c.from_residual.result c.from_residual.ensures.1 in
    let f = c.in_err-salvage_ebml.field-0.0 in
    rw (p.1, p.2) (inl (record {
      to = Start;
      count = 0;
      stops = record {
        between = _;
        before = reads_none salvaged_taken Start _;
        stops = ebml_stops_there _ _ _ _ f c.in_err-salvage_ebml.ensures.answer;
      };
      offset_is = refl;
    }))

pub returns-in_err-size-clause-from : goal.returns-in_err-size-clause-from
returns-in_err-size-clause-from g c =
    let p = err_from_is_err_and c.from_residual-in_err-size.result
    c.from_residual-in_err-size.ensures.1 in
    let first = c.in_ok-salvage_ebml.ensures.counted in
    let from = c.in_err-size.ensures.from in
    rw (p.1, p.2) (inl (record {
      to = BeforeSegment from.0;
      count = _;
      stops = stops_then (ebml_whole first.1) (opening_same from.2);
      offset_is = from.3 first.0 first.2 ∙ entered_offset first.0 from.1 (2 ^ 64 - 1);
    }))

pub returns-in_err-numbers-clause-from : goal.returns-in_err-numbers-clause-from
returns-in_err-numbers-clause-from g c =
    let p = err_from_is_err_and c.from_residual-in_err-numbers.result
    c.from_residual-in_err-numbers.ensures.1 in
    let size = c.in_ok-size.size in
    let first = c.in_ok-salvage_ebml.ensures.counted in
    let second = c.in_ok-size.ensures.from in
    let here = c.seek_salvaged-found.new.here in
    let from = rw c.begin_segment-begin.ensures at c.in_err-numbers.ensures.from in
    let same = c.in_ok-size.ensures.answer.0 ∙ c.in_ok-salvage_ebml.ensures.answer.0 in
    let left = from.2 (begun_flat size) in
    let passed : c.passed.result ≡ min (amount (segment_begun size) - amount here) (2 ^ 64 - 1) =
    rw c.begin_segment-begin.ensures at c.passed.ensures in
    rw (p.1, p.2) (inr (record {
      size = size;
      between = _;
      before = _;
      after = from.0;
      entered = reads_then (ebml_whole first.1) (whole_same second.1);
      goes = (here, seek_from same from.1);
      offset_is = c.saturating_add-noted.ensures ∙ rw (passed, second.2 first.0 first.2)
          (last_offset first.0 second.0 from.0 _ _ (2 ^ 64 - 1) left);
    }))
