-- Reads a file from its beginning up to where the frames of a track begin, whose record the vector
-- `config` has.
use Rattle.std.proofs.Common.{◌≡◌, ◌-◌, ◌^◌, ◌∙◌, ℕ, min, Option, Some, inl, inr, refl}
use Rattle.std.proofs.lemmas.Result.{err_from_is_err_and}
use Rattle.ffv1_reads.specs.Reads.{Reading, ◌>>=◌}
use Rattle.ffv1_reads.specs.declared.fault.FileFault.TheVariants as fault
use Rattle.ffv1_reads.proofs.EndFaults.{faults_refused, made_read, made_refused}
use Rattle.ffv1_reads.proofs.OffsetLaws.{reads_none, reads_then}
use Rattle.ffv1_reads.proofs.Reading.{goes_none, goes_read}
use Rattle.ffv1_reads.proofs.Rooms.{room_kept, room_then}
use Rattle.ffv1_matroska.specs.Internal.{track_kept}
use Rattle.ffv1_matroska.specs.Late.{reopened, segment_reopened}
use Rattle.ffv1_matroska.specs.Offsets.{BeforeSegment, InSegment, Start, spot_taken}
use Rattle.ffv1_matroska.specs.Opened.{Opened, begin_from, ebml_read}
use Rattle.ffv1_matroska.specs.Opening.{segment_begun, segment_entered}
use Rattle.ffv1_matroska.specs.Places.{amount}
use Rattle.ffv1_matroska.specs.Readers.{HasEnded}
use Rattle.ffv1_matroska.specs.Tracks.{Track}
use Rattle.ffv1_matroska.specs.declared.place.Place.{Place}
use Rattle.ffv1_matroska.proofs.Beginnings.{Over}
use Rattle.ffv1_matroska.proofs.SoughtReadings.{known_from}
use Rattle.ffv1_matroska.proofs.SpotReadings.{begins_within, begun_flat, ebml_refused, ebml_whole}
use Rattle.ffv1_matroska.proofs.SpotReadings.{entered_offset, last_offset, opening_from}
use Rattle.ffv1_matroska.proofs.SpotReadings.{opening_stops}
use Rattle.ffv1_matroska.proofs.ScaleWalks.{tick_known}
use Rattle.ffv1_matroska.proofs.late.reopen.Goals as goal

abbrev made : Option ℕ → Track × Place → Opened
made size p = record { track = p.0; segment = size; place = p.1 }

abbrev behind : Track → Unit {0} → Reading Opened
behind track _ = segment_entered >>= segment_reopened track

pub returns-in_err-read_ebml-clause-answer : goal.returns-in_err-read_ebml-clause-answer
unfolding reopened
returns-in_err-read_ebml-clause-answer g c =
    let p = err_from_is_err_and c.from_residual.result c.from_residual.ensures.1 in
    let track = track_kept c.args.known c.args.config.now.items in
    rw (p.1, p.2) (faults_refused fault.NoTracks HasEnded ebml_read (behind track) _ _ _
    (goes_none (reopened track) _ _) c.in_err-read_ebml.ensures.answer)

pub returns-in_err-size-clause-answer : goal.returns-in_err-size-clause-answer
unfolding reopened
returns-in_err-size-clause-answer g c =
    let p = err_from_is_err_and c.from_residual-in_err-size.result
    c.from_residual-in_err-size.ensures.1 in
    let track = track_kept c.args.known c.args.config.now.items in
    rw (p.1, p.2) (faults_refused fault.NoTracks HasEnded segment_entered (segment_reopened track)
    _ _ _ (goes_read ebml_read (behind track) _ _ _ (goes_none (reopened track) _ _)
    c.in_ok-read_ebml.ensures.answer) c.in_err-size.ensures.answer)

pub returns-in_err-numbers-clause-answer : goal.returns-in_err-numbers-clause-answer
unfolding reopened
returns-in_err-numbers-clause-answer g c =
    let p = err_from_is_err_and c.from_residual-in_err-numbers.result
    c.from_residual-in_err-numbers.ensures.1 in
    let track = track_kept c.args.known c.args.config.now.items in
    let size = c.in_ok-size.size in
    let next = goes_read ebml_read (behind track) _ _ _ (goes_none (reopened track) _ _)
    c.in_ok-read_ebml.ensures.answer in
    let entered = goes_read segment_entered (segment_reopened track) _ _ size next
    c.in_ok-size.ensures.answer in
    let why = rw c.begin_segment-begin.ensures at c.in_err-numbers.ensures.answer in
    rw (p.1, p.2) (made_refused fault.NoTracks Over HasEnded
    (begin_from (Some track) (segment_begun size)) (made size) _ _ c.in_err-numbers.field-0.0
    (λ p is. is) entered why)

pub passed-requires : goal.passed-requires
passed-requires g c =
    let size = c.in_ok-size.size in
    let from = rw c.begin_segment-begin.ensures at c.read_beginning-read.ensures.from in
    rw c.begin_segment-begin.ensures (begins_within
    (Some (track_kept c.args.known c.args.config.now.items)) (segment_begun size) _ _
    c.read_beginning-read.result _ (begun_flat size) from)

pub returns-clause-answer : goal.returns-clause-answer
unfolding reopened
returns-clause-answer g c =
    let track = track_kept c.args.known c.args.config.now.items in
    let size = c.in_ok-size.size in
    let next = goes_read ebml_read (behind track) _ _ _ (goes_none (reopened track) _ _)
    c.in_ok-read_ebml.ensures.answer in
    let entered = goes_read segment_entered (segment_reopened track) _ _ size next
    c.in_ok-size.ensures.answer in
    let read = rw c.begin_segment-begin.ensures at c.in_ok-numbers.ensures.answer in
    made_read Over HasEnded (begin_from (Some track) (segment_begun size)) (made size) _ _ (
      track_kept c.in_ok-numbers.numbers c.read_beginning-read.new.config.items,
      c.in_ok-numbers.place,
    ) (λ p is. is) entered read

pub returns-clause-grown : goal.returns-clause-grown
returns-clause-grown g c = room_then (room_kept _ c.in_ok-read_ebml.ensures.answer.1)
    (room_then (room_kept _ c.in_ok-size.ensures.answer.1) c.in_ok-numbers.ensures.grown)

pub returns-in_err-read_ebml-clause-from : goal.returns-in_err-read_ebml-clause-from
returns-in_err-read_ebml-clause-from g c =
    let p = err_from_is_err_and c.from_residual.result c.from_residual.ensures.1 in
    let f = c.in_err-read_ebml.field-0.0 in
    rw (p.1, p.2) (inl (
      Start,
      0,
      opening_stops _ f refl (reads_none spot_taken Start _)
          (ebml_refused _ _ _ _ f c.in_err-read_ebml.ensures.answer),
      refl,
    ))

pub returns-in_err-size-clause-from : goal.returns-in_err-size-clause-from
returns-in_err-size-clause-from g c =
    let p = err_from_is_err_and c.from_residual-in_err-size.result
    c.from_residual-in_err-size.ensures.1 in
    let first = c.in_ok-read_ebml.ensures.counted in
    let from = c.in_err-size.ensures.from in
    rw (p.1, p.2) (inl (
      BeforeSegment from.0,
      _,
      opening_from c.in_ok-read_ebml.ensures.answer.0 (ebml_whole first.1) from.2,
      from.3 first.0 first.2 ∙ entered_offset first.0 from.1 (2 ^ 64 - 1),
    ))

pub returns-in_err-numbers-clause-from : goal.returns-in_err-numbers-clause-from
returns-in_err-numbers-clause-from g c =
    let p = err_from_is_err_and c.from_residual-in_err-numbers.result
    c.from_residual-in_err-numbers.ensures.1 in
    let track = track_kept c.args.known c.args.config.now.items in
    let size = c.in_ok-size.size in
    let first = c.in_ok-read_ebml.ensures.counted in
    let second = c.in_ok-size.ensures.from in
    let here = c.read_beginning-read.new.here in
    let from = rw c.begin_segment-begin.ensures at c.in_err-numbers.ensures.from in
    let same = c.in_ok-size.ensures.answer.0 ∙ c.in_ok-read_ebml.ensures.answer.0 in
    let left = from.3 (begun_flat size) in
    let passed : c.passed.result ≡ min (amount (segment_begun size) - amount here) (2 ^ 64 - 1) =
    rw c.begin_segment-begin.ensures at c.passed.ensures in
    rw (p.1, p.2) (inr (record {
      size = size;
      between = _;
      before = _;
      after = from.1;
      entered = reads_then (ebml_whole first.1) second.1;
      goes = (track, InSegment from.0 here, known_from same from.2);
      offset_is = c.saturating_add.ensures ∙ rw (passed, second.2 first.0 first.2)
          (last_offset first.0 second.0 from.1 _ _ (2 ^ 64 - 1) left);
    }))

pub returns-clause-from : goal.returns-clause-from
returns-clause-from g c =
    let track = track_kept c.args.known c.args.config.now.items in
    let size = c.in_ok-size.size in
    let first = c.in_ok-read_ebml.ensures.counted in
    let second = c.in_ok-size.ensures.from in
    let here = c.read_beginning-read.new.here in
    let from = rw c.begin_segment-begin.ensures at c.in_ok-numbers.ensures.from in
    let left = from.2 (begun_flat size) in
    let passed : c.passed.result ≡ min (amount (segment_begun size) - amount here) (2 ^ 64 - 1) =
    rw c.begin_segment-begin.ensures at c.passed.ensures in
    record {
      size = size;
      between = _;
      before = _;
      after = from.0;
      entered = reads_then (ebml_whole first.1) second.1;
      goes = (track, from.1);
      offset_is = c.saturating_add.ensures ∙ rw (passed, second.2 first.0 first.2)
          (last_offset first.0 second.0 from.0 _ _ (2 ^ 64 - 1) left);
    }

pub returns-clause-tick : goal.returns-clause-tick
returns-clause-tick g c =
    let size = c.in_ok-size.size in
    let scale = rw c.begin_segment-begin.ensures at c.in_ok-numbers.ensures.scale in
    tick_known size _ _ _ _ _ c.in_ok-read_ebml.ensures.answer.1 c.in_ok-size.ensures.answer.1 scale
