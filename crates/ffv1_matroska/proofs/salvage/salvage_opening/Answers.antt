-- Reads a file that may be damaged up to where its frames begin.
use Rattle.std.proofs.Common.{◌≡◌, ◌∙◌, ◌-◌, ◌^◌, ℕ, List, [], Option, None, min, refl, rules, sym}
use Rattle.std.proofs.lemmas.Result.{err_from_is_err_and}
use Rattle.ffv1_reads.specs.Reads.{Reading, ◌>>=◌}
use Rattle.ffv1_reads.specs.declared.fault.FileFault.{FileFault}
use Rattle.ffv1_reads.specs.declared.fault.FileFault.TheVariants as fault
use Rattle.ffv1_reads.proofs.EndFaults.{faults_refused, made_read, made_refused}
use Rattle.ffv1_reads.proofs.OffsetLaws.{reads_none, reads_then}
use Rattle.ffv1_reads.proofs.Reading.{goes_none, goes_read}
use Rattle.ffv1_reads.proofs.Rooms.{room_kept, room_then}
use Rattle.ffv1_matroska.specs.Internal.{track_kept}
use Rattle.ffv1_matroska.specs.Offsets.{BeforeSegment, InSegment, Start, spot_taken}
use Rattle.ffv1_matroska.specs.Opened.{Opened, begin_read, ebml_read, open_read, segment_opened, told}
use Rattle.ffv1_matroska.specs.Opening.{segment_begun, segment_entered}
use Rattle.ffv1_matroska.specs.Places.{amount}
use Rattle.ffv1_matroska.specs.Readers.{HasEnded}
use Rattle.ffv1_matroska.specs.SalvageStops.{salvaged_taken}
use Rattle.ffv1_matroska.specs.Salvaged.{NeverBegins, Salvaged, ebml_salvaged, salvage_from, salvage_read, salvaged_as, segment_salvaged, told_more}
use Rattle.ffv1_matroska.specs.Tracks.{Track}
use Rattle.ffv1_matroska.specs.declared.place.Place.{Place}
use Rattle.ffv1_matroska.specs.declared.told.ToldFault.{ToldFault}
use Rattle.ffv1_matroska.proofs.Beginnings.{Over as PlainOver}
use Rattle.ffv1_matroska.proofs.SalvagedOffsets.{data_known}
use Rattle.ffv1_matroska.proofs.SalvagedReadings.{Over, told_goes}
use Rattle.ffv1_matroska.proofs.SalvagePending.{ebml_tells, entered_tells, never_most, segment_tells}
use Rattle.ffv1_matroska.proofs.SalvagePlain.{ebml_counted, ebml_sound}
use Rattle.ffv1_matroska.proofs.SalvageSound.{none_more, none_too}
use Rattle.ffv1_matroska.proofs.SalvageSpots.{ebml_stops_there, ebml_whole, opening_same, stops_then, whole_same}
use Rattle.ffv1_matroska.proofs.ScaleWalks.{tick_known}
use Rattle.ffv1_matroska.proofs.SpotReadings.{begun_flat, ebml_refused, ebml_whole as plain_whole, entered_offset, frames_from}
use Rattle.ffv1_matroska.proofs.SpotReadings.{last_offset, opening_from, opening_stops}
use Rattle.ffv1_matroska.proofs.salvage.salvage_opening.Goals as goal

abbrev behind_told : List ToldFault → Reading Salvaged
behind_told faults = segment_entered >>= segment_salvaged faults

abbrev behind_ebml : Option FileFault → Reading Salvaged
behind_ebml f = told (told_more [] f None) >>= behind_told

abbrev made : Option ℕ → Track × Place → Opened
made size p = record { track = p.0; segment = size; place = p.1 }

abbrev behind : Unit {0} → Reading Opened
behind _ = segment_entered >>= segment_opened

-- ---- the header of EBML is refused

pub returns-in-Err-clause-answer : goal.returns-in-Err-clause-answer
unfolding salvage_read
returns-in-Err-clause-answer g c = faults_refused fault.NoTracks NeverBegins _ _ _ _ _
    (goes_none salvage_read _ _) c.in-Err.ensures.answer

pub returns-in-Err-clause-told : goal.returns-in-Err-clause-told
returns-in-Err-clause-told g c =
    let none : c.clear.new.self.items ≡ [] = search rules in
    ebml_tells _ _ c.salvage_ebml.new.other c.tell_pending.new.faults.items c.in-Err.ensures.other
    (rw none at c.tell_pending.ensures.too)

pub returns-in-Err-clause-stopped : goal.returns-in-Err-clause-stopped
returns-in-Err-clause-stopped g c =
    record {
      to = Start;
      count = 0;
      stops = record {
        between = _;
        before = reads_none salvaged_taken Start _;
        stops = ebml_stops_there _ _ _ _ c.in-Err.fault c.in-Err.ensures.answer;
      };
      offset_is = refl;
    }

pub returns-in-Err-clause-opens : goal.returns-in-Err-clause-opens
unfolding open_read
returns-in-Err-clause-opens g c = λ nothing.
    (let none : c.clear.new.self.items ≡ [] = search rules in
    let both = none_too [] c.salvage_ebml.new.other None (sym (rw none at c.tell_pending.ensures.too) ∙ nothing) in
    faults_refused fault.NoTracks HasEnded _ _ _ _ _ (goes_none open_read _ _) (c.in-Err.ensures.plain both.1))

pub returns-in-Err-clause-from : goal.returns-in-Err-clause-from
returns-in-Err-clause-from g c = λ nothing.
    (let none : c.clear.new.self.items ≡ [] = search rules in
    let both = none_too [] c.salvage_ebml.new.other None (sym (rw none at c.tell_pending.ensures.too) ∙ nothing) in (
      Start,
      0,
      opening_stops _ c.in-Err.fault refl (reads_none spot_taken Start _)
          (ebml_refused _ _ _ _ c.in-Err.fault (c.in-Err.ensures.plain both.1)),
      refl,
    ))

-- what is told of it is told

pub returns-in_err-tell : goal.returns-in_err-tell
returns-in_err-tell g c =
    let none : c.clear.new.self.items ≡ [] = search rules in
    let told = rw none at c.in_err-tell.ensures.told in
    never_most c.in-Ok.fault None c.in_err-tell.field-0.0 (sym told)

-- ---- what comes up to the Segment is refused

pub returns-in_err-size-clause-answer : goal.returns-in_err-size-clause-answer
unfolding salvage_read
returns-in_err-size-clause-answer g c =
    let p = err_from_is_err_and c.from_residual-in_err-size.result
    c.from_residual-in_err-size.ensures.1 in
    let sum = c.in-Ok.fault in
    let next = goes_read ebml_salvaged behind_ebml _ _ sum (goes_none salvage_read _ _) c.in-Ok.ensures.answer in
    let none : c.clear.new.self.items ≡ [] = search rules in
    let kept = rw none at c.in_ok-tell.ensures.told in
    let told = told_goes [] sum None behind_told next _ (sym kept) in
    rw (p.1, p.2) (faults_refused fault.NoTracks NeverBegins _ _ _ _ _ told c.in_err-size.ensures.answer)

pub returns-in_err-size-clause-told : goal.returns-in_err-size-clause-told
returns-in_err-size-clause-told g c =
    let p = err_from_is_err_and c.from_residual-in_err-size.result
    c.from_residual-in_err-size.ensures.1 in
    let none : c.clear.new.self.items ≡ [] = search rules in
    let kept = rw none at c.in_ok-tell.ensures.told in
    rw p.1 (entered_tells c.in-Ok.fault c.tell.new.faults.items (sym kept) _ _ _ _ _ c.in_err-size.field-0.0
    c.in-Ok.ensures.answer.1 c.in_err-size.ensures.answer)

pub returns-in_err-size-clause-stopped : goal.returns-in_err-size-clause-stopped
returns-in_err-size-clause-stopped g c =
    let p = err_from_is_err_and c.from_residual-in_err-size.result
    c.from_residual-in_err-size.ensures.1 in
    let first = c.in-Ok.ensures.counted in
    let from = c.in_err-size.ensures.from in
    rw (p.1, p.2) (record {
      to = BeforeSegment from.0;
      count = _;
      stops = stops_then (ebml_whole first.1) (opening_same from.2);
      offset_is = from.3 first.0 first.2 ∙ entered_offset first.0 from.1 (2 ^ 64 - 1);
    })

pub returns-in_err-size-clause-opens : goal.returns-in_err-size-clause-opens
unfolding open_read
returns-in_err-size-clause-opens g c =
    let p = err_from_is_err_and c.from_residual-in_err-size.result
    c.from_residual-in_err-size.ensures.1 in
    let none : c.clear.new.self.items ≡ [] = search rules in
    let kept = rw none at c.in_ok-tell.ensures.told in
    rw (p.1, p.2) (λ nothing.
    (let sum = none_more [] c.tell.new.faults.items c.in-Ok.fault None (sym kept) nothing in
    let plain = ebml_sound (rw sum.1 at c.in-Ok.ensures.answer.1) in
    faults_refused fault.NoTracks HasEnded _ _ _ _ _
    (goes_read ebml_read behind _ _ _ (goes_none open_read _ _) (c.in-Ok.ensures.answer.0, plain))
    c.in_err-size.ensures.answer))

pub returns-in_err-size-clause-from : goal.returns-in_err-size-clause-from
returns-in_err-size-clause-from g c =
    let p = err_from_is_err_and c.from_residual-in_err-size.result
    c.from_residual-in_err-size.ensures.1 in
    let none : c.clear.new.self.items ≡ [] = search rules in
    let kept = rw none at c.in_ok-tell.ensures.told in
    let first = c.in-Ok.ensures.counted in
    let from = c.in_err-size.ensures.from in
    rw (p.1, p.2) (λ nothing.
    (let sum = none_more [] c.tell.new.faults.items c.in-Ok.fault None (sym kept) nothing in
    let plain = ebml_counted (rw sum.1 at first.1) in (
      BeforeSegment from.0,
      _,
      opening_from c.in-Ok.ensures.answer.0 (plain_whole plain) from.2,
      from.3 first.0 first.2 ∙ entered_offset first.0 from.1 (2 ^ 64 - 1),
    )))

-- ---- the Segment is refused

pub returns-in_err-numbers-clause-answer : goal.returns-in_err-numbers-clause-answer
unfolding salvage_read
returns-in_err-numbers-clause-answer g c =
    let p = err_from_is_err_and c.from_residual-in_err-numbers.result
    c.from_residual-in_err-numbers.ensures.1 in
    let sum = c.in-Ok.fault in
    let size = c.in_ok-size.size in
    let faults = c.tell.new.faults.items in
    let next = goes_read ebml_salvaged behind_ebml _ _ sum (goes_none salvage_read _ _) c.in-Ok.ensures.answer in
    let none : c.clear.new.self.items ≡ [] = search rules in
    let kept = rw none at c.in_ok-tell.ensures.told in
    let told = told_goes [] sum None behind_told next faults (sym kept) in
    let entered = goes_read _ (segment_salvaged faults) _ _ size told c.in_ok-size.ensures.answer in
    let why = rw c.begin_segment-begin.ensures at c.in_err-numbers.ensures.answer in
    rw (p.1, p.2) (made_refused fault.NoTracks Over NeverBegins (salvage_from (segment_begun size) faults)
    (salvaged_as size) _ _ c.in_err-numbers.field-0.0 (λ b is. is) entered why)

pub returns-in_err-numbers-clause-told : goal.returns-in_err-numbers-clause-told
returns-in_err-numbers-clause-told g c =
    let p = err_from_is_err_and c.from_residual-in_err-numbers.result
    c.from_residual-in_err-numbers.ensures.1 in
    let none : c.clear.new.self.items ≡ [] = search rules in
    let kept = rw none at c.in_ok-tell.ensures.told in
    let first = c.in-Ok.ensures.counted in
    let second = c.in_ok-size.ensures.counted in
    let told = rw c.begin_segment-begin.ensures at c.in_err-numbers.ensures.told in
    rw p.1 (segment_tells c.in-Ok.fault c.tell.new.faults.items (sym kept) _ _ _ _ c.in_ok-size.size first.0 second.0 _
    c.salvage_segment-read.new.faults.items first.1 second.1 (second.2 first.0 first.2) told)

pub returns-in_err-numbers-clause-stopped : goal.returns-in_err-numbers-clause-stopped
returns-in_err-numbers-clause-stopped g c =
    let p = err_from_is_err_and c.from_residual-in_err-numbers.result
    c.from_residual-in_err-numbers.ensures.1 in
    let size = c.in_ok-size.size in
    let first = c.in-Ok.ensures.counted in
    let second = c.in_ok-size.ensures.from in
    let here = c.salvage_segment-read.new.here in
    let from = rw c.begin_segment-begin.ensures at c.in_err-numbers.ensures.stopped in
    let left = from.3 (begun_flat size) in
    let passed : c.passed-told.result ≡ min (amount (segment_begun size) - amount here) (2 ^ 64 - 1) =
    rw c.begin_segment-begin.ensures at c.passed-told.ensures in
    rw (p.1, p.2) (record {
      to = InSegment from.0 here;
      count = _;
      stops = stops_then (reads_then (ebml_whole first.1) (whole_same second.1)) from.2;
      offset_is = c.saturating_add-noted.ensures ∙ rw (passed, second.2 first.0 first.2)
          (last_offset first.0 second.0 from.1 _ _ (2 ^ 64 - 1) left);
    })

pub returns-in_err-numbers-clause-opens : goal.returns-in_err-numbers-clause-opens
unfolding open_read
returns-in_err-numbers-clause-opens g c =
    let p = err_from_is_err_and c.from_residual-in_err-numbers.result
    c.from_residual-in_err-numbers.ensures.1 in
    let size = c.in_ok-size.size in
    let none : c.clear.new.self.items ≡ [] = search rules in
    let kept = rw none at c.in_ok-tell.ensures.told in
    rw (p.1, p.2) (λ nothing.
    (let sum = none_more [] c.tell.new.faults.items c.in-Ok.fault None (sym kept) (c.salvage_segment-read.ensures.sooner nothing) in
    let plain = ebml_sound (rw sum.1 at c.in-Ok.ensures.answer.1) in
    let next = goes_read ebml_read behind _ _ _ (goes_none open_read _ _) (c.in-Ok.ensures.answer.0, plain) in
    let entered = goes_read _ segment_opened _ _ size next c.in_ok-size.ensures.answer in
    let why = rw c.begin_segment-begin.ensures at (c.in_err-numbers.ensures.opens nothing) in
    made_refused fault.NoTracks PlainOver HasEnded (begin_read (segment_begun size))
    (made size) _ _ c.in_err-numbers.field-0.0 (λ p is. is) entered why))

pub returns-in_err-numbers-clause-from : goal.returns-in_err-numbers-clause-from
returns-in_err-numbers-clause-from g c =
    let p = err_from_is_err_and c.from_residual-in_err-numbers.result
    c.from_residual-in_err-numbers.ensures.1 in
    let size = c.in_ok-size.size in
    let none : c.clear.new.self.items ≡ [] = search rules in
    let kept = rw none at c.in_ok-tell.ensures.told in
    let first = c.in-Ok.ensures.counted in
    let second = c.in_ok-size.ensures.from in
    let here = c.salvage_segment-read.new.here in
    let same = c.in_ok-size.ensures.answer.0 ∙ c.in-Ok.ensures.answer.0 in
    let passed : c.passed-told.result ≡ min (amount (segment_begun size) - amount here) (2 ^ 64 - 1) =
    rw c.begin_segment-begin.ensures at c.passed-told.ensures in
    rw (p.1, p.2) (λ nothing.
    (let sum = none_more [] c.tell.new.faults.items c.in-Ok.fault None (sym kept) (c.salvage_segment-read.ensures.sooner nothing) in
    let plain = ebml_counted (rw sum.1 at first.1) in
    let from = rw c.begin_segment-begin.ensures at (c.in_err-numbers.ensures.from nothing) in
    let left = from.3 (begun_flat size) in (
      InSegment from.0 here,
      _,
      opening_from same (reads_then (plain_whole plain) second.1) from.2,
      c.saturating_add-noted.ensures ∙ rw (passed, second.2 first.0 first.2)
          (last_offset first.0 second.0 from.1 _ _ (2 ^ 64 - 1) left),
    )))

-- ---- its frames begin

pub passed-told-requires : goal.passed-told-requires
passed-told-requires g c = c.salvage_segment-read.ensures.within

pub returns-clause-answer : goal.returns-clause-answer
unfolding salvage_read
returns-clause-answer g c =
    let sum = c.in-Ok.fault in
    let size = c.in_ok-size.size in
    let faults = c.tell.new.faults.items in
    let next = goes_read ebml_salvaged behind_ebml _ _ sum (goes_none salvage_read _ _) c.in-Ok.ensures.answer in
    let none : c.clear.new.self.items ≡ [] = search rules in
    let kept = rw none at c.in_ok-tell.ensures.told in
    let told = told_goes [] sum None behind_told next faults (sym kept) in
    let entered = goes_read _ (segment_salvaged faults) _ _ size told c.in_ok-size.ensures.answer in
    let read = rw c.begin_segment-begin.ensures at c.in_ok-numbers.ensures.answer in
    rw (c.passed-told.ensures, c.begin_segment-begin.ensures) (made_read Over NeverBegins (salvage_from (segment_begun size) faults) (salvaged_as size) _ _
    _ (λ b is. is) entered read)

pub returns-clause-grown : goal.returns-clause-grown
returns-clause-grown g c = room_then (room_kept _ c.in-Ok.ensures.answer.1)
    (room_then (room_kept _ c.in_ok-size.ensures.answer.1) c.in_ok-numbers.ensures.grown)

pub returns-clause-data : goal.returns-clause-data
returns-clause-data g c = data_known Over _ _ c.in-Ok.fault c.in_ok-size.size _ _ _ _ _ _ 0 0 c.in-Ok.ensures.counted
    c.in_ok-size.ensures.answer.1 c.in_ok-size.ensures.from c.in_ok-numbers.ensures.answer.1

pub returns-clause-opens : goal.returns-clause-opens
unfolding open_read
returns-clause-opens g c = λ nothing.
    (let size = c.in_ok-size.size in
    let none : c.clear.new.self.items ≡ [] = search rules in
    let kept = rw none at c.in_ok-tell.ensures.told in
    let sum = none_more [] c.tell.new.faults.items c.in-Ok.fault None (sym kept) (c.salvage_segment-read.ensures.sooner nothing) in
    let plain = ebml_sound (rw sum.1 at c.in-Ok.ensures.answer.1) in
    let next = goes_read ebml_read behind _ _ _ (goes_none open_read _ _) (c.in-Ok.ensures.answer.0, plain) in
    let entered = goes_read _ segment_opened _ _ size next c.in_ok-size.ensures.answer in
    let read = rw c.begin_segment-begin.ensures at (c.in_ok-numbers.ensures.opens nothing) in
    made_read PlainOver HasEnded (begin_read (segment_begun size)) (made size) _ _ (
      track_kept c.in_ok-numbers.numbers c.salvage_segment-read.new.config.items,
      c.in_ok-numbers.place,
    ) (λ p is. is) entered read)

pub returns-clause-from : goal.returns-clause-from
returns-clause-from g c = λ nothing.
    (let size = c.in_ok-size.size in
    let none : c.clear.new.self.items ≡ [] = search rules in
    let kept = rw none at c.in_ok-tell.ensures.told in
    let sum = none_more [] c.tell.new.faults.items c.in-Ok.fault None (sym kept) (c.salvage_segment-read.ensures.sooner nothing) in
    let first = c.in-Ok.ensures.counted in
    let plain = ebml_counted (rw sum.1 at first.1) in
    let second = c.in_ok-size.ensures.from in
    let here = c.salvage_segment-read.new.here in
    let from = rw c.begin_segment-begin.ensures at (c.in_ok-numbers.ensures.from nothing) in
    let left = from.2 (begun_flat size) in
    let passed : c.passed-told.result ≡ min (amount (segment_begun size) - amount here) (2 ^ 64 - 1) =
    rw c.begin_segment-begin.ensures at c.passed-told.ensures in (
      _,
      frames_from 0 0 0 _ _ (reads_then (plain_whole plain) second.1) from.1,
      c.saturating_add-noted.ensures
          ∙ rw (passed, second.2 first.0 first.2) (last_offset first.0 second.0 from.0 _ _ (2 ^ 64 - 1)
          left),
    ))

pub returns-clause-tick : goal.returns-clause-tick
returns-clause-tick g c = λ nothing.
    (let size = c.in_ok-size.size in
    let none : c.clear.new.self.items ≡ [] = search rules in
    let kept = rw none at c.in_ok-tell.ensures.told in
    let sum = none_more [] c.tell.new.faults.items c.in-Ok.fault None (sym kept) (c.salvage_segment-read.ensures.sooner nothing) in
    let plain = ebml_sound (rw sum.1 at c.in-Ok.ensures.answer.1) in
    let scale = rw c.begin_segment-begin.ensures at (c.in_ok-numbers.ensures.tick nothing) in
    tick_known size _ _ _ _ _ plain c.in_ok-size.ensures.answer.1 scale)
