-- Reads a file that may be damaged up to where its frames begin.
use Rattle.std.proofs.Common.{◌≡◌, ◌∙◌, [], IfErr, IfOk, map, true, false, refl, inl, inr, sym, rules, arith}
use Rattle.ffv1_wire.specs.Passage.{between, passage}
use Rattle.ffv1_matroska.specs.Readers.{opened_at}
use Rattle.ffv1_files.specs.Again.{StopsAgain, lacks_tracks}
use Rattle.ffv1_files.specs.Endings.{opening_endings}
use Rattle.ffv1_files.specs.Files.{once_read}
use Rattle.ffv1_files.specs.Readers.{opened_at as file_opened}
use Rattle.ffv1_files.specs.declared.container.Scope.TheVariants.{Whole}
use Rattle.ffv1_files.proofs.AgainOpenings.{call_opens, call_reached, call_stays, call_stops}
use Rattle.ffv1_files.proofs.AgainOpenings.{late_counted}
use Rattle.ffv1_files.specs.Salvaged.{RefusedLate, Salvages, given_told}
use Rattle.ffv1_files.proofs.LateTelling.{moved_late, refused_late}
use Rattle.ffv1_files.proofs.Locations.{in_matroska}
use Rattle.ffv1_files.proofs.NotedOpenings.{opens_noted}
use Rattle.ffv1_files.proofs.NotedStreams.{segment_streams}
use Rattle.ffv1_files.proofs.Openings.{once_opens}
use Rattle.ffv1_files.proofs.SalvagedOpenings.{again_counted, again_plainly, refused_again}
use Rattle.ffv1_files.proofs.ToldLists.{never_telling, none_told, some_told}
use Rattle.ffv1_files.proofs.reader.FileReader.open_told.Goals as goal

-- ---- it is read once

pub returns-in-Ok-clause-answer : goal.returns-in-Ok-clause-answer
returns-in-Ok-clause-answer g c = λ plain. once_opens Whole (passage g.R.ByteIn.remaining
    g.R.ByteIn.failures c.args.input.now c.tell_once-answer.new.input) (file_opened c.in-Ok.reader)
    (c.in-Ok.ensures.answer (rw c.as_slice.ensures.value at c.way_once.ensures.none plain))

pub returns-in-Ok-clause-noted : goal.returns-in-Ok-clause-noted
returns-in-Ok-clause-noted g c = λ plain.
    (let done = c.in-Ok.ensures in
    let none : c.tell_once-answer.new.told.faults.items ≡ [] = rw c.as_slice.ensures.value at c.way_once.ensures.none plain in
    let answer = once_opens Whole (passage g.R.ByteIn.remaining
    g.R.ByteIn.failures c.args.input.now c.tell_once-answer.new.input) (file_opened c.in-Ok.reader)
    (done.answer none) in
    opens_noted Whole _ _ c.in-Ok.reader answer.1 (done.located none) done.ends done.uncued done.untold
    done.shut done.least done.uncounted (done.streams none) (done.times none))

pub returns-then-not-lacks_tracks-clause-stopped : goal.returns-then-not-lacks_tracks-clause-stopped
returns-then-not-lacks_tracks-clause-stopped g c = λ plain.
    c.in-Err.ensures.stopped (rw c.as_slice.ensures.value at c.way_once.ensures.none plain)

pub returns-in_default-clause-stopped : goal.returns-in_default-clause-stopped
returns-in_default-clause-stopped g c = λ plain.
    c.in-Err.ensures.stopped (rw c.as_slice.ensures.value at c.way_once.ensures.none plain)

-- ---- something was told

pub tell_late-requires : goal.tell_late-requires
tell_late-requires g c = record { room = c.tell_once-answer.ensures.held }

pub returns-then-not-is_empty-clause-late : goal.returns-then-not-is_empty-clause-late
returns-then-not-is_empty-clause-late g c = λ late.
    again_plainly (g.R.ByteIn.remaining c.args.input.now) (c.in-Err.ensures.plainly
    (some_told c.tell_once-answer.new.told.faults _ c.is_empty.ensures c.if-not-is_empty.true))

-- ---- nothing was told, and it is read again plainly

pub returns-in-Ok-open_again-clause-answer : goal.returns-in-Ok-open_again-clause-answer
returns-in-Ok-open_again-clause-answer g c = λ plain.
    (let none : c.tell_once-answer.new.told.faults.items ≡ [] = none_told c.tell_once-answer.new.told.faults _ c.is_empty.ensures c.if-not-is_empty.false in
    let late : lacks_tracks c.in-Err.fault ≡ true = search rules in
    let counted = late_counted (opening_endings Whole) (once_read Whole) _ c.in-Err.fault late
    (c.in-Err.ensures.answer none) in
    call_opens _ _ _ _ _ _ _ c.in-Some.ensures.there counted (c.in-Err.ensures.late none late)
    (opened_at c.in-Ok-open_again.reader) c.in-Ok-open_again.ensures.answer)

pub returns-in-Ok-open_again-clause-located : goal.returns-in-Ok-open_again-clause-located
returns-in-Ok-open_again-clause-located g c = λ plain.
    (let none : c.tell_once-answer.new.told.faults.items ≡ [] = none_told c.tell_once-answer.new.told.faults _ c.is_empty.ensures c.if-not-is_empty.false in
    let late : lacks_tracks c.in-Err.fault ≡ true = search rules in
    let counted = late_counted (opening_endings Whole) (once_read Whole) _ c.in-Err.fault late
    (c.in-Err.ensures.answer none) in
    call_reached _ _ (g.R.ByteIn.remaining c.tell_once-answer.new.input) _ _ _
    (g.R.ByteIn.failures c.open_again.new.input) c.in-Some.ensures.there counted
    c.in-Ok-open_again.reader c.open_again.new.offset c.in-Ok-open_again.ensures.offset)

pub returns-in-Ok-open_again-clause-noted : goal.returns-in-Ok-open_again-clause-noted
returns-in-Ok-open_again-clause-noted g c = λ plain.
    (let reader = c.in-Ok-open_again.reader in
    let answer = returns-in-Ok-open_again-clause-answer g c plain in
    opens_noted Whole _ _ (in_matroska reader) answer.1
    (returns-in-Ok-open_again-clause-located g c plain) c.in-Ok-open_again.ensures.end
    c.in-Ok-open_again.ensures.uncued refl refl (omega arith) refl
    (segment_streams _ _ _ 0 reader.segment reader.track.numbers reader.place answer.1)
    (rw c.in-Some.ensures.there at c.in-Ok-open_again.ensures.timed))

pub returns-in-Ok-open_again-clause-opens : goal.returns-in-Ok-open_again-clause-opens
returns-in-Ok-open_again-clause-opens g c = λ telling.
    (let none = none_told c.tell_once-answer.new.told.faults _ c.is_empty.ensures c.if-not-is_empty.false in
    never_telling _ c.way_once.result c.way_once.ensures.some c.way_once.ensures.once
    (rw (← c.as_slice.ensures.value) at none) telling)

pub returns-in-Ok-open_again-clause-segment : goal.returns-in-Ok-open_again-clause-segment
returns-in-Ok-open_again-clause-segment g c = λ telling. (c.in-Ok-open_again.reader.segment, refl)

-- ---- it is refused with a fault that may be told, and is read again

pub tell_late-requires-then-may_be_told : goal.tell_late-requires-then-may_be_told
tell_late-requires-then-may_be_told g c = record { room = c.tell_once-answer.ensures.held }

pub returns-then-may_be_told-clause-late : goal.returns-then-may_be_told-clause-late
returns-then-may_be_told-clause-late g c = λ same.
    (let none : c.tell_once-answer.new.told.faults.items ≡ [] = none_told c.tell_once-answer.new.told.faults _ c.is_empty.ensures c.if-not-is_empty.false in
    let late : lacks_tracks c.in-Err.fault ≡ true = search rules in
    let counted = late_counted (opening_endings Whole) (once_read Whole) _ c.in-Err.fault late
    (c.in-Err.ensures.answer none) in
    let f = c.in-Err-open_again.fault in
    let p = passage g.R.ByteIn.remaining g.R.ByteIn.failures c.args.input.now c.open_again.new.input in
    let stops : StopsAgain p f = call_stops _ _ _ _ _ _ _ c.in-Some.ensures.there counted
    (c.in-Err.ensures.late none late) f c.in-Err-open_again.ensures.answer in
    refused_again p f (sym c.may_be_told.ensures ∙ c.if-may_be_told.true) stops)

pub returns-then-may_be_told-clause-opens : goal.returns-then-may_be_told-clause-opens
returns-then-may_be_told-clause-opens g c = λ telling.
    (let none : c.tell_once-answer.new.told.faults.items ≡ [] = none_told c.tell_once-answer.new.told.faults _ c.is_empty.ensures c.if-not-is_empty.false in
    let late : lacks_tracks c.in-Err.fault ≡ true = search rules in
    let counted = late_counted (opening_endings Whole) (once_read Whole) _ c.in-Err.fault late
    (c.in-Err.ensures.answer none) in
    let f = c.in-Err-open_again.fault in
    let p = passage g.R.ByteIn.remaining g.R.ByteIn.failures c.args.input.now c.open_again.new.input in
    let stops : StopsAgain p f = call_stops _ _ _ _ _ _ _ c.in-Some.ensures.there counted
    (c.in-Err.ensures.late none late) f c.in-Err-open_again.ensures.answer in
    let told = sym c.may_be_told.ensures ∙ c.if-may_be_told.true in
    moved_late _ _ _ _ _ _ c.in-Some.ensures.there (again_counted p f told stops)
    (λ q. IfOk c.tell_late-then-may_be_told.result (λ r. Salvages q r.head r.place r.offset
    (map (given_told c.tell_late-then-may_be_told.new.told.data) c.tell_late-then-may_be_told.new.told.faults.items)))
    (c.tell_late-then-may_be_told.ensures.opens (g.R.ByteIn.remaining c.tell_once-answer.new.input)
    c.tell_once-answer.new.offset (rw (← c.in-Some.ensures.there) at (c.in-Err.ensures.lacks late))))

pub returns-then-may_be_told-clause-refused : goal.returns-then-may_be_told-clause-refused
returns-then-may_be_told-clause-refused g c = λ telling.
    (let none : c.tell_once-answer.new.told.faults.items ≡ [] = none_told c.tell_once-answer.new.told.faults _ c.is_empty.ensures c.if-not-is_empty.false in
    let late : lacks_tracks c.in-Err.fault ≡ true = search rules in
    let counted = late_counted (opening_endings Whole) (once_read Whole) _ c.in-Err.fault late
    (c.in-Err.ensures.answer none) in
    let f = c.in-Err-open_again.fault in
    let p = passage g.R.ByteIn.remaining g.R.ByteIn.failures c.args.input.now c.open_again.new.input in
    let stops : StopsAgain p f = call_stops _ _ _ _ _ _ _ c.in-Some.ensures.there counted
    (c.in-Err.ensures.late none late) f c.in-Err-open_again.ensures.answer in
    let told = sym c.may_be_told.ensures ∙ c.if-may_be_told.true in
    refused_late _ _ _ _ c.tell_late-then-may_be_told.result
    (moved_late _ _ _ _ _ _ c.in-Some.ensures.there (again_counted p f told stops)
    (λ q. IfErr c.tell_late-then-may_be_told.result (λ e. RefusedLate q c.tell_late-then-may_be_told.new.told.data
    c.tell_late-then-may_be_told.new.told.faults.items e c.tell_late-then-may_be_told.new.offset))
    (c.tell_late-then-may_be_told.ensures.refused (g.R.ByteIn.remaining c.tell_once-answer.new.input)
    (rw (← c.in-Some.ensures.there) at (c.in-Err.ensures.lacks late)))))

-- ---- or with another fault

pub returns-clause-answer : goal.returns-clause-answer
returns-clause-answer g c = λ plain.
    (let none : c.tell_once-answer.new.told.faults.items ≡ [] = none_told c.tell_once-answer.new.told.faults _ c.is_empty.ensures c.if-not-is_empty.false in
    let late : lacks_tracks c.in-Err.fault ≡ true = search rules in
    let counted = late_counted (opening_endings Whole) (once_read Whole) _ c.in-Err.fault late
    (c.in-Err.ensures.answer none) in
    let f = c.in-Err-open_again.fault in
    let p = passage g.R.ByteIn.remaining g.R.ByteIn.failures c.args.input.now c.open_again.new.input in
    let stops : StopsAgain p f = call_stops _ _ _ _ _ _ _ c.in-Some.ensures.there counted
    (c.in-Err.ensures.late none late) f c.in-Err-open_again.ensures.answer in
    inr (refl, sym c.in-Some.ensures.able, stops))

pub returns-clause-stopped : goal.returns-clause-stopped
returns-clause-stopped g c = λ plain.
    (let none : c.tell_once-answer.new.told.faults.items ≡ [] = none_told c.tell_once-answer.new.told.faults _ c.is_empty.ensures c.if-not-is_empty.false in
    let late : lacks_tracks c.in-Err.fault ≡ true = search rules in
    let counted = late_counted (opening_endings Whole) (once_read Whole) _ c.in-Err.fault late
    (c.in-Err.ensures.answer none) in
    let f = c.in-Err-open_again.fault in
    let p = passage g.R.ByteIn.remaining g.R.ByteIn.failures c.args.input.now c.open_again.new.input in
    let stops : StopsAgain p f = call_stops _ _ _ _ _ _ _ c.in-Some.ensures.there counted
    (c.in-Err.ensures.late none late) f c.in-Err-open_again.ensures.answer in
    rw c.stop_of.ensures (call_stays _ _ (g.R.ByteIn.remaining c.tell_once-answer.new.input) _ _ _ _
    c.in-Some.ensures.there counted (c.in-Err.ensures.late none late) c.in-Err.fault f
    c.tell_once-answer.new.offset c.open_again.new.offset late (c.in-Err.ensures.first none late)
    c.in-Err-open_again.ensures.answer c.in-Err-open_again.ensures.offset))

pub returns-clause-refused : goal.returns-clause-refused
returns-clause-refused g c = λ telling.
    (let none = none_told c.tell_once-answer.new.told.faults _ c.is_empty.ensures c.if-not-is_empty.false in
    never_telling _ c.way_once.result c.way_once.ensures.some c.way_once.ensures.once
    (rw (← c.as_slice.ensures.value) at none) telling)

pub returns-clause-again : goal.returns-clause-again
returns-clause-again g c = λ telling begins.
    (let none = none_told c.tell_once-answer.new.told.faults _ c.is_empty.ensures c.if-not-is_empty.false in
    never_telling _ c.way_once.result c.way_once.ensures.some c.way_once.ensures.once
    (rw (← c.as_slice.ensures.value) at none) telling)
