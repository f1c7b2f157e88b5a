-- Opens a file that is read whole: once, or if it lacks Tracks where they are looked for first,
-- from its beginning again, if the input can begin again.
use Rattle.std.proofs.Common.{◌≡◌, true, refl, inr, sym, rules}
use Rattle.ffv1_wire.specs.Passage.{passage}
use Rattle.ffv1_matroska.specs.Readers.{opened_at}
use Rattle.ffv1_files.specs.Again.{lacks_tracks}
use Rattle.ffv1_files.specs.Endings.{opening_endings}
use Rattle.ffv1_files.specs.Files.{once_read}
use Rattle.ffv1_files.specs.Readers.{opened_at as file_opened}
use Rattle.ffv1_files.specs.declared.container.Scope.TheVariants.{Whole}
use Rattle.ffv1_files.proofs.AgainOpenings.{call_opens, call_reached, call_stays, call_stops}
use Rattle.ffv1_files.proofs.AgainOpenings.{late_counted}
use Rattle.ffv1_files.proofs.NotedStreams.{segment_streams}
use Rattle.ffv1_files.proofs.Openings.{once_opens}
use Rattle.ffv1_files.proofs.opening.open_whole.Goals as goal

pub returns-in-Ok-clause-answer : goal.returns-in-Ok-clause-answer
returns-in-Ok-clause-answer g c = once_opens Whole (passage g.R.ByteIn.remaining
    g.R.ByteIn.failures c.args.input.now c.open_once.new.input) (file_opened c.in-Ok.reader)
    c.in-Ok.ensures.answer

pub returns-in-Ok-open_again-clause-answer : goal.returns-in-Ok-open_again-clause-answer
returns-in-Ok-open_again-clause-answer g c =
    let late : lacks_tracks c.in-Err.fault ≡ true = search rules in
    let counted = late_counted (opening_endings Whole) (once_read Whole) _ c.in-Err.fault late
    c.in-Err.ensures.answer in
    call_opens _ _ _ _ _ _ _ c.in-Some.ensures.there counted (c.in-Err.ensures.late late)
    (opened_at c.in-Ok-open_again.reader) c.in-Ok-open_again.ensures.answer

pub returns-in-Ok-open_again-clause-located : goal.returns-in-Ok-open_again-clause-located
returns-in-Ok-open_again-clause-located g c =
    let late : lacks_tracks c.in-Err.fault ≡ true = search rules in
    let counted = late_counted (opening_endings Whole) (once_read Whole) _ c.in-Err.fault late
    c.in-Err.ensures.answer in
    call_reached _ _ (g.R.ByteIn.remaining c.open_once.new.input) _ _ _
    (g.R.ByteIn.failures c.open_again.new.input) c.in-Some.ensures.there counted
    c.in-Ok-open_again.reader c.open_again.new.offset c.in-Ok-open_again.ensures.offset

pub returns-in-Ok-open_again-clause-streams : goal.returns-in-Ok-open_again-clause-streams
returns-in-Ok-open_again-clause-streams g c =
    let reader = c.in-Ok-open_again.reader in
    segment_streams _ _ _ 0 reader.segment reader.track.numbers reader.place
    (returns-in-Ok-open_again-clause-answer g c).1

pub returns-in-Ok-open_again-clause-times : goal.returns-in-Ok-open_again-clause-times
returns-in-Ok-open_again-clause-times g c = rw c.in-Some.ensures.there at
    c.in-Ok-open_again.ensures.timed

pub returns-clause-answer : goal.returns-clause-answer
returns-clause-answer g c =
    let late : lacks_tracks c.in-Err.fault ≡ true = search rules in
    let counted = late_counted (opening_endings Whole) (once_read Whole) _ c.in-Err.fault late
    c.in-Err.ensures.answer in
    inr (
      refl,
      sym c.in-Some.ensures.able,
      call_stops _ _ _ _ _ _ _ c.in-Some.ensures.there counted
          (c.in-Err.ensures.late late) c.in-Err-open_again.fault c.in-Err-open_again.ensures.answer,
    )

pub returns-clause-stopped : goal.returns-clause-stopped
returns-clause-stopped g c =
    let late : lacks_tracks c.in-Err.fault ≡ true = search rules in
    let counted = late_counted (opening_endings Whole) (once_read Whole) _ c.in-Err.fault late
    c.in-Err.ensures.answer in
    rw c.stop_of.ensures (call_stays _ _ (g.R.ByteIn.remaining c.open_once.new.input) _ _ _ _
    c.in-Some.ensures.there counted (c.in-Err.ensures.late late) c.in-Err.fault
    c.in-Err-open_again.fault _ c.open_again.new.offset late (c.in-Err.ensures.first late)
    c.in-Err-open_again.ensures.answer c.in-Err-open_again.ensures.offset)
