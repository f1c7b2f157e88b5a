-- `open_located`: the same, which says where in the file a fault is: `offset` is then the number of
-- bytes of the file before the element or chunk at fault, those before it read whole; no greater
-- than 2^64 - 1.
use Rattle.std.proofs.Common.{inl, refl, arith}
use Rattle.ffv1_wire.specs.Passage.{passage}
use Rattle.ffv1_files.proofs.Locations.{movi_reached, movi_stopped}
use Rattle.ffv1_files.proofs.NotedOpenings.{opens_noted}
use Rattle.ffv1_files.proofs.NotedStreams.{movi_streams}
use Rattle.ffv1_files.proofs.NotedTimes.{lists_begin}
use Rattle.ffv1_matroska.specs.Times.{times_begun}
use Rattle.ffv1_files.specs.Places.{InAvi}
use Rattle.ffv1_files.proofs.Openings.{avi_apart, movi_opens, movi_stops}
use Rattle.ffv1_files.proofs.reader.FileReader.open_located.Goals as goal

pub returns-in-Ok-clause-answer : goal.returns-in-Ok-clause-answer
returns-in-Ok-clause-answer g c =
    let reader = c.in-Ok.reader in
    rw c.in-FirstMovi.is (movi_opens (passage g.R.ByteIn.remaining g.R.ByteIn.failures
    c.args.input.now c.open_located.new.input) (reader.head, reader.place)
    c.in-Ok.ensures.answer)

pub returns-in-Err-clause-answer : goal.returns-in-Err-clause-answer
returns-in-Err-clause-answer g c =
    rw c.in-FirstMovi.is (inl (
      movi_stops (passage g.R.ByteIn.remaining g.R.ByteIn.failures c.args.input.now
          c.open_located.new.input) c.in-Err.fault c.in-Err.ensures.answer,
      λ is.
          avi_apart c.in-Err.fault c.in-Err.ensures.own is,
    ))

pub returns-in-Err-open_whole-clause-answer : goal.returns-in-Err-open_whole-clause-answer
returns-in-Err-open_whole-clause-answer g c = rw c.in-Whole.is c.in-Err-open_whole.ensures.answer

pub returns-in-Ok-clause-located : goal.returns-in-Ok-clause-located
returns-in-Ok-clause-located g c = rw c.in-FirstMovi.is
    (movi_reached (passage g.R.ByteIn.remaining g.R.ByteIn.failures c.args.input.now
    c.open_located.new.input) c.in-Ok.reader c.open_located.new.offset c.in-Ok.ensures.offset)

pub returns-in-Err-clause-stopped : goal.returns-in-Err-clause-stopped
returns-in-Err-clause-stopped g c = rw c.in-FirstMovi.is
    (movi_stopped (passage g.R.ByteIn.remaining g.R.ByteIn.failures c.args.input.now
    c.open_located.new.input) c.in-Err.fault c.open_located.new.offset c.in-Err.ensures.offset)

pub returns-in-Ok-open_whole-clause-located : goal.returns-in-Ok-open_whole-clause-located
returns-in-Ok-open_whole-clause-located g c = rw c.in-Whole.is c.in-Ok-open_whole.ensures.located

pub returns-in-Err-open_whole-clause-stopped : goal.returns-in-Err-open_whole-clause-stopped
returns-in-Err-open_whole-clause-stopped g c = rw c.in-Whole.is c.in-Err-open_whole.ensures.stopped

pub returns-in-Ok-clause-noted : goal.returns-in-Ok-clause-noted
returns-in-Ok-clause-noted g c =
    let reader = c.in-Ok.reader in
    let p = passage g.R.ByteIn.remaining g.R.ByteIn.failures c.args.input.now
    c.open_located.new.input in
    rw c.in-FirstMovi.is (opens_noted _ p.old p.new _
    (movi_opens p (reader.head, reader.place) c.in-Ok.ensures.answer).1
    (movi_reached p reader c.open_located.new.offset c.in-Ok.ensures.offset) tt refl
    c.in-Ok.ensures.none c.in-Ok.ensures.shut (omega (arith, c.in-Ok.ensures.least)) c.in-Ok.ensures.uncounted
    (movi_streams p.old p.new reader.others (InAvi reader.place) c.in-Ok.ensures.others)
    (lists_begin p.old p.new _ reader.place (times_begun 0)
    (movi_opens p (reader.head, reader.place) c.in-Ok.ensures.answer).1))

pub returns-in-Ok-open_whole-clause-noted : goal.returns-in-Ok-open_whole-clause-noted
returns-in-Ok-open_whole-clause-noted g c =
    let done = c.in-Ok-open_whole.ensures in
    rw c.in-Whole.is (opens_noted _ _ _ c.in-Ok-open_whole.reader done.answer.1 done.located
    done.ends done.uncued done.untold done.shut done.least done.uncounted
    done.streams done.times)
