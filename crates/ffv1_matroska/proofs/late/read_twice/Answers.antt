-- Reads a file from its beginning up to the end of its first Tracks, and then once more from there
-- up to where the frames of their track begin.
use Rattle.std.proofs.Common.{ℕ, Option, inr, refl}
use Rattle.std.proofs.lemmas.Result.{err_from_is_err_and}
use Rattle.ffv1_matroska.specs.Internal.{opened_kept, track_kept}
use Rattle.ffv1_matroska.specs.declared.place.Place.{Place}
use Rattle.ffv1_matroska.specs.declared.track.Numbers.{Numbers}
use Rattle.ffv1_matroska.proofs.TwiceReadings.{known_opens, known_refused, not_again, not_twice}
use Rattle.ffv1_matroska.proofs.TwiceReadings.{room_twice, track_refused, track_stopped}
use Rattle.ffv1_matroska.proofs.TwiceReadings.{track_there}
use Rattle.ffv1_matroska.proofs.late.read_twice.Goals as goal

pub returns-in_err-begin_again-clause-answer : goal.returns-in_err-begin_again-clause-answer
returns-in_err-begin_again-clause-answer g c =
    let p = err_from_is_err_and c.from_residual.result c.from_residual.ensures.1 in
    let why = c.in_err-begin_again.ensures in
    rw (p.1, p.2) (not_again _ _ _ _ _ c.in_err-begin_again.field-0.0 why.fault why.kept why.failed)

pub returns-in_err-known-clause-answer : goal.returns-in_err-known-clause-answer
returns-in_err-known-clause-answer g c =
    let p = err_from_is_err_and c.from_residual-in_err-known.result
    c.from_residual-in_err-known.ensures.1 in
    let begun = c.in_ok-begin_again.ensures in
    rw (p.1, p.2) (track_refused _ _ _ _ _ _ _ begun.done begun.counted c.in_err-known.field-0.0
    c.in_err-known.ensures.answer)

pub returns-in_err-begin_again-2-clause-answer : goal.returns-in_err-begin_again-2-clause-answer
returns-in_err-begin_again-2-clause-answer g c =
    let p = err_from_is_err_and c.from_residual-in_err-begin_again-2.result
    c.from_residual-in_err-begin_again-2.ensures.1 in
    let begun = c.in_ok-begin_again.ensures in
    let why = c.in_err-begin_again-2.ensures in
    let track = track_kept c.in_ok-known.known c.find_track.new.config.items in
    let found = track_there _ (g.R.ByteIn.remaining c.args.input.now) _ _ _ _ _ begun.done
    begun.counted track c.in_ok-known.ensures.answer in
    rw (p.1, p.2) (not_twice _ _ _ _ (g.R.ByteIn.remaining c.args.input.now) _ _ _ 0 track found
    c.in_err-begin_again-2.field-0.0 why.fault why.kept why.failed)

pub returns-in_err-segment-clause-answer : goal.returns-in_err-segment-clause-answer
returns-in_err-segment-clause-answer g c =
    let p = err_from_is_err_and c.from_residual-in_err-segment.result
    c.from_residual-in_err-segment.ensures.1 in
    let begun = c.in_ok-begin_again.ensures in
    let again = c.in_ok-begin_again-2.ensures in
    let track = track_kept c.in_ok-known.known c.find_track.new.config.items in
    let found = track_there _ (g.R.ByteIn.remaining c.args.input.now) _ _ _ _ _ begun.done
    begun.counted track c.in_ok-known.ensures.answer in
    rw (p.1, p.2) (known_refused _ _ _ _ _ _ _ _ _ track found again.done again.counted
    c.in_err-segment.field-0.0 c.in_err-segment.ensures.answer)

pub returns-clause-answer : goal.returns-clause-answer
returns-clause-answer g c =
    let begun = c.in_ok-begin_again.ensures in
    let again = c.in_ok-begin_again-2.ensures in
    let track = track_kept c.in_ok-known.known c.find_track.new.config.items in
    let found = track_there _ (g.R.ByteIn.remaining c.args.input.now) _ _ _ _ _ begun.done
    begun.counted track c.in_ok-known.ensures.answer in
    let p : Option ℕ × Numbers × Place = (c.in_ok-segment.segment, c.in_ok-segment.numbers, c.in_ok-segment.place) in
    known_opens _ (g.R.ByteIn.remaining c.args.input.now) _ _ _ _ _ _ _ track found again.done
    again.counted (opened_kept p c.reopen.new.config.items) c.in_ok-segment.ensures.answer

pub returns-clause-grown : goal.returns-clause-grown
returns-clause-grown g c = room_twice c.in_ok-begin_again.ensures.done
    c.in_ok-known.ensures.grown c.in_ok-begin_again-2.ensures.done c.in_ok-segment.ensures.grown

pub returns-in_err-begin_again-clause-from : goal.returns-in_err-begin_again-clause-from
returns-in_err-begin_again-clause-from g c =
    let p = err_from_is_err_and c.from_residual.result c.from_residual.ensures.1 in
    let why = c.in_err-begin_again.ensures in
    rw (p.1, p.2) (inr (inr (inr (why.fault, why.failed, refl))))

pub returns-in_err-known-clause-from : goal.returns-in_err-known-clause-from
returns-in_err-known-clause-from g c =
    let p = err_from_is_err_and c.from_residual-in_err-known.result
    c.from_residual-in_err-known.ensures.1 in
    let begun = c.in_ok-begin_again.ensures in
    rw (p.1, p.2) (track_stopped _ _ _ _ _ _ begun.done begun.counted
    c.in_err-known.field-0.0 _ c.in_err-known.ensures.from)

pub returns-clause-tick : goal.returns-clause-tick
returns-clause-tick g c = rw c.in_ok-begin_again-2.ensures.done at c.in_ok-segment.ensures.tick
