-- Reads a file that may be damaged from its beginning up to the end of its first Tracks, and then
-- once more from there up to where the frames of their track begin.
use Rattle.std.proofs.Common.{◌≡◌, ◌∙◌, [], inl, inr, refl, rules}
use Rattle.std.proofs.lemmas.Result.{err_from_is_err_and}
use Rattle.ffv1_matroska.specs.Internal.{track_kept}
use Rattle.ffv1_matroska.specs.SalvagedLate.{salvage_known}
use Rattle.ffv1_matroska.specs.Salvaged.{NeverBegins}
use Rattle.ffv1_matroska.proofs.TwiceReadings.{room_twice}
use Rattle.ffv1_matroska.proofs.TwiceSalvaged.{known_opens, known_refused, known_stopped, not_again}
use Rattle.ffv1_matroska.proofs.TwiceSalvaged.{not_twice, room_over, sought_stopped}
use Rattle.ffv1_matroska.proofs.TwiceSalvaged.{track_refused, track_there}
use Rattle.ffv1_matroska.proofs.late_salvage.salvage_twice.Goals as goal

pub returns-in_err-begin_again-clause-answer : goal.returns-in_err-begin_again-clause-answer
returns-in_err-begin_again-clause-answer g c =
    let p = err_from_is_err_and c.from_residual.result c.from_residual.ensures.1 in
    let why = c.in_err-begin_again.ensures in
    rw (p.1, p.2) (not_again _ _ _ _ _ c.in_err-begin_again.field-0.0 why.fault why.kept why.failed)

pub returns-in_err-begin_again-clause-stopped : goal.returns-in_err-begin_again-clause-stopped
returns-in_err-begin_again-clause-stopped g c =
    let p = err_from_is_err_and c.from_residual.result c.from_residual.ensures.1 in
    let why = c.in_err-begin_again.ensures in
    rw (p.1, p.2) (inr (inr (inr (why.fault, why.failed, refl))))

pub returns-in_err-numbers-clause-answer : goal.returns-in_err-numbers-clause-answer
returns-in_err-numbers-clause-answer g c =
    let p = err_from_is_err_and c.from_residual-in_err-numbers.result
    c.from_residual-in_err-numbers.ensures.1 in
    let begun = c.in_ok-begin_again.ensures in
    rw (p.1, p.2) (track_refused _ _ _ _ _ _ _ begun.done begun.counted
    c.in_err-numbers.field-0.0 c.in_err-numbers.ensures.answer)

pub returns-in_err-numbers-clause-stopped : goal.returns-in_err-numbers-clause-stopped
returns-in_err-numbers-clause-stopped g c =
    let p = err_from_is_err_and c.from_residual-in_err-numbers.result
    c.from_residual-in_err-numbers.ensures.1 in
    let begun = c.in_ok-begin_again.ensures in
    rw (p.1, p.2) (sought_stopped _ _ _ _ _ _ begun.done begun.counted
    c.in_err-numbers.field-0.0 _ c.in_err-numbers.ensures.from)

pub returns-in_err-begin_again-2-clause-answer : goal.returns-in_err-begin_again-2-clause-answer
returns-in_err-begin_again-2-clause-answer g c =
    let p = err_from_is_err_and c.from_residual-in_err-begin_again-2.result
    c.from_residual-in_err-begin_again-2.ensures.1 in
    let begun = c.in_ok-begin_again.ensures in
    let why = c.in_err-begin_again-2.ensures in
    let track = track_kept c.in_ok-numbers.numbers c.find_salvaged.new.config.items in
    let found = track_there _ (g.R.ByteIn.remaining c.args.input.now) _ _ _ _ _ begun.done
    begun.counted track c.in_ok-numbers.ensures.answer in
    rw (p.1, p.2) (not_twice _ _ _ _ (g.R.ByteIn.remaining c.args.input.now) _ _ _ 0 track found
    c.in_err-begin_again-2.field-0.0 why.fault why.kept why.failed)

pub returns-in_err-segment-clause-answer : goal.returns-in_err-segment-clause-answer
returns-in_err-segment-clause-answer g c =
    let p = err_from_is_err_and c.from_residual-in_err-segment.result
    c.from_residual-in_err-segment.ensures.1 in
    let begun = c.in_ok-begin_again.ensures in
    let again = c.in_ok-begin_again-2.ensures in
    let track = track_kept c.in_ok-numbers.numbers c.find_salvaged.new.config.items in
    let found = track_there _ (g.R.ByteIn.remaining c.args.input.now) _ _ _ _ _ begun.done
    begun.counted track c.in_ok-numbers.ensures.answer in
    rw (p.1, p.2) (known_refused _ _ _ _ _ _ _ _ _ track found again.done again.counted
    c.in_err-segment.field-0.0 (c.in_err-segment.ensures.answer track))

pub returns-in_err-segment-clause-stopped : goal.returns-in_err-segment-clause-stopped
returns-in_err-segment-clause-stopped g c =
    let p = err_from_is_err_and c.from_residual-in_err-segment.result
    c.from_residual-in_err-segment.ensures.1 in
    let begun = c.in_ok-begin_again.ensures in
    let again = c.in_ok-begin_again-2.ensures in
    let track = track_kept c.in_ok-numbers.numbers c.find_salvaged.new.config.items in
    let found = track_there _ (g.R.ByteIn.remaining c.args.input.now) _ _ _ _ _ begun.done
    begun.counted track c.in_ok-numbers.ensures.answer in
    rw (p.1, p.2) (known_stopped _ _ _ _ _ _ again.done (again.counted ∙ found.0)
    c.in_err-segment.field-0.0 _ track (c.in_err-segment.ensures.stopped track))

pub returns-in_err-begin_again-clause-told : goal.returns-in_err-begin_again-clause-told
returns-in_err-begin_again-clause-told g c =
    let p = err_from_is_err_and c.from_residual.result c.from_residual.ensures.1 in
    let none : c.clear.new.self.items ≡ [] = search rules in
    rw p.1 (inl (none, refl))

pub returns-in_err-numbers-clause-told : goal.returns-in_err-numbers-clause-told
returns-in_err-numbers-clause-told g c =
    let p = err_from_is_err_and c.from_residual-in_err-numbers.result
    c.from_residual-in_err-numbers.ensures.1 in
    let none : c.clear.new.self.items ≡ [] = search rules in
    rw p.1 (inl (none, refl))

pub returns-in_err-begin_again-2-clause-told : goal.returns-in_err-begin_again-2-clause-told
returns-in_err-begin_again-2-clause-told g c =
    let p = err_from_is_err_and c.from_residual-in_err-begin_again-2.result
    c.from_residual-in_err-begin_again-2.ensures.1 in
    let none : c.clear.new.self.items ≡ [] = search rules in
    rw p.1 (inl (none, refl))

pub returns-in_err-segment-clause-told : goal.returns-in_err-segment-clause-told
returns-in_err-segment-clause-told g c =
    let p = err_from_is_err_and c.from_residual-in_err-segment.result
    c.from_residual-in_err-segment.ensures.1 in
    let begun = c.in_ok-begin_again.ensures in
    let again = c.in_ok-begin_again-2.ensures in
    let track = track_kept c.in_ok-numbers.numbers c.find_salvaged.new.config.items in
    let found = track_there _ (g.R.ByteIn.remaining c.args.input.now) _ _ _ _ _ begun.done
    begun.counted track c.in_ok-numbers.ensures.answer in
    let told = rw again.done at c.in_err-segment.ensures.told in
    rw p.1 (inr (track, _, found.1, told track))

pub returns-clause-answer : goal.returns-clause-answer
returns-clause-answer g c =
    let begun = c.in_ok-begin_again.ensures in
    let again = c.in_ok-begin_again-2.ensures in
    let track = track_kept c.in_ok-numbers.numbers c.find_salvaged.new.config.items in
    let found = track_there _ (g.R.ByteIn.remaining c.args.input.now) _ _ _ _ _ begun.done
    begun.counted track c.in_ok-numbers.ensures.answer in
    known_opens _ (g.R.ByteIn.remaining c.args.input.now) _ _ _ _ _ _ _ track found again.done
    again.counted _ (c.in_ok-segment.ensures.answer track)

pub returns-clause-grown : goal.returns-clause-grown
returns-clause-grown g c =
    let track = track_kept c.in_ok-numbers.numbers c.find_salvaged.new.config.items in
    room_twice c.in_ok-begin_again.ensures.done c.in_ok-numbers.ensures.grown
    c.in_ok-begin_again-2.ensures.done (room_over NeverBegins (salvage_known track) _ _ _ _
    (c.in_ok-segment.ensures.answer track).1)

pub returns-clause-data : goal.returns-clause-data
returns-clause-data g c = rw c.in_ok-begin_again-2.ensures.done at c.in_ok-segment.ensures.data
