-- So a sink of the configuration's own lines refuses none: no answer is its fault, whether the
-- lines are kept or dropped.
use Rattle.std.proofs.Common.{ap}
use Rattle.ffv1_frame.specs.Kept.{Dropped, Drops, DropsNot, Keeps, KeepsNot, Kept}
use Rattle.ffv1_frame.proofs.lemmas.laws.sink.OfferedLines.{never_sink}
use Rattle.ffv1_frame.proofs.laws.sink.sinks_of_own_lines_refuse_none.Goals as goal

pub returns-clause-kept : goal.returns-clause-kept
returns-clause-kept c = λ a payload old new tally f is answer own.
    never_sink Keeps KeepsNot (λ (s : Kept). s.grid)
    (λ s t p y samples kept. ap (λ (z : Kept). z.grid) kept.1) (λ s t p y samples kept. kept.0)
    a payload old new tally f answer.cut (λ coded r i p y t offers.
    c.offered_lines_fit_the_configuration.ensures a coded r i p y t is offers) answer.answer own

pub returns-clause-dropped : goal.returns-clause-dropped
returns-clause-dropped c = λ a payload old new tally f is answer own.
    never_sink Drops DropsNot (λ (s : Dropped). s.grid)
    (λ s t p y samples kept. ap (λ (z : Dropped). z.grid) kept.1)
    (λ s t p y samples kept. kept.0)
    a payload old new tally f answer.cut (λ coded r i p y t offers.
    c.offered_lines_fit_the_configuration.ensures a coded r i p y t is offers) answer.answer own
