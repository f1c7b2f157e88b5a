-- The bytes that end a list are as many as those of its sentinel ending, with a number near theirs.
use Rattle.ffv1_range.specs.Interval.{interval_of}
use Rattle.ffv1_range.proofs.EndingCodes.{fit}
use Rattle.ffv1_range.proofs.Ended.{sentinel_ends, where_ended, ended_where, ended_near}
use Rattle.ffv1_range.proofs.Renormalising.{all_normalised}
use Rattle.ffv1_range.proofs.laws.ended_bytes_are_near_the_sentinel_ending.Goals as goal

pub returns-clause-sentinel : goal.returns-clause-sentinel
returns-clause-sentinel c = λ ds states. sentinel_ends (interval_of ds) (fit ds states)

pub returns-clause-exact : goal.returns-clause-exact
returns-clause-exact c = λ bytes ds states. (
  where_ended bytes (interval_of ds) (fit ds states),
  ended_where bytes (interval_of ds) (fit ds states),
)

pub returns-clause-near : goal.returns-clause-near
returns-clause-near c = λ bytes ds states ended. ended_near bytes (interval_of ds) (fit ds states)
    (all_normalised ds states) ended
