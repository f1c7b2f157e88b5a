-- Behind bytes that end a list any others may stand; where they begin is known by renormalisations.
use Rattle.ffv1_range.specs.Interval.{interval_of}
use Rattle.ffv1_range.proofs.EndingCodes.{fit}
use Rattle.ffv1_range.proofs.Ended.{placed_behind, place_known}
use Rattle.ffv1_range.proofs.laws.bits_begin_behind_ended_bytes.Goals as goal

pub returns-clause-behind : goal.returns-clause-behind
returns-clause-behind c = λ xs ys ds are states ended.
    placed_behind xs ys ds are (fit ds states) ended

pub returns-clause-known : goal.returns-clause-known
returns-clause-known c = place_known
