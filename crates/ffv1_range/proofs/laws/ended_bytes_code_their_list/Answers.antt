-- Bytes that end a list code it, and so does whatever they begin.
use Rattle.ffv1_range.specs.Interval.{interval_of}
use Rattle.ffv1_range.proofs.EndingCodes.{fit}
use Rattle.ffv1_range.proofs.Ended.{begins}
use Rattle.ffv1_range.proofs.laws.ended_bytes_code_their_list.Goals as goal

pub returns-clause-begins : goal.returns-clause-begins
returns-clause-begins c = λ xs ys ds are states ended. begins xs ys are (interval_of ds)
    (fit ds states) ended
