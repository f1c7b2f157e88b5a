-- The sentinel ending of a list codes it, with zeros after too.
use Rattle.std.proofs.Common.{false}
use Rattle.ffv1_range.specs.Interval.{narrow, interval_of}
use Rattle.ffv1_range.specs.Codes.{raised, sentinel_of}
use Rattle.ffv1_range.proofs.EndingCodes.{fit, sentinel-inside, inside-zeros, bytes-take}
use Rattle.ffv1_range.proofs.laws.sentinel_ending_codes_its_list.Goals as goal

pub returns-clause-codes : goal.returns-clause-codes
returns-clause-codes c = λ ds states. sentinel-inside (interval_of ds) (fit ds states)

pub returns-clause-zeros : goal.returns-clause-zeros
returns-clause-zeros c = λ ds count states.
    inside-zeros (sentinel_of (interval_of ds)) (interval_of ds) count
    (sentinel-inside (interval_of ds) (fit ds states))

pub returns-clause-bytes : goal.returns-clause-bytes
returns-clause-bytes c = λ i. bytes-take (narrow i 129 false).count
    (raised (narrow i 129 false).low)
