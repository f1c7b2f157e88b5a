-- The full ending of a list codes it, whatever follows.
use Rattle.ffv1_range.specs.Interval.{interval_of}
use Rattle.ffv1_range.proofs.EndingCodes.{fit, full-inside}
use Rattle.ffv1_range.proofs.laws.full_ending_codes_its_list.Goals as goal

pub returns : goal.returns
returns c = λ ds behind states. full-inside (interval_of ds) behind (fit ds states)
