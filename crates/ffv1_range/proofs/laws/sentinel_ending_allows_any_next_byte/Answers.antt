-- The sentinel ending codes its list whatever byte follows.
use Rattle.ffv1_range.specs.Interval.{interval_of}
use Rattle.ffv1_range.proofs.EndingCodes.{fit}
use Rattle.ffv1_range.proofs.SentinelByte.{sentinel_byte}
use Rattle.ffv1_range.proofs.laws.sentinel_ending_allows_any_next_byte.Goals as goal

pub returns : goal.returns
returns c = λ ds byte states small. sentinel_byte (interval_of ds) byte (fit ds states) small
