-- The configuration record of an entry of this codec, where that is FFV1.
use Rattle.std.proofs.Common.{rules}
use Rattle.ffv1_matroska.proofs.track.record_of.Goals as goal

pub returns-then-is_format-clause-value : goal.returns-then-is_format-clause-value
returns-then-is_format-clause-value c = rw c.format_record.ensures.value (search rules)
