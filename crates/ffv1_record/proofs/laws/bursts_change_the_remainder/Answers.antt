-- Bytes that differ, and only within 32 neighbouring bits, have different remainders.
use Rattle.ffv1_record.proofs.ParityLaws.{different}
use Rattle.ffv1_record.proofs.laws.bursts_change_the_remainder.Goals as goal

-- src/laws.rt:23:1
pub returns : goal.returns
returns c = different
