-- Bytes that differ, and only within 32 neighbouring bits, each byte's low bit first, have
-- different sums.
use Rattle.ffv1_sum.proofs.Bursts.{different}
use Rattle.ffv1_sum.proofs.laws.bursts_change_the_sum.Goals as goal

pub returns : goal.returns
returns c = different
