-- What an encoder has written stands after what it had written before.
use Rattle.ffv1_range.proofs.Steps.{written_on}
use Rattle.ffv1_range.proofs.laws.written_decisions_follow_earlier_ones.Goals as goal

pub returns : goal.returns
returns c = written_on
