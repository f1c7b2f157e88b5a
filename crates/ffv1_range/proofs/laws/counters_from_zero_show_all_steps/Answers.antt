-- What the counters of a coder show that began with nothing.
use Rattle.ffv1_range.proofs.Counting.{from_nothing}
use Rattle.ffv1_range.proofs.laws.counters_from_zero_show_all_steps.Goals as goal

pub returns : goal.returns
returns c = from_nothing
