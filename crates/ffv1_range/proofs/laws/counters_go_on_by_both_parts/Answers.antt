-- Counters that went on by some steps, and then by others, went on by both lists.
use Rattle.ffv1_range.proofs.Counting.{counted_none, counted_append, counted_shifted}
use Rattle.ffv1_range.proofs.laws.counters_go_on_by_both_parts.Goals as goal

pub returns-clause-none : goal.returns-clause-none
returns-clause-none c = counted_none

pub returns-clause-append : goal.returns-clause-append
returns-clause-append c = counted_append

pub returns-clause-shifted : goal.returns-clause-shifted
returns-clause-shifted c = counted_shifted
