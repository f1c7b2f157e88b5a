-- Each step is a 1 or a 0, and so is its decision.
use Rattle.ffv1_range.proofs.Counting.{steps_counted, decided_ones, decided_zeros, after_ones}
use Rattle.ffv1_range.proofs.Counting.{after_zeros, ones_in-append, zeros_in-append}
use Rattle.ffv1_range.proofs.laws.each_step_is_one_or_zero.Goals as goal

pub returns-clause-steps : goal.returns-clause-steps
returns-clause-steps c = steps_counted

pub returns-clause-ones : goal.returns-clause-ones
returns-clause-ones c = decided_ones

pub returns-clause-zeros : goal.returns-clause-zeros
returns-clause-zeros c = decided_zeros

pub returns-clause-ones_after : goal.returns-clause-ones_after
returns-clause-ones_after c = after_ones

pub returns-clause-zeros_after : goal.returns-clause-zeros_after
returns-clause-zeros_after c = after_zeros

pub returns-clause-ones_append : goal.returns-clause-ones_append
returns-clause-ones_append c = ones_in-append

pub returns-clause-zeros_append : goal.returns-clause-zeros_append
returns-clause-zeros_append c = zeros_in-append
