-- `renormalisations_bound_the_decisions`: the same of the decisions of a history, of a decoder's
-- and of an encoder's: fewer than `decisions_a_byte` for each renormalisation, and once more.
use Rattle.ffv1_range.proofs.FewDecisions.{few_in_history, few_decoded, few_read, few_written}
use Rattle.ffv1_range.proofs.FewDecisions.{few_counted}
use Rattle.ffv1_range.proofs.laws.renormalisations_bound_the_decisions.Goals as goal

pub returns-clause-history : goal.returns-clause-history
returns-clause-history c = few_in_history

pub returns-clause-decoded : goal.returns-clause-decoded
returns-clause-decoded c = few_decoded

pub returns-clause-read : goal.returns-clause-read
returns-clause-read c = few_read

pub returns-clause-written : goal.returns-clause-written
returns-clause-written c = few_written

pub returns-clause-counted : goal.returns-clause-counted
returns-clause-counted c = few_counted
