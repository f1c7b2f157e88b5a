-- States that are kept in arrays, and moved at each decision, are those that the history gives: for
-- one array of all slots, and for one that has the slots from base on, beside any others.
use Rattle.ffv1_range.proofs.HistoryLemmas.{kept_is, fresh_has, decided_is, moved_has, others_have}
use Rattle.ffv1_range.proofs.Parts.{part_has, put_has}
use Rattle.ffv1_range.proofs.laws.array_states_follow_the_history.Goals as goal

pub returns-clause-all : goal.returns-clause-all
returns-clause-all c = kept_is

pub returns-clause-fresh : goal.returns-clause-fresh
returns-clause-fresh c = fresh_has

pub returns-clause-decided : goal.returns-clause-decided
returns-clause-decided c = decided_is

pub returns-clause-moved : goal.returns-clause-moved
returns-clause-moved c = moved_has

pub returns-clause-others : goal.returns-clause-others
returns-clause-others c = others_have

pub returns-clause-part : goal.returns-clause-part
returns-clause-part c = part_has

pub returns-clause-put : goal.returns-clause-put
returns-clause-put c = put_has
