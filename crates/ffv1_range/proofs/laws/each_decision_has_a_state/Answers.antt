-- By a table of states each decision of a history has a state, and fresh states are held.
use Rattle.ffv1_range.proofs.Named.{state_held, named, fresh_held, all_fresh_held}
use Rattle.ffv1_range.proofs.laws.each_decision_has_a_state.Goals as goal

pub returns-clause-held : goal.returns-clause-held
returns-clause-held c = λ t slot past table. state_held t table slot past

pub returns-clause-named : goal.returns-clause-named
returns-clause-named c = λ t past steps table. named t table past steps

pub returns-clause-fresh : goal.returns-clause-fresh
returns-clause-fresh c = λ t table. fresh_held t table

pub returns-clause-all_fresh : goal.returns-clause-all_fresh
returns-clause-all_fresh c = λ t count table. all_fresh_held t table count
