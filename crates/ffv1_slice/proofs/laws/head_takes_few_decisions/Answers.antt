-- A head takes few decisions, and so do numbers in the place of a head up to the first that is
-- refused.
use Rattle.ffv1_slice.proofs.Lengths.{head_short, refused_most}
use Rattle.ffv1_slice.proofs.laws.head_takes_few_decisions.Goals as goal

pub returns-clause-head : goal.returns-clause-head
returns-clause-head k = λ p c t n h accepted is below.
    let columns = k.accepted_configuration_is_in_range.ensures.columns c t accepted in
    let rows = k.accepted_configuration_is_in_range.ensures.rows c t accepted in
    head_short p c n h is (k.accepted_configuration_is_in_range.ensures.sets c t accepted).1
    columns.0 columns.1 rows.1 below

pub returns-clause-refused : goal.returns-clause-refused
returns-clause-refused k = refused_most
