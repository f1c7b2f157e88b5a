-- Deltas make at most one table, and those of 0 make the standard's.
use Rattle.ffv1_range.proofs.OneTable.{one_table, standard_of, table_of}
use Rattle.ffv1_range.proofs.laws.deltas_make_one_table.Goals as goal

pub returns-clause-one : goal.returns-clause-one
returns-clause-one c = one_table

pub returns-clause-standard : goal.returns-clause-standard
returns-clause-standard c = standard_of

pub returns-clause-table : goal.returns-clause-table
returns-clause-table c = table_of
