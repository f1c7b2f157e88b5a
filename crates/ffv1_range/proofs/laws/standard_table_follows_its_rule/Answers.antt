-- The standard's table is what its rule gives, and keeps its states.
use Rattle.ffv1_range.proofs.Standard.{standard}
use Rattle.ffv1_range.proofs.Generator.{generates}
use Rattle.ffv1_range.proofs.laws.standard_table_follows_its_rule.Goals as goal

pub returns-clause-rule : goal.returns-clause-rule
returns-clause-rule c = generates

pub returns-clause-table : goal.returns-clause-table
returns-clause-table c = standard
