-- The standard's table (RFC 9043, 3.8.1.5).
use Rattle.std.proofs.Common.{arith}
use Rattle.ffv1_range.specs.Standard.{default_state_transition, standard}
use Rattle.ffv1_range.proofs.Standard.{standard as keeps, zeros_are}
use Rattle.ffv1_range.proofs.Named.{fresh_held}
use Rattle.ffv1_range.proofs.table.StateTable.standard.Goals as goal

pub returns-clause-table : goal.returns-clause-table
returns-clause-table c = keeps

pub returns-clause-fresh : goal.returns-clause-fresh
returns-clause-fresh c = fresh_held standard keeps

pub invariant_of-result : goal.invariant_of-result
invariant_of-result c = (
  keeps,
  zeros_are 8 default_state_transition _ keeps c.zeros_beside-zero.ensures,
  λ state least most. c.both.ensures state (omega arith),
  record {
    zeros = λ state least most. c.joined.ensures.zeros state (omega arith);
    ones = λ state least most. c.joined.ensures.ones state (omega arith);
  },
)
