-- Whether the states from floor to 256 less floor go to such states.
use Rattle.std.proofs.Common.{arith, inl, inr}
use Rattle.std.proofs.lemmas.Bool.{cases_eq}
use Rattle.ffv1_range.proofs.table.is_floor.Goals as goal

pub loop-state-preserved : goal.loop-state-preserved
loop-state-preserved c = record {
  least = λ k above below. elim (cases_eq k c.loop-state.state) [
    | inl same ↦ rw same (omega arith)
    | inr apart ↦ c.loop-state.invariant.least k above (omega arith)
  ];
  most = λ k above below. elim (cases_eq k c.loop-state.state) [
    | inl same ↦ rw same (omega arith)
    | inr apart ↦ c.loop-state.invariant.most k above (omega arith)
  ];
}

pub returns-clause-yes : goal.returns-clause-yes
returns-clause-yes c = λ _. record {
  positive = c.requires.positive;
  middle = c.requires.middle;
  least = λ k above below. c.loop-state.invariant.least k above (omega arith);
  most = λ k above below. c.loop-state.invariant.most k above (omega arith);
}
