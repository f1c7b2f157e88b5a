use Rattle.std.proofs.Common.{◌≡◌, ◌+◌, ◌*◌, ◌≤◌, List, ℕ, length}
use Rattle.ffv1_range.specs.Counts.{ones_in}
use Rattle.ffv1_range.specs.Rows.{rows_steps}
use Rattle.ffv1_range.proofs.encoder.rows.sums_of.Given as goal

abbrev pub invariant-loop-number : goal.invariant-loop-number
invariant-loop-number l = record {
  few : l.sums.ones + l.sums.zeros ≤ 63 * l.number-index;
  ones : (rows : List ℕ) → l.sums.ones ≡ ones_in (rows_steps rows l.numbers l.number-index);
  all : (rows : List ℕ) → l.sums.ones + l.sums.zeros ≡
      length (rows_steps rows l.numbers l.number-index);
}
