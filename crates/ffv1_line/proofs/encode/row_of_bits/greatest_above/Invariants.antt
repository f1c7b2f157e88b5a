use Rattle.std.proofs.Common.{ℕ, ◌+◌, ◌-◌, ◌%◌, ◌^◌, ◌<◌, ◌≤◌, slice_index}
use Rattle.ffv1_line.proofs.encode.row_of_bits.greatest_above.Given as goal

abbrev pub invariant-loop-number : goal.invariant-loop-number
invariant-loop-number l = record {
  each : (k : ℕ) → k < l.number-index →
      (slice_index l.numbers k + (2 ^ 16 - l.least)) % 2 ^ 16 ≤ l.greatest;
}
