use Rattle.std.proofs.Common.{◌≡◌, ◌≤◌, ◌+◌, length}
use Rattle.std.specs.Vec.{vec_capacity}
use Rattle.ffv1_range.specs.Internal.Registers.{interval_held, IsHolding}
use Rattle.ffv1_range.proofs.encoder.marked.release_all.Given as goal

abbrev pub invariant-held : goal.invariant-held
invariant-held g l = record {
  holding : IsHolding l.bytes.items l.holding.low l.holding.width l.holding.held;
  few : l.holding.held ≤ l.fn.holding.held;
  long : length l.bytes.items + l.holding.held ≡ length l.fn.bytes.items + l.fn.holding.held;
  room : vec_capacity l.fn.bytes ≤ vec_capacity l.bytes;
  same : interval_held l.bytes.items l.holding.low l.holding.width l.holding.held ≡ interval_held
      l.fn.bytes.items l.fn.holding.low l.fn.holding.width l.fn.holding.held;
}

abbrev pub decreases-held : goal.decreases-held
decreases-held g l = l.holding.held
