use Rattle.std.proofs.Common.{◌≡◌, ◌≤◌, take}
use Rattle.ffv1_range.specs.Counts.{ones_in}
use Rattle.ffv1_range.specs.Listed.{steps_of}
use Rattle.ffv1_range.proofs.encoder.batch.ones_of.Given as goal

abbrev pub invariant-loop-step : goal.invariant-loop-step
invariant-loop-step l = record {
  ones : l.ones ≡ ones_in (steps_of (take l.step-index l.list));
  of_all : l.ones ≤ l.step-index;
}
