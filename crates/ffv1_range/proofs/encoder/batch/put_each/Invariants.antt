use Rattle.std.proofs.Common.{◌<◌, ◌≤◌, take, length}
use Rattle.ffv1_range.specs.Symbols.{AllHeld}
use Rattle.ffv1_range.specs.Listed.{steps_of}
use Rattle.ffv1_range.specs.Internal.Registers.{Writes, IsMarked, held_in, standing}
use Rattle.ffv1_range.specs.Internal.Registers.{interval_marked}
use Rattle.ffv1_range.proofs.encoder.batch.put_each.Given as goal

abbrev pub invariant-loop-step : goal.invariant-loop-step
invariant-loop-step g l = record {
  held : AllHeld l.table l.states;
  marked : IsMarked l.bytes.items l.marked.low l.marked.width;
  few : held_in l.marked.low < 4;
  grown : length l.fn.bytes.items ≤ length l.bytes.items;
  writes : Writes l.table (standing (interval_marked l.fn.bytes.items l.fn.marked.low l.fn.marked.width))
      l.fn.states
      (standing (interval_marked l.bytes.items l.marked.low l.marked.width)) l.states
      (steps_of (take l.step-index l.list));
}
