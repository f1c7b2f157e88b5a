use Rattle.std.proofs.Common.{◌≡◌, ◌≤◌, length}
use Rattle.ffv1_range.specs.Symbols.{AllHeld}
use Rattle.ffv1_range.specs.Rows.{rows_steps}
use Rattle.ffv1_range.specs.Internal.Registers.{Writes, standing}
use Rattle.ffv1_range.proofs.encoder.rows.put_each.Given as goal

abbrev pub invariant-loop-k : goal.invariant-loop-k
invariant-loop-k g l = record {
  held : AllHeld l.table l.states;
  sound : g.R.Registers.are_sound l.bytes.items l.registers;
  long : length l.states ≡ length l.fn.states;
  grown : length l.fn.bytes.items ≤ length l.bytes.items;
  writes : Writes l.table (standing (g.R.Registers.interval l.fn.bytes.items l.fn.registers))
      l.fn.states (standing (g.R.Registers.interval l.bytes.items l.registers)) l.states
      (rows_steps l.rows l.numbers l.k);
}
