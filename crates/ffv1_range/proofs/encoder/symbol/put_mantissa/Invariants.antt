use Rattle.std.proofs.Common.{◌-◌, ◌^◌, ◌/◌, ◌≤◌, length}
use Rattle.ffv1_range.specs.Symbols.{AreHeld, mantissa_steps}
use Rattle.ffv1_range.specs.Internal.Registers.{Writes, standing}
use Rattle.ffv1_range.proofs.encoder.symbol.put_mantissa.Given as goal

abbrev pub invariant-loop-place : goal.invariant-loop-place
invariant-loop-place g l = record {
  held : AreHeld l.table l.states;
  sound : g.R.Registers.are_sound l.bytes.items l.registers;
  grown : length l.fn.bytes.items ≤ length l.bytes.items;
  below : l.place ≤ l.exponent;
  writes : Writes l.table (standing (g.R.Registers.interval l.fn.bytes.items l.fn.registers)) l.fn.states
      (standing (g.R.Registers.interval l.bytes.items l.registers)) l.states
      (mantissa_steps (l.exponent - l.place) l.place (l.number / 2 ^ l.place));
}

abbrev pub invariant-high : goal.invariant-high
invariant-high g l = record {
  held : AreHeld l.table l.states;
  sound : g.R.Registers.are_sound l.bytes.items l.registers;
  grown : length l.fn.bytes.items ≤ length l.bytes.items;
  below : l.place ≤ l.exponent;
  above : l.few ≤ l.place;
  writes : Writes l.table (standing (g.R.Registers.interval l.fn.bytes.items l.fn.registers)) l.fn.states
      (standing (g.R.Registers.interval l.bytes.items l.registers)) l.states
      (mantissa_steps (l.exponent - l.place) l.place (l.number / 2 ^ l.place));
}
