use Rattle.std.proofs.Common.{◌≤◌, length}
use Rattle.ffv1_range.specs.Symbols.{AreHeld, raising}
use Rattle.ffv1_range.specs.Internal.Registers.{Writes, standing}
use Rattle.ffv1_range.proofs.encoder.symbol.put_exponent.Given as goal

abbrev pub invariant-loop-k : goal.invariant-loop-k
invariant-loop-k g l = record {
  held : AreHeld l.table l.states;
  sound : g.R.Registers.are_sound l.bytes.items l.registers;
  grown : length l.fn.bytes.items ≤ length l.bytes.items;
  writes : Writes l.table (standing (g.R.Registers.interval l.fn.bytes.items l.fn.registers)) l.fn.states
      (standing (g.R.Registers.interval l.bytes.items l.registers)) l.states (raising l.k);
}

abbrev pub invariant-more : goal.invariant-more
invariant-more g l = record {
  held : AreHeld l.table l.states;
  sound : g.R.Registers.are_sound l.bytes.items l.registers;
  grown : length l.fn.bytes.items ≤ length l.bytes.items;
  writes : Writes l.table (standing (g.R.Registers.interval l.fn.bytes.items l.fn.registers)) l.fn.states
      (standing (g.R.Registers.interval l.bytes.items l.registers)) l.states (raising l._k);
}
