use Rattle.std.proofs.Common.{◌-◌, ◌^◌, ◌*◌, ◌<◌, ◌≤◌}
use Rattle.ffv1_range.specs.Symbols.{AreHeld, mantissa_steps}
use Rattle.ffv1_range.specs.Internal.Registers.{Reads}
use Rattle.ffv1_range.proofs.decoder.symbol.get_far.Given as goal

abbrev pub invariant-loop-place : goal.invariant-loop-place
invariant-loop-place l = record {
  held : AreHeld l.table l.states;
  below : l.place ≤ l.exponent;
  least : 2 ^ (l.exponent - l.place) ≤ l.number;
  most : l.number < 2 * 2 ^ (l.exponent - l.place);
  reads : Reads l.table l.fn.decoder l.fn.states l.decoder l.states
      (mantissa_steps (l.exponent - l.place) l.place l.number);
}

abbrev pub invariant-high : goal.invariant-high
invariant-high l = record {
  held : AreHeld l.table l.states;
  below : l._place ≤ l.exponent;
  above : l.few ≤ l._place;
  least : 2 ^ (l.exponent - l._place) ≤ l.number;
  most : l.number < 2 * 2 ^ (l.exponent - l._place);
  reads : Reads l.table l.fn.decoder l.fn.states l.decoder l.states
      (mantissa_steps (l.exponent - l._place) l._place l.number);
}
