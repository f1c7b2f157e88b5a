use Rattle.std.proofs.Common.{◌-◌, ◌^◌, ◌*◌, ◌<◌, ◌≤◌}
use Rattle.ffv1_range.specs.Symbols.{AreHeld, mantissa_steps}
use Rattle.ffv1_range.specs.Internal.Registers.{Reads}
use Rattle.ffv1_range.proofs.decoder.symbol.get_near.Given as goal

abbrev pub invariant-loop-place : goal.invariant-loop-place
invariant-loop-place l = record {
  held : AreHeld l.table l.states;
  below : l.place ≤ l.exponent;
  least : 2 ^ (l.exponent - l.place) ≤ l.number;
  most : l.number < 2 * 2 ^ (l.exponent - l.place);
  reads : Reads l.table l.fn.decoder l.fn.states l.decoder l.states
      (mantissa_steps (l.exponent - l.place) l.place l.number);
}
