use Rattle.ffv1_range.specs.Symbols.{AreHeld, raising}
use Rattle.ffv1_range.specs.Internal.Registers.{Reads}
use Rattle.ffv1_range.proofs.decoder.symbol.get_exponent.Given as goal

abbrev pub invariant-near : goal.invariant-near
invariant-near l = record {
  held : AreHeld l.table l.states;
  reads : Reads l.table l.fn.decoder l.fn.states l.decoder l.states (raising l.exponent);
}

abbrev pub invariant-far : goal.invariant-far
invariant-far l = record {
  held : AreHeld l.table l.states;
  reads : Reads l.table l.fn.decoder l.fn.states l.decoder l.states (raising l.exponent);
}
