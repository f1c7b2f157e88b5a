use Rattle.std.proofs.Common.{ℕ, List}
use Rattle.ffv1_range.specs.Symbols.{AreHeld, raising}
use Rattle.ffv1_range.specs.Reading.{Reading}
use Rattle.ffv1_range.specs.Internal.Registers.{Reads}
use Rattle.ffv1_range.proofs.decoder.fast_symbol.get_long_exponent.Given as goal

abbrev pub invariant-near : goal.invariant-near
invariant-near l = record {
  held : AreHeld l.table l.states;
  reads : (first : Reading) (fresh : List ℕ) → Reads l.table first fresh l.fn.decoder l.fn.states
      (raising 2) → Reads l.table first fresh l.decoder l.states (raising l.exponent);
}

abbrev pub invariant-far : goal.invariant-far
invariant-far l = record {
  held : AreHeld l.table l.states;
  reads : (first : Reading) (fresh : List ℕ) → Reads l.table first fresh l.fn.decoder l.fn.states
      (raising 2) → Reads l.table first fresh l.decoder l.states (raising l.exponent);
}
