-- What one call after another leaves of the memory of an encoder.
use Rattle.std.proofs.Common.{arith}
use Rattle.ffv1_frame.specs.Length.{Capacities, KeepsCapacities}

pub kept_at_first : (all : Capacities) → KeepsCapacities all all
kept_at_first all = record { states = omega arith; narrow = omega arith; wide = omega arith }

pub kept_then : {old now new : Capacities} → KeepsCapacities old now → KeepsCapacities now new → KeepsCapacities old new
kept_then before later = record {
  states = omega (arith, before.states, later.states);
  narrow = omega (arith, before.narrow, later.narrow);
  wide = omega (arith, before.wide, later.wide);
}
