-- The numbers of colours that a command line names are of 8 bits.
use Rattle.std.proofs.Common.{arith}
use Rattle.ffv1_engine.proofs.round_trip.named_colour_fits_a_file.Goals as goal

pub returns : goal.returns
returns c = λ rows choice is. record {
  matrix = let few = is.colour.matrix.5 in omega (arith, few);
  transfer = let few = is.colour.transfer.5 in omega (arith, few);
  primaries = let few = is.colour.primaries.5 in omega (arith, few);
}
