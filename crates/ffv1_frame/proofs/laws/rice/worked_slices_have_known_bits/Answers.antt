-- Slices that are known from outside the program: what the definition of their bits gives.
use Rattle.std.proofs.Common.{refl}
use Rattle.ffv1_plane.specs.Context.{size_of, flip_of}
use Rattle.ffv1_line.specs.Cell.{seen}
use Rattle.ffv1_rice.specs.States.{parameter_from}
use Rattle.ffv1_rice.specs.Bits.{binary}
use Rattle.ffv1_rice.specs.Run.{run_log}
use Rattle.ffv1_rice.specs.Row.{places_of, places_bits, places_after}
use Rattle.ffv1_slice.specs.Grid.{reduced}
use Rattle.ffv1_frame.specs.RiceLines.{lines_bits}
use Rattle.ffv1_frame.proofs.laws.rice.worked_slices_have_known_bits.Goals as goal

pub returns-clause-zero : goal.returns-clause-zero
unfolding lines_bits places_of places_bits places_after binary run_log parameter_from seen size_of flip_of reduced
returns-clause-zero c = refl

pub returns-clause-greatest : goal.returns-clause-greatest
unfolding lines_bits places_of places_bits places_after binary run_log parameter_from seen size_of flip_of reduced
returns-clause-greatest c = refl

pub returns-clause-escape : goal.returns-clause-escape
unfolding lines_bits places_of places_bits places_after binary run_log parameter_from seen size_of flip_of reduced
returns-clause-escape c = refl

pub returns-clause-runs : goal.returns-clause-runs
unfolding lines_bits places_of places_bits places_after binary run_log parameter_from seen size_of flip_of reduced
returns-clause-runs c = refl

pub returns-clause-lower : goal.returns-clause-lower
unfolding lines_bits places_of places_bits places_after binary run_log parameter_from seen size_of flip_of reduced
returns-clause-lower c = refl

pub returns-clause-partial : goal.returns-clause-partial
unfolding lines_bits places_of places_bits places_after binary run_log parameter_from seen size_of flip_of reduced
returns-clause-partial c = refl

pub returns-clause-broken : goal.returns-clause-broken
unfolding lines_bits places_of places_bits places_after binary run_log parameter_from seen size_of flip_of reduced
returns-clause-broken c = refl

pub returns-clause-turned : goal.returns-clause-turned
unfolding lines_bits places_of places_bits places_after binary run_log parameter_from seen size_of flip_of reduced
returns-clause-turned c = refl

pub returns-clause-transparency : goal.returns-clause-transparency
unfolding lines_bits places_of places_bits places_after binary run_log parameter_from seen size_of flip_of reduced
returns-clause-transparency c = refl

pub returns-clause-red : goal.returns-clause-red
unfolding lines_bits places_of places_bits places_after binary run_log parameter_from seen size_of flip_of reduced
returns-clause-red c = refl

pub returns-clause-black : goal.returns-clause-black
unfolding lines_bits places_of places_bits places_after binary run_log parameter_from seen size_of flip_of reduced
returns-clause-black c = refl

pub returns-clause-clear : goal.returns-clause-clear
unfolding lines_bits places_of places_bits places_after binary run_log parameter_from seen size_of flip_of reduced
returns-clause-clear c = refl
