use Rattle.std.proofs.Common.{◌≡◌, ◌*◌, length}
use Rattle.ffv1_plane.specs.Quantisation.{contexts_of}
use Rattle.ffv1_speed.proofs.times.time.Given as goal

abbrev pub invariant-times : goal.invariant-times
invariant-times g l = length l.states ≡ contexts_of l.coding.set * 32
