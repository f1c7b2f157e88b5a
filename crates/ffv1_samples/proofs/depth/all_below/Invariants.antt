use Rattle.std.proofs.Common.{◌≡◌, ◌*◌, take}
use Rattle.ffv1_samples.specs.Samples.{all_below, numbers_of_pairs}
use Rattle.ffv1_samples.proofs.depth.all_below.Given as goal

abbrev pub invariant-loop-place : goal.invariant-loop-place
invariant-loop-place l = l.below ≡ all_below l.most (numbers_of_pairs (take (2 * l.place) l.bytes))
