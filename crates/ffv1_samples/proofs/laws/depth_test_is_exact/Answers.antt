-- All samples of bytes are below 2 ^ depth where each one is, and only then.
use Rattle.ffv1_samples.proofs.Depths.{each_in_depth, in_depth_if_each}
use Rattle.ffv1_samples.proofs.laws.depth_test_is_exact.Goals as goal

pub returns : goal.returns
returns c = record { each = each_in_depth; all = in_depth_if_each }
