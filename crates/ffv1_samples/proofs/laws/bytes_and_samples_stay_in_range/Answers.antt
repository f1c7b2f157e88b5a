-- The bytes of samples below 2 ^ 16, at a depth of 8 below 2 ^ 8, are bytes, and samples of bytes
-- lie below 2 ^ 16.
use Rattle.ffv1_samples.proofs.Depths.{bytes_small, samples_small}
use Rattle.ffv1_samples.proofs.laws.bytes_and_samples_stay_in_range.Goals as goal

pub returns : goal.returns
returns c = record { bytes = bytes_small; samples = samples_small }
