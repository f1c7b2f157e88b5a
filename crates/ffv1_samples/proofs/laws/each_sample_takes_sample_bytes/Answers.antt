-- How long the bytes of samples are, and how many samples stand in bytes.
use Rattle.ffv1_samples.proofs.Depths.{length_bytes, length_samples}
use Rattle.ffv1_samples.proofs.laws.each_sample_takes_sample_bytes.Goals as goal

pub returns : goal.returns
returns c = record { bytes = length_bytes; samples = length_samples }
