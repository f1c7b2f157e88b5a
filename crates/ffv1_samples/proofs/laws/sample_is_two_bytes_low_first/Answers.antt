-- A sample of two bytes, by its place.
use Rattle.ffv1_samples.proofs.Depths.{sample_at}
use Rattle.ffv1_samples.proofs.laws.sample_is_two_bytes_low_first.Goals as goal

pub returns : goal.returns
returns c = sample_at
